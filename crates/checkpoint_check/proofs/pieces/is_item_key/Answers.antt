use Rattle.checkpoint_check.proofs.Bounds.{item_decided}
use Rattle.checkpoint_check.proofs.pieces.is_item_key.Goals as goal

pub returns : goal.returns
returns c = item_decided c.args.key.now c.in_ok-read.read c.in_ok-read.ensures.read c.in_ok-read.ensures.encoded c.args.element.now c.args.kind _ c.names_item.ensures
