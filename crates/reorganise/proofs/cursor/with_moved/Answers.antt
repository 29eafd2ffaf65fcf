use Rattle.std.proofs.Common.{rules}
use Rattle.reorganise.proofs.Cursors.{past_last, set_cursor}
use Rattle.reorganise.proofs.cursor.with_moved.Goals as goal

pub returns-then-place-len : goal.returns-then-place-len
returns-then-place-len c = past_last c.args.piece c.args.cursor c.args.pieces.items (search rules)

pub returns : goal.returns
returns c = set_cursor c.args.piece c.args.cursor c.args.pieces.items c.index_mut.result.now (search rules) c.index_mut.ensures.value
