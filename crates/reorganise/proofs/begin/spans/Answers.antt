use Rattle.std.proofs.Common.{◌∙◌}
use Rattle.reorganise.proofs.Items.{spans_more}
use Rattle.reorganise.proofs.begin.spans.Goals as goal

pub loop-k-preserved : goal.loop-k-preserved
loop-k-preserved g c =
    let keys = g.I.ItemKeys.keys c.args.items.now in (
      spans_more c.args.scan_range keys c.args.pieces c.loop-k.k c.loop-k.list.items c.push.new.self.items c.loop-k.low c.in_ok-high.high c.in_ok-cursor.cursor c.loop-k.invariant.0 c.loop-k.invariant.1 c.in_ok-high.ensures c.in_ok-cursor.ensures c.in_ok-push.ensures.items,
      c.in_ok-next.ensures ∙ c.in_ok-high.ensures,
    )
