use Rattle.std.proofs.Common.{◌∙◌, ◌+◌, arith}
use Rattle.page_map.proofs.Placing.{page_copied}
use Rattle.page_map.proofs.cut.parts.Goals as goal

pub loop-at-preserved : goal.loop-at-preserved
loop-at-preserved c = record {
  in_range = omega arith;
  whole = page_copied c.loop-at.pages.items _ c.in_ok-new.field-0 c.args.pairs.now.pairs c.loop-at.at (c.loop-at.at + c.share.result) (omega arith) c.in_ok-push.ensures.items (c.in_ok-new.ensures ∙ c.in_ok-part.ensures) c.loop-at.invariant.whole;
}
