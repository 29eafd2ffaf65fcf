use Rattle.std.proofs.Common.{◌≡◌, drop}
use Rattle.checkpoint_code.specs.Page.{rise_after}
use Rattle.checkpoint_code.proofs.page.rise_after.Given as goal

abbrev pub invariant-loop-pair : goal.invariant-loop-pair
invariant-loop-pair l = rise_after l.before (drop l.pair-index l.pairs) ≡ rise_after l.key l.pairs
