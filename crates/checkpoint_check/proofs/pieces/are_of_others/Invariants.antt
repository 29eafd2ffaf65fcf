use Rattle.std.proofs.Common.{take}
use Rattle.std.specs.List.{AllByRecursion}
use Rattle.replay.specs.Kept.{IsOfAnother}
use Rattle.checkpoint_check.proofs.pieces.are_of_others.Given as goal

abbrev pub invariant-loop-other : goal.invariant-loop-other
invariant-loop-other l = AllByRecursion (IsOfAnother l.one) (take l.other-index l.others)
