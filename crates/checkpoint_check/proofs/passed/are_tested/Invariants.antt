use Rattle.std.proofs.Common.{drop}
use Rattle.checkpoint_check.specs.inner.Passed.{AreTested}
use Rattle.checkpoint_check.proofs.passed.are_tested.Given as goal

-- all stand the test exactly when those do that are left
abbrev pub invariant-loop-i : goal.invariant-loop-i
invariant-loop-i g l = record {
  up : AreTested l.before l.newest (g.V.PairView.pairs l.view) (drop l.i l.begun) → AreTested l.before l.newest (g.V.PairView.pairs l.view) l.begun;
  down : AreTested l.before l.newest (g.V.PairView.pairs l.view) l.begun → AreTested l.before l.newest (g.V.PairView.pairs l.view) (drop l.i l.begun);
}
