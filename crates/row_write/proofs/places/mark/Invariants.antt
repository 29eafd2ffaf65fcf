use Rattle.std.proofs.Common.{◌≤◌, ◌+◌, ℕ}
use Rattle.row_write.specs.inner.Places.{AreOrOld}
use Rattle.row_write.proofs.places.mark.Given as goal

abbrev pub invariant-loop-i : goal.invariant-loop-i
invariant-loop-i l = (k : ℕ) → AreOrOld l.initial.marks l.marks k ((l.at ≤ k) × (k + 1 ≤ l.i))
