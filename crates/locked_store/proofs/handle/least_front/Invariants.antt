use Rattle.std.proofs.Common.{◌≤◌, ◌<◌, ℕ}
use Rattle.std.specs.Prelude.{slice_index_or, All}
use Rattle.locked_store.specs.Known.{Known}
use Rattle.locked_store.proofs.handle.least_front.Given as goal

abbrev pub invariant-loop-handle : goal.invariant-loop-handle
invariant-loop-handle g l =
    ((i : ℕ) (d : Known) → i < l.handle-index → l.least ≤ (slice_index_or l.handles i d).front)
    × ((other : ℕ) → All (λ (h : Known). other ≤ h.front) l.handles → other ≤ l.least)
