use Rattle.std.proofs.Common.{◌≤◌, ◌<◌, ℕ}
use Rattle.std.specs.Prelude.{slice_index_or, All}
use Rattle.locked_store.specs.Known.{Known}
use Rattle.server.proofs.serve_all.most_front.Given as goal

abbrev pub invariant-loop-handle : goal.invariant-loop-handle
invariant-loop-handle g l =
    ((i : ℕ) (d : Known) → i < l.handle-index → (slice_index_or l.handles i d).front ≤ l.most)
    × ((other : ℕ) → All (λ (h : Known). h.front ≤ other) l.handles → l.most ≤ other)
