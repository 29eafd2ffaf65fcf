use Rattle.std.proofs.Common.{◌≡◌, ◌+◌, ◌≤◌, ◌++◌, All, map, reverse}
use Rattle.std.specs.Prelude.{vec_len, vec_capacity}
use Rattle.locked_store.specs.Known.{Known}
use Rattle.reorganise_workers.specs.Ends.{HasSeen}
use Rattle.reorganise_workers.specs.inner.Workers.{Filling, AreIdle}
use Rattle.reorganise_workers.proofs.all_pieces.make_workers.Given as goal

abbrev pub invariant-loop-handle : goal.invariant-loop-handle
invariant-loop-handle g l =
    (vec_len l.workers + vec_len l.handles ≡ vec_len l.fn.handles) × (vec_len l.fn.handles ≤ vec_capacity l.workers) × (vec_capacity l.handles ≡ vec_capacity l.fn.handles)
    × (map (λ (w : Filling). w.handle) l.workers.items ++ reverse l.handles.items ≡ reverse l.fn.handles.items)
    × AreIdle l.job l.workers.items
    × All (λ (h : Known). l.job.front ≤ h.front) l.handles.items
    × All (λ (h : Known). HasSeen g.L.SharedLedger.start l.job.most h.front) l.handles.items

abbrev pub decreases-loop-handle : goal.decreases-loop-handle
decreases-loop-handle g l = vec_len l.handles
