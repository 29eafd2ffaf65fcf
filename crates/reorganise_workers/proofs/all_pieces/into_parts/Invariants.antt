use Rattle.std.proofs.Common.{◌≡◌, ◌+◌, ◌≤◌, ◌++◌, All, length, map, reverse, sum_by}
use Rattle.std.specs.Prelude.{vec_len, vec_capacity}
use Rattle.reorganise_workers.specs.Ends.{IsPieceReceipt}
use Rattle.reorganise_workers.specs.inner.Workers.{Filling}
use Rattle.reorganise_workers.specs.declared.job.Job.{Job}
use Rattle.reorganise_workers.proofs.all_pieces.into_parts.Given as goal

abbrev pub invariant-loop-worker : goal.invariant-loop-worker
invariant-loop-worker g l =
    (vec_len l.handles + vec_len l.workers ≡ vec_len l.fn.workers) × (vec_len l.receipts ≡ vec_len l.handles)
    × (vec_len l.fn.workers ≤ vec_capacity l.handles) × (vec_len l.fn.workers ≤ vec_capacity l.receipts)
    × (l.handles.items ++ reverse (map (λ (w : Filling). w.handle) l.workers.items) ≡ reverse (map (λ (w : Filling). w.handle) l.fn.workers.items))
    × (sum_by length l.receipts.items + sum_by (λ (w : Filling). length w.kept_receipts) l.workers.items ≡ sum_by (λ (w : Filling). length w.kept_receipts) l.fn.workers.items)
    × ((job : Job) → All (λ (w : Filling). w.job ≡ job) l.fn.workers.items
    → All (λ (w : Filling). w.job ≡ job) l.workers.items × All (All (IsPieceReceipt g.L.SharedLedger.start job)) l.receipts.items)
    × (All (λ (w : Filling). w.first_front ≤ w.handle.front) l.workers.items → All (λ (w : Filling). w.first_front ≤ w.handle.front) l.fn.workers.items)

abbrev pub decreases-loop-worker : goal.decreases-loop-worker
decreases-loop-worker g l = vec_len l.workers
