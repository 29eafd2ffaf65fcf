use Rattle.std.proofs.Common.{◌≡◌, ◌+◌, ◌≤◌, ◌++◌, length, map, reverse, sum_by, All}
use Rattle.std.specs.Prelude.{vec_len, vec_capacity}
use Rattle.server.specs.HandlePorts.{SaidByCore}
use Rattle.server.specs.Outcomes.{IsLeaseReceipt}
use Rattle.server.specs.Works.{Orders, Serving}
use Rattle.server.proofs.serve_all.into_parts.Given as goal

abbrev pub invariant-loop-worker : goal.invariant-loop-worker
invariant-loop-worker g l =
    (vec_len l.handles + vec_len l.workers ≡ vec_len l.fn.workers) × (vec_len l.receipts ≡ vec_len l.handles)
    × (vec_len l.fn.workers ≤ vec_capacity l.handles) × (vec_len l.fn.workers ≤ vec_capacity l.receipts)
    × (l.handles.items ++ reverse (map (λ (w : Serving). w.handle) l.workers.items) ≡ reverse (map (λ (w : Serving). w.handle) l.fn.workers.items))
    × (sum_by length l.receipts.items + sum_by (λ (w : Serving). length w.kept_receipts) l.workers.items ≡ sum_by (λ (w : Serving). length w.kept_receipts) l.fn.workers.items)
    × ((orders : Orders) → All (λ (w : Serving). w.orders ≡ orders) l.fn.workers.items → All (λ (w : Serving). w.orders ≡ orders) l.workers.items × All (All (IsLeaseReceipt (SaidByCore g.L.SharedLedger.start orders.front orders.most))) l.receipts.items)
    × (All (λ (w : Serving). w.first_front ≤ w.handle.front) l.workers.items → All (λ (w : Serving). w.first_front ≤ w.handle.front) l.fn.workers.items)

abbrev pub decreases-loop-worker : goal.decreases-loop-worker
decreases-loop-worker g l = vec_len l.workers
