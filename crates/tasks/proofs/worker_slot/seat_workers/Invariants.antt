use Rattle.std.proofs.Common.{◌≡◌, ◌+◌, ◌≤◌, [], ◌++◌, All, map, reverse}
use Rattle.std.specs.Prelude.{vec_len, vec_capacity}
use Rattle.claims.specs.Seats.{all_drawn}
use Rattle.tasks.proofs.worker_slot.seat_workers.Given as goal

abbrev pub invariant-loop-worker : goal.invariant-loop-worker
invariant-loop-worker g l = record {
  seats : vec_len l.seats ≡ vec_len l.workers;
  len : vec_len l.worker_slots + vec_len l.workers ≡ vec_len l.fn.workers;
  room : vec_len l.fn.workers ≤ vec_capacity l.worker_slots;
  rooms : (vec_capacity l.workers ≡ vec_capacity l.fn.workers) × (vec_capacity l.seats ≡ vec_capacity l.fn.seats);
  drawn : all_drawn l.seats.items ≡ [];
  workers : l.workers.items ++ reverse (map (λ s. s.worker) l.worker_slots.items) ≡ l.fn.workers.items;
  idle : All (λ s. s.done.items ≡ []) l.worker_slots.items;
  planned : All (λ w. g.W.Worker.total (g.W.Worker.plan w) ≡ g.T.Drawing.total) l.workers.items;
}

abbrev pub decreases-loop-worker : goal.decreases-loop-worker
decreases-loop-worker g l = vec_len l.workers
