use Rattle.std.proofs.Common.{◌≡◌, ◌+◌, ◌<◌, ◌≤◌, ◌++◌, ℕ, length, All, map, reverse}
use Rattle.std.specs.Prelude.{vec_len, vec_capacity, slice_index_or}
use Rattle.claims.specs.Draws.{times}
use Rattle.claims.specs.Seats.{all_drawn}
use Rattle.tasks.specs.Outcomes.{held_in, held_all, AreFit, AreOnce, IsOnPlan, IsRow}
use Rattle.tasks.proofs.place.collect.Given as goal

abbrev pub invariant-loop-worker_slot : goal.invariant-loop-worker_slot
invariant-loop-worker_slot g l = record {
  len : (vec_len l.workers + vec_len l.worker_slots ≡ vec_len l.fn.worker_slots) × (vec_len l.seats ≡ vec_len l.workers);
  room : (vec_len l.fn.worker_slots ≤ vec_capacity l.workers) × (vec_len l.fn.worker_slots ≤ vec_capacity l.seats);
  workers : l.workers.items ++ reverse (map (λ s. s.worker) l.worker_slots.items) ≡ reverse (map (λ s. s.worker) l.fn.worker_slots.items);
  row : IsRow g.T.Drawing.total l.outcomes.items;
  fits : (plan : g.W.Worker.Plan) → All (λ s. IsOnPlan g.W.Worker.plan g.W.Worker.fits plan s.worker s.done.items) l.fn.worker_slots.items → AreFit (g.W.Worker.fits plan) l.fn.outcomes.items
      → All (λ s. IsOnPlan g.W.Worker.plan g.W.Worker.fits plan s.worker s.done.items) l.worker_slots.items × AreFit (g.W.Worker.fits plan) l.outcomes.items;
  free : (held : _ → ℕ) → held_in held l.fn.outcomes.items ≡ 0 → (x : ℕ) (d : ℕ × _) → times x (all_drawn l.seats.items) ≡ 0 → x < length l.outcomes.items → held (slice_index_or l.outcomes.items x d).1 ≡ 0;
  counted : (held : _ → ℕ) → held_in held l.fn.outcomes.items ≡ 0 → AreOnce (all_drawn l.seats.items)
      → held_in held l.outcomes.items + held_all held (map (λ s. s.done.items) l.worker_slots.items) ≡ held_all held (map (λ s. s.done.items) l.fn.worker_slots.items);
}

abbrev pub decreases-loop-worker_slot : goal.decreases-loop-worker_slot
decreases-loop-worker_slot g l = vec_len l.worker_slots
