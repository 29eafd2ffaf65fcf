use Rattle.std.proofs.Common.{◌≡◌, ◌+◌, ◌<◌, ◌≤◌, ℕ, All}
use Rattle.std.specs.Prelude.{vec_len, slice_index_or}
use Rattle.claims.specs.Draws.{times}
use Rattle.tasks.specs.Outcomes.{held_in, numbers_of, AreFit, AreFree, AreOnce, IsRow}
use Rattle.tasks.proofs.place.place.Given as goal

abbrev pub invariant-loop-number : goal.invariant-loop-number
invariant-loop-number g l = record {
  len : vec_len l.outcomes ≡ vec_len l.fn.outcomes;
  row : IsRow (vec_len l.fn.outcomes) l.outcomes.items;
  inside : All (λ o. o.0 < vec_len l.fn.outcomes) l.done.items;
  fewer : (x : ℕ) → times x (numbers_of l.done.items) ≤ times x (numbers_of l.fn.done.items);
  others : (x : ℕ) → times x (numbers_of l.fn.done.items) ≡ 0 → (d : _) → slice_index_or l.outcomes.items x d ≡ slice_index_or l.fn.outcomes.items x d;
  fits : (plan : g.W.Worker.Plan) → AreFit (g.W.Worker.fits plan) l.fn.done.items → AreFit (g.W.Worker.fits plan) l.fn.outcomes.items
      → AreFit (g.W.Worker.fits plan) l.done.items × AreFit (g.W.Worker.fits plan) l.outcomes.items;
  counted : (held : _ → ℕ) → AreOnce (numbers_of l.fn.done.items) → AreFree held (numbers_of l.fn.done.items) l.fn.outcomes.items
      → AreFree held (numbers_of l.done.items) l.outcomes.items × (held_in held l.outcomes.items + held_in held l.done.items ≡ held_in held l.fn.outcomes.items + held_in held l.fn.done.items);
}

abbrev pub decreases-loop-number : goal.decreases-loop-number
decreases-loop-number g l = vec_len l.done
