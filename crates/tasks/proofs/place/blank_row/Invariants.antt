use Rattle.std.proofs.Common.{◌≡◌, ◌≤◌}
use Rattle.std.specs.Prelude.{vec_capacity}
use Rattle.tasks.specs.Outcomes.{held_in, AreFit, IsRow}
use Rattle.tasks.proofs.place.blank_row.Given as goal

abbrev pub invariant-loop-number : goal.invariant-loop-number
invariant-loop-number g l = record {
  row : IsRow l.number l.outcomes.items;
  none : (held_in g.W.Worker.held l.outcomes.items ≡ 0) × (held_in g.W.Worker.reported l.outcomes.items ≡ 0);
  fits : (plan : g.W.Worker.Plan) → AreFit (g.W.Worker.fits plan) l.outcomes.items;
  room : l.count ≤ vec_capacity l.outcomes;
}
