use Rattle.std.proofs.Common.{◌≡◌}
use mathlib.Core.List.{map}
use Rattle.script_session.proofs.plan.moves_of.Given as goal

abbrev pub invariant-loop-step : goal.invariant-loop-step
invariant-loop-step l = l.moves.items ≡ map (λ s. s.step) l.yielded
