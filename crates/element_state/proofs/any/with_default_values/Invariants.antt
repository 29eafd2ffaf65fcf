use Rattle.std.proofs.Common.{◌≡◌, take}
use Rattle.std.specs.Prelude.{map}
use Rattle.element_state.specs.Sources.{default_value_at}
use Rattle.element_state.proofs.any.with_default_values.Given as goal

abbrev pub invariant-loop-column : goal.invariant-loop-column
invariant-loop-column l = l.list.items ≡ map (λ c. (c, default_value_at l.schema c)) (take l.column-index l.columns)
