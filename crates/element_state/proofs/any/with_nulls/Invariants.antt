use Rattle.std.proofs.Common.{◌≡◌, take}
use Rattle.std.specs.Prelude.{map}
use Rattle.keycode.specs.declared.value.Value.TheVariants.{Null}
use Rattle.element_state.proofs.any.with_nulls.Given as goal

abbrev pub invariant-loop-column : goal.invariant-loop-column
invariant-loop-column l = l.list.items ≡ map (λ c. (c, Null)) (take l.column-index l.columns)
