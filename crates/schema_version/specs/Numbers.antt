-- Cited by the contracts of numbers_end.
-- The last number that an element may get.
use Rattle.std.specs.Prelude.{◌≡◌, ℕ, List, [], ◌∷◌, Some, count_by}
use Rattle.std.specs.FinMap as map
use Rattle.row_map.specs.declared.shape.ColumnType.TheVariants.{Int}
use Rattle.schema_version.specs.declared.element.ElementState.TheVariants.{DeleteOnly}
use Rattle.schema_version.specs.declared.element.Kind.TheVariants.{Optional}
use Rattle.schema_version.specs.declared.element.NewElement.{NewElement}
use Rattle.schema_version.specs.declared.step.Move.{Move}
use Rattle.schema_version.specs.declared.step.Move.TheVariants.{Enter}
use Rattle.schema_version.specs.declared.step.StepFault.{StepFault}
use Rattle.schema_version.specs.declared.step.StepFault.TheVariants.{Limit}
use Rattle.schema_version.specs.Version.{Version, element_at}
use Rattle.schema_version.specs.Sound.{IsSoundVersion}
use Rattle.schema_version.specs.Moves.{IsAllowed, IsRefused, after_step, as_element, is_entry}

-- a version of the table t (id int key) that has no live element and this next number
abbrev pub bare : ℕ → Version
bare next = record { tables = record { name = 0x74 ∷ []; key = (0x69 ∷ 0x64 ∷ [], Int) ∷ [] } ∷ []; elements = map.empty; next = next }

-- the column a int of that table
abbrev pub column_a : NewElement
column_a = record { table = 1; name = 0x61 ∷ []; kind = Optional Int }

-- the step that enters it
abbrev pub entry_of_a : List Move
entry_of_a = Enter column_a DeleteOnly ∷ []

-- Where 1,000,000 is the next number, a column enters and gets it.
pub record LastIsGiven : Type 0 where
  pub sound : IsSoundVersion (bare 1000000)
  pub allowed : IsAllowed (bare 1000000) entry_of_a
  pub given : element_at (after_step (bare 1000000) entry_of_a) 1000000 ≡ Some (as_element 1000000 column_a DeleteOnly)
  pub next : (after_step (bare 1000000) entry_of_a).next ≡ 1000001

-- If it was given, the same step is refused with Limit and with nothing else, and no allowed step
-- of any version enters an element.
pub record NoneIsLeft : Type 0 where
  pub sound : IsSoundVersion (bare 1000001)
  pub refused : IsRefused (bare 1000001) entry_of_a Limit
  pub only : (fault : StepFault) → IsRefused (bare 1000001) entry_of_a fault → fault ≡ Limit
  pub none : (version : Version) (step : List Move) → version.next ≡ 1000001 → IsAllowed version step → count_by is_entry step ≡ 0

abbrev pub NumbersEnd : Type 0
NumbersEnd = LastIsGiven × NoneIsLeft
