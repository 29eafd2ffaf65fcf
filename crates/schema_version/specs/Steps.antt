-- Cited by the contracts of steps_keep_to_edges, steps_stay_sound, indexed_columns_stay.
-- What a step does to each element.
use Rattle.std.specs.Prelude.{◌≡◌, ◌≢◌, ℕ, ◌≤◌, ◌<◌, List, Option, None, Some, Contains, ◌⊎◌}
use Rattle.schema_version.specs.declared.element.ElementState.{ElementState}
use Rattle.schema_version.specs.declared.element.ElementState.TheVariants.{Absent, Public}
use Rattle.schema_version.specs.declared.element.Way.{Way}
use Rattle.schema_version.specs.declared.element.Way.TheVariants.{Adding}
use Rattle.schema_version.specs.declared.element.ElementDef.{ElementDef}
use Rattle.schema_version.specs.declared.element.NewElement.{NewElement}
use Rattle.schema_version.specs.declared.step.Move.{Move}
use Rattle.schema_version.specs.declared.step.Move.TheVariants.{Enter, Go, Turn}
use Rattle.schema_version.specs.Edges.{edge, HasEdge}
use Rattle.schema_version.specs.Version.{Version, element_at, indexed_columns}
use Rattle.schema_version.specs.Sound.{IsSoundVersion}
use Rattle.schema_version.specs.Moves.{as_element, in_state, turned_back, after_step, IsAllowed}

-- the element, or none if it is absent
abbrev pub in_state_or_none : ElementDef → ElementState → Option ElementDef
in_state_or_none element Absent = None
in_state_or_none element to = Some (in_state element to)

-- The element of a number before and after these moves: it stays, it enters, or one move takes it on or turns it back.
pub data Change (moves : List Move) (next number : ℕ) (old new : Option ElementDef) : Type 0 where
  Stays : new ≡ old → Change moves next number old new
  Enters : (fresh : NewElement) (to : ElementState) → Contains moves (Enter fresh to) → next ≤ number → old ≡ None → new ≡ Some (as_element number fresh to) → Change moves next number old new
  Goes : (element : ElementDef) (to : ElementState) → Contains moves (Go number to) → old ≡ Some element → new ≡ in_state_or_none element to → Change moves next number old new
  Turns : (element : ElementDef) → Contains moves (Turn number) → old ≡ Some element → new ≡ Some (turned_back element) → Change moves next number old new

-- What an allowed step does to the element of a number: it stays, it enters by an edge from absent, it goes by an edge that is one of
-- its way or leaves public, or it turns back, being added and not public: it keeps its state and is dropped from then on.
pub data StepOf (next number : ℕ) (old new : Option ElementDef) : Type 0 where
  Same : new ≡ old → StepOf next number old new
  New : (fresh : NewElement) (to : ElementState) → next ≤ number → HasEdge fresh.kind Absent to → old ≡ None → new ≡ Some (as_element number fresh to) → StepOf next number old new
  Next : (element : ElementDef) (to : ElementState) (way : Way) → edge element.kind element.way element.state to ≡ Some way → old ≡ Some element → new ≡ in_state_or_none element to → StepOf next number old new
  Back : (element : ElementDef) → element.state ≢ Public → element.way ≡ Adding → old ≡ Some element → new ≡ Some (turned_back element) → StepOf next number old new

-- elements stand under their own numbers, which were given
pub record IsOrdered (version : Version) : Type 0 where
  pub numbered : (n : ℕ) (element : ElementDef) → element_at version n ≡ Some element → element.number ≡ n
  pub below : (n : ℕ) (element : ElementDef) → element_at version n ≡ Some element → n < version.next

-- an allowed step takes each element at most one edge on or turns it back, and gives new elements numbers that were never given
abbrev pub StepsKeepToEdges : Type 0
StepsKeepToEdges = (version : Version) (step : List Move) → IsOrdered version → IsAllowed version step → (n : ℕ) → StepOf version.next n (element_at version n) (element_at (after_step version step) n)

-- an allowed step of a sound version gives a sound one
abbrev pub StepsStaySound : Type 0
StepsStaySound = (version : Version) (step : List Move) → IsSoundVersion version → IsAllowed version step → IsSoundVersion (after_step version step)

-- the columns that an index lists, live before an allowed step or after it, are in that step what they were
abbrev pub IndexedColumnsStay : Type 0
IndexedColumnsStay =
    (version : Version) (step : List Move) → IsSoundVersion version → IsAllowed version step → (n column : ℕ) (index : ElementDef)
    → (element_at version n ≡ Some index) ⊎ (element_at (after_step version step) n ≡ Some index) → Contains (indexed_columns index.kind) column
    → element_at (after_step version step) column ≡ element_at version column
