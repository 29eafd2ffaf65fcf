-- Cited by the contracts of publications_find_exact.
-- What a publication finds: the pairs are already what the next version demands.
use Rattle.std.specs.Prelude.{◌≡◌, ℕ, ◌≤◌, List, Some, Ok, ◌∷◌, length}
use Rattle.lease.specs.Timeline.{IsValid, newest as newest_number}
use Rattle.schema_version.specs.declared.element.ElementState.TheVariants.{Absent, Public}
use Rattle.schema_version.specs.declared.element.ElementDef.{ElementDef}
use Rattle.schema_version.specs.declared.step.Move.{Move}
use Rattle.schema_version.specs.Version.{element_at, state_of}
use Rattle.element_state.specs.Consistent.{IsConsistent}
use Rattle.element_state.specs.Elements.{Empty, Exact}
use Rattle.element_state.specs.Kinds.{kind_meaning}
use Rattle.element_state.specs.Sources.{source_in}
use Rattle.element_state.specs.Tables.{within}
use Rattle.world.specs.declared.entry.Receipt.{Receipt}
use Rattle.world.specs.Publish.{PublishAt}
use Rattle.world.specs.State.{State, facts_of, Agrees}

-- an accepted publication; the state after it has a valid timeline, and pairs that agree with the rows
pub record IsPublication (old : State) (now : ℕ) (step : List Move) (new : State) : Type 0 where
  pub done : ℕ × Receipt
  pub accepted : PublishAt old now step (Ok done) new
  pub valid : IsValid (facts_of new).line
  pub counted : length ((facts_of new).newest ∷ (facts_of new).older) ≡ newest_number (facts_of new).line
  pub agrees : Agrees new

-- the store before it is consistent with the version after it
abbrev pub FindsConsistent : Type 0
FindsConsistent = (old new : State) (now : ℕ) (step : List Move) → IsPublication old now step new → IsConsistent (facts_of new).newest (facts_of old).rows old.pairs

-- an element that is public after it had exactly the pairs that the rows give it
abbrev pub FindsExact : Type 0
FindsExact =
    (old new : State) (now : ℕ) (step : List Move) (number : ℕ) (element : ElementDef) → IsPublication old now step new → 1 ≤ number
    → element_at (facts_of new).newest number ≡ Some element → element.state ≡ Public
    → Exact (within element.table (kind_meaning number (source_in (facts_of new).newest element.kind))) old.pairs (facts_of old).rows

-- an element that is absent after it had no pairs
abbrev pub FindsEmpty : Type 0
FindsEmpty =
    (old new : State) (now : ℕ) (step : List Move) (number : ℕ) → IsPublication old now step new → 1 ≤ number
    → state_of (facts_of new).newest number ≡ Absent
    → Empty number old.pairs
