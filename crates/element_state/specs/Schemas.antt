-- Cited by the definitions of Core, Kept, Opening, Pieces and 6 more.
-- What a version's elements write together, whatever their kinds.
use Rattle.std.specs.Prelude.{◌≡◌, ℕ, Bool, List, [], ◌∷◌, ◌++◌, Option, Some, None}
use Rattle.std.specs.FinMap.{FinMap, get, entries}
use Rattle.std.specs.Ordering.{nat_cmp}
use Rattle.row_map.specs.Writes.{Writes}
use Rattle.schema_version.specs.declared.element.ElementState.{ElementState}
use Rattle.schema_version.specs.declared.element.ElementState.TheVariants.{Absent}
use Rattle.element_state.specs.Elements.{Change, Meaning}
use Rattle.element_state.specs.Laws.{Laws}

-- an element as a version has it. A number that a version lacks is absent there
pub record Entry (K : Type 0) : Type 0 where
  pub kind : K
  pub state : ElementState
  pub adding : Bool

-- the elements of a version by number
abbrev pub Schema : Type 0 → Type 0
Schema K = FinMap nat_cmp (Entry K)

-- the state of an element in a version
abbrev pub state_of : {K : Type 0} → Option (Entry K) → ElementState
state_of None = Absent
state_of (Some e) = e.state

-- the kinds of element: what each means, what its laws want of it, and its laws
pub record Kinds (K : Type 0) : Type 1 where
  pub meaning : ℕ → K → Meaning
  pub numbered : (n : ℕ) (k : K) → (meaning n k).number ≡ n
  pub lawful : ℕ → K → Type 0
  pub laws : (n : ℕ) (k : K) → lawful n k → Laws (meaning n k)

-- what the elements of a list write, in turn
abbrev pub writes_of : {K : Type 0} → (ℕ → K → Meaning) → List (ℕ × Entry K) → Change → Writes
writes_of meaning [] c = []
writes_of meaning (e ∷ es) c = (meaning e.0 e.1.kind).writes e.1.state c ++ writes_of meaning es c

module _ {K : Type 0} (ks : Kinds K) where
  -- every element of a version is as its laws want it
  abbrev pub AreLawful : Schema K → Type 0
  AreLawful s = (n : ℕ) (e : Entry K) → get s n ≡ Some e → ks.lawful n e.kind

  -- all writes of a version
  abbrev pub version_writes : Schema K → Change → Writes
  version_writes s c = writes_of ks.meaning (entries s) c
