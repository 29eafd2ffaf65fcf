-- Cited by the definitions of Kept, reorganise/Laws, replay/Kept, row_write/Prepare and 1 more.
-- The schema versions as the core sees them: the `exists` pairs are those of element 0, which is public in every version.
use Rattle.std.specs.Prelude.{◌≡◌, ℕ, Bool, true, false, ◌∷◌, refl}
use mathlib.Core.List.{map as each}
use Rattle.std.specs.FinMap.{entries, from_entries}
use Rattle.std.proofs.Common.{sym, subst}
use Rattle.schema_version.specs.declared.element.ElementState.TheVariants.{Public}
use Rattle.schema_version.specs.declared.element.Way.{Way}
use Rattle.schema_version.specs.declared.element.Way.TheVariants.{Adding, Dropping}
use Rattle.element_state.specs.Sources.{Source, source_in}
use Rattle.schema_version.specs.declared.element.ElementDef.{ElementDef}
use Rattle.schema_version.specs.Version.{Version}
use Rattle.element_state.specs.Elements.{Meaning}
use Rattle.element_state.specs.Laws.{Laws}
use Rattle.element_state.specs.Tables.{within}
use Rattle.element_state.specs.Exists.{exists_meaning}
use Rattle.element_state.specs.lemmas.ExistsLaws.{exists_laws}
use Rattle.element_state.specs.Kinds.{kind_meaning, IsLawfulKind, kind_laws, kind_numbered}
use Rattle.element_state.specs.Items.{HasRange}
use Rattle.element_state.specs.Schemas.{Entry, Schema, Kinds}

-- the `exists` pairs of all rows, or an element of a table
pub data ElementKind : Type 0 where
  Row : ElementKind
  Of : (table : ℕ) → (source : Source) → ElementKind

-- what an element of that kind and number means
abbrev pub meaning_of : ℕ → ElementKind → Meaning
meaning_of number Row = record exists_meaning { number = number }
meaning_of number (Of table source) = within table (kind_meaning number source)

-- the element's number and its table's within the limits, and what its kind's laws want
pub record IsLawfulOf (number table : ℕ) (source : Source) : Type 0 where
  pub range : HasRange table number
  pub lawful : IsLawfulKind number source

-- what the laws want of it
abbrev pub IsLawful : ℕ → ElementKind → Type 0
IsLawful number Row = number ≡ 0
IsLawful number (Of table source) = IsLawfulOf number table source

pub numbered : (number : ℕ) (kind : ElementKind) → (meaning_of number kind).number ≡ number
numbered number Row = refl
numbered number (Of table source) = kind_numbered number source

pub laws : (number : ℕ) (kind : ElementKind) → IsLawful number kind → Laws (meaning_of number kind)
laws number Row lawful = subst (λ y. Laws (record exists_meaning { number = y })) (sym lawful) exists_laws
laws number (Of table source) lawful = kind_laws table number source lawful.lawful

-- the kinds that there are
abbrev pub the_kinds : Kinds ElementKind
the_kinds = record { meaning = meaning_of; numbered = numbered; lawful = IsLawful; laws = laws }

-- whether the element is on its way in
abbrev pub is_adding : Way → Bool
is_adding Adding = true
is_adding Dropping = false

-- an element of a version as the core sees it
abbrev pub entry_of : Version → ElementDef → Entry ElementKind
entry_of version element = record { kind = Of element.table (source_in version element.kind); state = element.state; adding = is_adding element.way }

-- the `exists` pairs as the core sees them
abbrev pub row_entry : Entry ElementKind
row_entry = record { kind = Row; state = Public; adding = true }

-- the elements of a version, and the `exists` pairs
abbrev pub schema_of : Version → Schema ElementKind
schema_of version = from_entries ((0, row_entry) ∷ each (λ (e : ℕ × ElementDef). (e.0, entry_of version e.1)) (entries version.elements))
