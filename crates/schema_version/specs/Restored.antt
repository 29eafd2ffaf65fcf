-- Cited by the contracts of Schema::restored, parts_are_exact.
-- A version from its parts: the tables, the live elements and the next free number.
use Rattle.std.specs.Prelude.{◌≡◌, ℕ, ◌<◌, List, [], ◌∷◌, ⊤}
use Rattle.std.specs.List.{AllByRecursion}
use mathlib.Core.List.{map as each}
use Rattle.std.specs.FinMap as map
use Rattle.row_map.specs.declared.shape.ColumnType.{ColumnType}
use Rattle.schema_version.specs.declared.element.ElementDef.{ElementDef}
use Rattle.schema_version.specs.Version.{Version, Table, live as live_of}
use Rattle.schema_version.specs.Sound.{IsSoundVersion}

-- a table's name, and the names and types of its key columns
abbrev pub Part : Type 0
Part = List ℕ × List (List ℕ × ColumnType)

abbrev pub table_with : Part → Table
table_with part = record { name = part.0; key = part.1 }

abbrev pub part_of : Table → Part
part_of table = (table.name, table.key)

-- each element comes before those of greater numbers
abbrev pub AreRising : List ElementDef → Type 0
AreRising [] = ⊤
AreRising (element ∷ elements) = AllByRecursion (λ (later : ElementDef). element.number < later.number) elements × AreRising elements

-- the elements under their numbers
abbrev pub numbered : List ElementDef → List (ℕ × ElementDef)
numbered elements = each (λ (e : ElementDef). (e.number, e)) elements

-- the version with these parts
abbrev pub version_with : List Part → List ElementDef → ℕ → Version
version_with tables elements next = record { tables = each table_with tables; elements = map.from_sorted (numbered elements); next = next }

-- these are the parts of a sound version, its live elements by rising number
pub record IsRestorable (tables : List Part) (elements : List ElementDef) (next : ℕ) : Type 0 where
  pub rising : AreRising elements
  pub sound : IsSoundVersion (version_with tables elements next)

-- the parts of each sound version are such, and they are the parts of no other version
pub record PartsAreExact : Type 0 where
  pub restorable : (version : Version) → IsSoundVersion version → IsRestorable (each part_of version.tables) (live_of version) version.next
  pub whole : (version : Version) → IsSoundVersion version → version_with (each part_of version.tables) (live_of version) version.next ≡ version
  pub tables : (tables : List Part) (elements : List ElementDef) (next : ℕ) → each part_of (version_with tables elements next).tables ≡ tables
  pub live : (tables : List Part) (elements : List ElementDef) (next : ℕ) → AreRising elements → live_of (version_with tables elements next) ≡ elements
