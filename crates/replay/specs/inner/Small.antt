-- Cited by private functions alone: .
-- What the core wants of a version's numbers.
use Rattle.std.specs.Prelude.{◌≡◌, ℕ, ◌≤◌, ◌<◌, ◌^◌, length, Some}
use Rattle.schema_version.specs.declared.element.ElementDef.{ElementDef}
use Rattle.schema_version.specs.Version.{Version, Table, table_at, element_at}

-- what a version's tables are: their numbers fit the keys, and they have 1 to 4 key columns
abbrev pub AreTablesSmall : Version → Type 0
AreTablesSmall version = (number : ℕ) (table : Table) → table_at version number ≡ Some table → (number < 2 ^ 32) × (1 ≤ length table.key) × (length table.key ≤ 4)

-- the numbers of a version's elements
abbrev pub AreNumbersFit : Version → Type 0
AreNumbersFit version = (number : ℕ) (element : ElementDef) → element_at version number ≡ Some element → (1 ≤ number) × (number ≤ 1000000)
