-- Cited by the contracts of Schema::lemma_known, world::World::lemma_agrees.
-- What is true of every version that a Schema stands for.
use Rattle.std.specs.Prelude.{◌≡◌, ◌≢◌, ℕ, ◌+◌, ◌<◌, ◌≤◌, length, Bool, Some, IsTrue, Contains}
use Rattle.std.specs.List.{AllByRecursion}
use mathlib.Core.List.{map as each}
use Rattle.schema_version.specs.declared.element.ElementState.TheVariants.{Absent, Public}
use Rattle.schema_version.specs.declared.element.Way.TheVariants.{Adding}
use Rattle.schema_version.specs.declared.element.ElementDef.{ElementDef}
use Rattle.schema_version.specs.Names.{IsName, is_distinct, max_tables, max_key_columns, max_elements}
use Rattle.schema_version.specs.Edges.{has_state}
use Rattle.schema_version.specs.Version.{Version, Table, table_at, element_at, indexed_columns, IsPublicColumn, IsKeyName, count_live}
use Rattle.schema_version.specs.Moves.{IsFairKind, max_like}

-- a table whose key has 1 to 4 columns, each under a name of its own
pub record IsSoundTable (table : Table) : Type 0 where
  pub name : IsName table.name
  pub some_key : 1 ≤ length table.key
  pub short_key : length table.key ≤ max_key_columns
  pub names : AllByRecursion IsName (each (λ c. c.0) table.key)
  pub distinct : IsTrue (is_distinct (each (λ c. c.0) table.key))

-- a live element under its number: its table is there, its kind may be, and an index lists public columns of that table
pub record IsSoundElement (version : Version) (number : ℕ) (element : ElementDef) : Type 0 where
  pub own : element.number ≡ number
  pub first : 1 ≤ number
  pub given : number < version.next
  pub live : element.state ≢ Absent
  pub possible : IsTrue (has_state element.kind element.state)
  pub way : element.state ≡ Public → element.way ≡ Adding
  pub named : IsName element.name
  pub placed : (table : Table) × (table_at version element.table ≡ Some table)
  pub apart : ¬ (IsKeyName version element.table element.name)
  pub fair : IsFairKind element.kind
  pub columns : (column : ℕ) → Contains (indexed_columns element.kind) column → IsPublicColumn version element.table column

-- two live elements of a table have two names
abbrev pub HaveOwnNames : Version → Type 0
HaveOwnNames version = (m n : ℕ) (first second : ElementDef) → element_at version m ≡ Some first → element_at version n ≡ Some second → first.table ≡ second.table → first.name ≡ second.name → m ≡ n

pub record IsSoundVersion (version : Version) : Type 0 where
  pub begun : 1 ≤ version.next
  pub few_elements : version.next ≤ max_elements + 1
  pub some_tables : 1 ≤ length version.tables
  pub few_tables : length version.tables ≤ max_tables
  pub tables : AllByRecursion IsSoundTable version.tables
  pub table_names : IsTrue (is_distinct (each (λ (t : Table). t.name) version.tables))
  pub elements : (n : ℕ) (element : ElementDef) → element_at version n ≡ Some element → IsSoundElement version n element
  pub names : HaveOwnNames version
  pub counts : (table : ℕ) (index : Bool) → count_live version table index ≤ max_like index
