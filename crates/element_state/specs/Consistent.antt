-- Cited by the contracts of row_query::answer.
-- When a store agrees with a schema version and with rows.
use Rattle.std.specs.Prelude.{◌≡◌, ◌≢◌, ℕ, ◌≤◌, List, Option, Some, None, IsTrue}
use Rattle.std.specs.List.{AllByRecursion}
use Rattle.std.specs.Cmp.Lexicographic.{pointwise}
use mathlib.Core.List.{map as each}
use Rattle.std.specs.FinMap as map
use Rattle.keycode.specs.declared.value.Value.{Value}
use Rattle.keycode.specs.declared.value.Value.TheVariants.{Null}
use Rattle.keycode.specs.Valid.{IsStorable}
use Rattle.row_map.specs.declared.shape.ColumnType.{ColumnType}
use Rattle.row_map.specs.Rows.{RowKey, Cells, Rows, Pairs}
use Rattle.row_map.specs.Shape.{has_type}
use Rattle.element_state.specs.Sources.{source_in}
use Rattle.schema_version.specs.declared.element.ElementDef.{ElementDef}
use Rattle.schema_version.specs.Version.{Version, Table, table_at, element_at, type_of_kind}
use Rattle.element_state.specs.Elements.{Empty, Exact, Demand, AreFormed}
use Rattle.element_state.specs.Exists.{exists_meaning}
use Rattle.element_state.specs.Kinds.{kind_meaning}
use Rattle.element_state.specs.Tables.{within}

-- what a version demands of the pairs of an element: what its state does, and none of one that the version lacks
abbrev pub DemandOf : Version → ℕ → Option ElementDef → Pairs → Rows → Type 0
DemandOf version number None pairs rows = Empty number pairs
DemandOf version number (Some element) pairs rows = Demand (within element.table (kind_meaning number (source_in version element.kind))) element.state pairs rows

-- a key: a value of each key column's type, hence no Null and no text over the limit
abbrev pub IsKeyFor : List (List ℕ × ColumnType) → List Value → Type 0
IsKeyFor columns key = IsTrue (pointwise has_type (each (λ (column : List ℕ × ColumnType). column.1) columns) key) × AllByRecursion IsStorable key

-- the row is of one of the version's tables, and its values are of their columns' types
pub record IsLawfulRow (version : Version) (key : RowKey) (cells : Cells) : Type 0 where
  pub table : Table
  pub known : table_at version key.0 ≡ Some table
  pub primary : IsKeyFor table.key key.1
  pub types : (column : ℕ) (element : ElementDef) (type : ColumnType) (value : Value) → element_at version column ≡ Some element → type_of_kind element.kind ≡ Some type → map.get cells column ≡ Some value → IsTrue (has_type type value)
  pub values : (column : ℕ) (value : Value) → map.get cells column ≡ Some value → IsStorable value × (value ≢ Null)

abbrev pub AreLawfulRows : Version → Rows → Type 0
AreLawfulRows version rows = (key : RowKey) (cells : Cells) → map.get rows key ≡ Some cells → IsLawfulRow version key cells

-- the store agrees with the version and the rows
pub record IsConsistent (version : Version) (rows : Rows) (pairs : Pairs) : Type 0 where
  -- each element has the pairs that its state demands
  pub elements : (number : ℕ) → 1 ≤ number → DemandOf version number (element_at version number) pairs rows
  -- the `exists` pairs are exactly those of the rows
  pub exists : Exact exists_meaning pairs rows
  -- every key is the key of an `exists` pair, of a column's or of an index's
  pub forms : AreFormed pairs
  pub lawful : AreLawfulRows version rows
