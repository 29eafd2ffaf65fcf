-- Cited by the contracts of rows_are_checked, encoded_rows_come_back.
-- What a row of a table is, place by place, and which pairs encode it.
use Rattle.std.specs.Prelude.{◌≡◌, ◌≢◌, ℕ, ℤ, ◌<◌, ◌≤◌, ◌^◌, Bool, List, [], length, Some, Ok, slice_get, Contains, AllPairs, ◌↔◌}
use Rattle.keycode.specs.declared.value.Value.{Value}
use Rattle.keycode.specs.declared.value.Value.TheVariants.{Int, Text, Bool as Flag}
use Rattle.row_map.specs.declared.shape.ColumnType.{ColumnType}
use Rattle.row_map.specs.declared.shape.ColumnType.TheVariants as kind
use Rattle.row_map.specs.declared.shape.TableShape.{TableShape}
use Rattle.row_map.specs.declared.shape.Row.{Row}
use Rattle.keycode.specs.Code.{code}
use Rattle.keycode.specs.Valid.{AreValues}
use Rattle.row_map.specs.Keys.{row_code}
use Rattle.row_map.specs.Pairs.{row_from}
use Rattle.row_map.specs.Rows.{Bytes}
use Rattle.row_map.specs.Shape.{IsCellList, row_check}

-- a value of the type. Null is of none, and a text has at most 1,024 bytes
abbrev pub IsOfType : ColumnType → Value → Type 0
IsOfType kind.Int v = (n : ℤ) × (v ≡ Int n)
IsOfType kind.Text v = (t : List ℕ) × (v ≡ Text t) × (length t ≤ 1024)
IsOfType kind.Bool v = (b : Bool) × (v ≡ Flag b)

-- the column is listed with this type. If it is listed twice, the first place counts
pub record IsColumn (columns : List (ℕ × ColumnType)) (number : ℕ) (type : ColumnType) : Type 0 where
  pub place : ℕ
  pub here : slice_get columns place ≡ Some (number, type)
  pub first : (before : ℕ) (other : ColumnType) → before < place → slice_get columns before ≢ Some (number, other)

-- as many key values as key columns, each of its column's type; each cell of a column of the table, its value of that
-- column's type; the cells by strictly rising number
pub record IsRowOf (shape : TableShape) (row : Row) : Type 0 where
  pub arity : length row.key ≡ length shape.key
  pub primary : (place : ℕ) (type : ColumnType) (value : Value) → slice_get shape.key place ≡ Some type → slice_get row.key place ≡ Some value → IsOfType type value
  pub cells : (number : ℕ) (value : Value) → Contains row.cells (number, value) → (type : ColumnType) × IsColumn shape.columns number type × IsOfType type value
  pub rising : AllPairs (λ a b. a.0 < b.0) row.cells

-- the test passes just the rows of the table
abbrev pub RowsAreChecked : Type 0
RowsAreChecked = (shape : TableShape) (row : Row) → (row_check shape row ≡ Ok tt) ↔ IsRowOf shape row

-- the columns list this number
abbrev pub IsListed : List (ℕ × ColumnType) → ℕ → Type 0
IsListed columns number = (type : ColumnType) × Contains columns (number, type)

-- a shape whose rows have keys: 1 to 4 key columns; the others by strictly rising number, so each once
pub record IsShape (shape : TableShape) : Type 0 where
  pub table : shape.number < 2 ^ 32
  pub some_key : 1 ≤ length shape.key
  pub short_key : length shape.key ≤ 4
  pub numbers : (number : ℕ) → IsListed shape.columns number → (0 < number) × (number < 2 ^ 24)
  pub rising : AllPairs (λ a b. a.0 < b.0) shape.columns

-- the row's `exists` pair, the pair of a cell, or a pair of the row for an element that the shape does not list
pub data IsPairOf (shape : TableShape) (row : Row) (pair : Bytes × Bytes) : Type 0 where
  OfRow : pair ≡ (row_code shape.number row.key 0, []) → IsPairOf shape row pair
  OfCell : (number : ℕ) (value : Value) → Contains row.cells (number, value) → pair ≡ (row_code shape.number row.key number, code value) → IsPairOf shape row pair
  OfUnlisted : (number : ℕ) (bytes : Bytes) → 0 < number → number < 2 ^ 24 → ¬ (IsListed shape.columns number) → pair ≡ (row_code shape.number row.key number, bytes) → IsPairOf shape row pair

-- the pairs, in any order and any of them again, are the row's `exists` pair, those of its cells, and others that do
-- not count
pub record Encode (pairs : List (Bytes × Bytes)) (shape : TableShape) (row : Row) : Type 0 where
  pub there : Contains pairs (row_code shape.number row.key 0, [])
  pub cells : (number : ℕ) (value : Value) → Contains row.cells (number, value) → Contains pairs (row_code shape.number row.key number, code value)
  pub only : (pair : Bytes × Bytes) → Contains pairs pair → IsPairOf shape row pair

-- from the pairs that encode a row of the table comes that row
abbrev pub EncodedRowsComeBack : Type 0
EncodedRowsComeBack = (shape : TableShape) (row : Row) (pairs : List (Bytes × Bytes)) → IsShape shape → IsRowOf shape row → AreValues row.key → IsCellList row.cells → Encode pairs shape row → row_from shape pairs ≡ Ok (Some row)
