-- Cited by private functions alone: is_row_at, row_at, mark, find_row and 3 more.
-- Where the pairs of a row are in a view.
use Rattle.std.specs.Prelude.{◌≡◌, ◌+◌, ◌≤◌, ℕ, Bool, true, false, List, [], Option, length, take, drop, get_or, Contains, ◌⊎◌}
use Rattle.std.specs.FinMap as map
use Rattle.row_map.specs.declared.shape.ColumnType.{ColumnType}
use Rattle.row_map.specs.Keys.{row_code}
use Rattle.row_map.specs.Rows.{Bytes}
use Rattle.row_map.specs.Expect.{View}
use Rattle.schema_version.specs.Version.{Version}
use Rattle.row_write.specs.declared.op.RowOp.{RowOp}
use Rattle.row_write.specs.Plain.{table_of, key_of}
use Rattle.row_write.specs.Reads.{IsRead}
use Rattle.row_write.specs.inner.Enter.{column_keys}
use Rattle.row_write.specs.inner.View.{keys_of}

-- the entries from this place on have the keys of the operation's row, in their order
pub record IsRowAt (entries : List (Bytes × Option Bytes)) (op : RowOp) (columns : List (ℕ × ColumnType)) (at : ℕ) : Type 0 where
  pub in_range : at + 1 + length columns ≤ length entries
  pub exists : get_or (keys_of entries) at [] ≡ row_code (table_of op) (key_of op) 0
  pub rest : keys_of (take (length columns) (drop (at + 1) entries)) ≡ column_keys op columns

-- a mark at this place is old, or this holds
abbrev pub AreOrOld : List Bool → List Bool → ℕ → Type 0 → Type 0
AreOrOld before then i Fact = get_or then i false ≡ true → (get_or before i false ≡ true) ⊎ Fact

-- a mark is old, or at one of these keys
abbrev pub AreMarked : List Bytes → List Bytes → List Bool → List Bool → Type 0
AreMarked keys own before then = (i : ℕ) → AreOrOld before then i (Contains own (get_or keys i []))

-- each marked entry has a key that is read
abbrev pub AreReads : Version → List RowOp → View → List Bool → Type 0
AreReads version ops view marks = (i : ℕ) → get_or marks i false ≡ true → IsRead version ops (get_or (keys_of (map.entries view)) i [])
