-- Cited by private functions alone: push_value, set_cell, work_out, put_row and 22 more.
-- What a view says of one row.
use Rattle.std.specs.Prelude.{◌≡◌, ℕ, Bool, true, false, List, [], ◌∷◌, Option, Some, None, option_map, IsTrue, ◌↔◌, ◌⊎◌}
use Rattle.std.specs.FinMap as map
use mathlib.Core.List.{map as each}
use Rattle.keycode.specs.declared.value.Value.{Value}
use Rattle.keycode.specs.Code.{code}
use Rattle.keycode.specs.Valid.{IsStorable}
use Rattle.row_map.specs.declared.shape.ColumnType.{ColumnType}
use Rattle.row_map.specs.Keys.{row_code}
use Rattle.row_map.specs.Rows.{Bytes, Cells}
use Rattle.row_map.specs.Shape.{has_type}
use Rattle.row_map.specs.Expect.{View}
use Rattle.row_write.specs.declared.op.RowOp.{RowOp}
use Rattle.row_write.specs.declared.fault.PrepareFault.{PrepareFault}
use Rattle.row_write.specs.declared.fault.PrepareFault.TheVariants.{ViewMismatch, Memory}
use Rattle.row_write.specs.Plain.{table_of, key_of}
use Rattle.row_write.specs.inner.Enter.{KeySet}

-- a mismatch, and then the fact, or out of memory
abbrev pub IsMissed : Type 0 → PrepareFault → Type 0
IsMissed Fact fault = (fault ≡ Memory) ⊎ ((fault ≡ ViewMismatch) × Fact)

-- the column's cell of a row that is there, or of one that isn't, from what was read at the column's key
pub record IsCell (type : ColumnType) (there : Bool) (visible : Option (Option Bytes)) (cell : Option Value) : Type 0 where
  pub visible_is : visible ≡ Some (option_map code cell)
  pub absent : there ≡ false → cell ≡ None
  pub typed : (value : Value) → cell ≡ Some value → IsTrue (has_type type value) × IsStorable value

-- whether the row is there, from what was read at the key of its `exists` pair
abbrev pub IsThere : Option (Option Bytes) → Bool → Type 0
IsThere visible true = visible ≡ Some (Some [])
IsThere visible false = visible ≡ Some None

abbrev pub with_prefix : ℕ → Option Value → List (ℕ × Value) → List (ℕ × Value)
with_prefix number None cells = cells
with_prefix number (Some value) cells = (number, value) ∷ cells

-- the cells of the columns, from what was read at their keys
abbrev pub AreCells : Bool → (ℕ → Option (Option Bytes)) → List (ℕ × ColumnType) → List (ℕ × Value) → Type 0
AreCells there visible [] cells = cells ≡ []
AreCells there visible (column ∷ columns) cells =
    (cell : Option Value) × (rest : List (ℕ × Value)) × IsCell column.1 there (visible column.0) cell × (cells ≡ with_prefix column.0 cell rest) × AreCells there visible columns rest

-- what was read at the key of a pair of the operation's row
abbrev pub visible_at : View → RowOp → ℕ → Option (Option Bytes)
visible_at view op number = map.get view (row_code (table_of op) (key_of op) number)

-- whether the operation's row is there, and its cells of these columns
abbrev pub IsVisible : View → RowOp → List (ℕ × ColumnType) → Bool → List (ℕ × Value) → Type 0
IsVisible view op columns there cells = IsThere (visible_at view op 0) there × AreCells there (visible_at view op) columns cells

-- the cells of a row that is there
abbrev pub cells_there : Bool → List (ℕ × Value) → Option Cells
cells_there true cells = Some (map.from_entries cells)
cells_there false cells = None

-- what is read and what was read have the same keys
abbrev pub HaveSameKeys : KeySet → View → Type 0
HaveSameKeys reads view = (key : Bytes) → (map.get reads key ≡ Some tt) ↔ ((value : Option Bytes) × (map.get view key ≡ Some value))

-- the key of the `exists` pair of the operation's row
abbrev pub IsExistsKey : RowOp → Bytes → Type 0
IsExistsKey op key = key ≡ row_code (table_of op) (key_of op) 0

-- the keys of the `exists` pairs of the operations' rows
abbrev pub exists_keys : List RowOp → List Bytes
exists_keys ops = each (λ (op : RowOp). row_code (table_of op) (key_of op) 0) ops

-- the keys of entries, in their order
abbrev pub keys_of : {X : Type 0} → List (Bytes × X) → List Bytes
keys_of entries = each (λ entry. entry.0) entries

-- the entries hold what was read at the columns' keys, in the columns' order
abbrev pub AreHeld : (ℕ → Option (Option Bytes)) → List (ℕ × ColumnType) → List (Bytes × Option Bytes) → Type 0
AreHeld visible [] [] = Unit {0}
AreHeld visible (column ∷ columns) (entry ∷ entries) = (visible column.0 ≡ Some entry.1) × AreHeld visible columns entries
AreHeld visible _ _ = ⊥
