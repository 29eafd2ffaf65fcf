-- Cited by private functions alone: only_named, put_indexed, last_cell and more.
-- The change that an operation makes of its row.
use Rattle.std.specs.Prelude.{◌≡◌, ◌==◌, ℕ, Bool, List, [], ◌∷◌, Option, Some, None, Ok, if◌then◌else◌}
use Rattle.std.specs.List.{list_any}
use Rattle.std.specs.FinMap as map
use Rattle.keycode.specs.declared.value.Value.{Value}
use Rattle.row_map.specs.declared.shape.Row.{Row}
use Rattle.row_map.specs.Keys.{row_code}
use Rattle.row_map.specs.Rows.{Bytes, Cells, RowKey}
use Rattle.row_map.specs.Writes.{Writes}
use Rattle.schema_version.specs.declared.element.ElementDef.{ElementDef}
use Rattle.schema_version.specs.declared.element.ElementState.{ElementState}
use Rattle.schema_version.specs.declared.element.ElementState.TheVariants.{Absent, DeleteOnly, WriteOnly, Public}
use Rattle.schema_version.specs.declared.element.Kind.{Kind}
use Rattle.schema_version.specs.declared.element.Kind.TheVariants.{Index}
use Rattle.element_state.specs.Elements.{Change}
use Rattle.element_state.specs.Operations.{cells_of}
use Rattle.row_write.specs.declared.op.RowOp.{RowOp}
use Rattle.row_write.specs.declared.op.RowOp.TheVariants.{Insert, Update, Delete}
use Rattle.row_write.specs.Plain.{cell_of, with_cells, named_of, key_of, row_of, change_of}

-- the key of the `exists` pair of the operation's row, as if it were one of the element's table
abbrev pub IsKeyIn : ElementDef → RowOp → Bytes → Type 0
IsKeyIn element op key = key ≡ row_code element.table (key_of op) 0

-- the kind is an index over one column, in which the row has this value
pub record IsOnlyIndexed (kind : Kind) (cells : Cells) (value : Value) : Type 0 where
  pub column : ℕ
  pub one : kind ≡ Index (column ∷ [])
  pub held : map.get cells column ≡ Some value

-- the pair of this key, in the states that keep up with inserts
abbrev pub put_writes : ElementState → Bytes → Writes
put_writes Absent key = []
put_writes DeleteOnly key = []
put_writes WriteOnly key = (key, Some []) ∷ []
put_writes Public key = (key, Some []) ∷ []

-- the change from no row of the key to one of the cells that the operation names
abbrev pub insert_at : RowKey → RowOp → Change
insert_at key op = record { key = key; old = None; new = Some (with_cells map.empty (named_of op)) }

-- the change of a row of the key by the cells that the operation names
abbrev pub update_at : RowKey → Cells → RowOp → Change
update_at key old op = record { key = key; old = Some old; new = Some (with_cells old (named_of op)) }

-- the row that an update leaves of the old one
pub record IsUpdated (old : Row) (op : RowOp) (new : Row) : Type 0 where
  pub key : new.key ≡ key_of op
  pub cells : cells_of new ≡ with_cells (cells_of old) (named_of op)

-- the change from a row of the key to none
abbrev pub delete_at : RowKey → Cells → Change
delete_at key old = record { key = key; old = Some old; new = None }

-- the row that an operation leaves, if the old one lets it
abbrev pub left_of : Option Cells → RowOp → Option Cells
left_of old (Insert table key cells) = Some (with_cells map.empty cells)
left_of None (Update table key cells) = None
left_of (Some old) (Update table key cells) = Some (with_cells old cells)
left_of old (Delete table key) = None

-- the change that it then makes of the row of a key, and of its own
abbrev pub done_at : RowKey → RowOp → Option Cells → Change
done_at key op old = record { key = key; old = old; new = left_of old op }

abbrev pub done_by : RowOp → Option Cells → Change
done_by op old = done_at (row_of op) op old

-- the old row lets it
abbrev pub IsDone : Option Cells → RowOp → Type 0
IsDone old op = change_of old op ≡ Ok (done_by op old)

-- whether the cells name a column
abbrev pub is_named : List (ℕ × Value) → ℕ → Bool
is_named cells column = list_any (λ (cell : ℕ × Value). column == cell.0) cells

-- what the cells name for a column at last: Null is nothing
abbrev pub last_named : ℕ → Option Value → List (ℕ × Value) → Option Value
last_named column before [] = before
last_named column before (cell ∷ cells) = last_named column (if column == cell.0 then cell_of cell.1 else before) cells
