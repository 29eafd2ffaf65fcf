-- Cited by private functions alone: enter_columns, enter_row, read_set, are_column_keys and 2 more.
-- The keys of the operations' rows, entered one after another.
use Rattle.std.specs.Prelude.{ℕ, List, [], ◌∷◌, Option, Some, None}
use Rattle.std.specs.FinMap as map
use Rattle.keycode.specs.Order.{bytes_cmp}
use Rattle.row_map.specs.declared.shape.ColumnType.{ColumnType}
use Rattle.row_map.specs.declared.shape.TableShape.{TableShape}
use Rattle.row_map.specs.Keys.{row_code}
use Rattle.row_map.specs.Rows.{Bytes}
use Rattle.schema_version.specs.Version.{Version}
use Rattle.schema_version.specs.Shape.{shape_of}
use Rattle.row_write.specs.declared.op.RowOp.{RowOp}
use Rattle.row_write.specs.Plain.{table_of, key_of}

-- distinct keys
abbrev pub KeySet : Type 0
KeySet = map.FinMap bytes_cmp (Unit {0})

-- with these keys too
abbrev pub entered : KeySet → List Bytes → KeySet
entered set [] = set
entered set (key ∷ keys) = entered (map.insert set key tt) keys

-- the keys of the row's pairs for these columns
abbrev pub column_keys : RowOp → List (ℕ × ColumnType) → List Bytes
column_keys op [] = []
column_keys op (column ∷ columns) = row_code (table_of op) (key_of op) column.0 ∷ column_keys op columns

-- the keys of the row's `exists` pair and of those pairs
abbrev pub row_keys : RowOp → List (ℕ × ColumnType) → List Bytes
row_keys op columns = row_code (table_of op) (key_of op) 0 ∷ column_keys op columns

abbrev pub keys_in : RowOp → Option TableShape → List Bytes
keys_in op None = []
keys_in op (Some shape) = row_keys op shape.columns

-- the keys of an operation's row
abbrev pub op_keys : Version → RowOp → List Bytes
op_keys version op = keys_in op (shape_of version (table_of op))

-- with the keys of these operations' rows
abbrev pub entered_all : Version → KeySet → List RowOp → KeySet
entered_all version set [] = set
entered_all version set (op ∷ ops) = entered_all version (entered set (op_keys version op)) ops
