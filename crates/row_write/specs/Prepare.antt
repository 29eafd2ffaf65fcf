-- Cited by the contracts of prepare.
-- When a transaction can be prepared, and what it then writes.
use Rattle.std.specs.Prelude.{◌≡◌, ℕ, ◌<◌, List, [], ◌∷◌, ◌++◌, length, Option, Some, None, option_map, Result, Ok, Err, IsTrue, IsNone, ◌⊎◌, ◌↔◌}
use Rattle.std.specs.List.{AllByRecursion}
use mathlib.Core.List.{map as each}
use Rattle.std.specs.FinMap as map
use Rattle.collections.specs.Refusal.{IsFirst}
use Rattle.keycode.specs.declared.value.Value.{Value}
use Rattle.keycode.specs.declared.value.Value.TheVariants.{Null}
use Rattle.keycode.specs.Code.{code}
use Rattle.keycode.specs.Valid.{IsStorable}
use Rattle.row_map.specs.declared.shape.ColumnType.{ColumnType}
use Rattle.row_map.specs.Keys.{row_code}
use Rattle.row_map.specs.Rows.{Bytes, Cells, Rows}
use Rattle.row_map.specs.Shape.{has_type}
use Rattle.row_map.specs.Expect.{View}
use Rattle.row_map.specs.Writes.{Writes, Batch, noted}
use Rattle.schema_version.specs.Version.{Version, Table, table_at}
use Rattle.schema_version.specs.Moves.{is_distinct}
use Rattle.element_state.specs.Consistent.{IsKeyFor}
use Rattle.element_state.specs.Elements.{Change, rows_after}
use Rattle.element_state.specs.Schemas.{version_writes}
use Rattle.element_state.specs.Visible.{visible_value}
use Rattle.element_state.specs.Versions.{the_kinds, schema_of}
use Rattle.row_write.specs.declared.op.RowOp.{RowOp}
use Rattle.row_write.specs.declared.op.RowOutcome.{RowOutcome}
use Rattle.row_write.specs.declared.op.RowOutcome.TheVariants.{Done, Refused}
use Rattle.row_write.specs.declared.fault.RowFault.{RowFault}
use Rattle.row_write.specs.declared.fault.PrepareFault.{PrepareFault}
use Rattle.row_write.specs.declared.fault.PrepareFault.TheVariants.{NoTable, NotPublic, WrongType, TooManyOps, ViewMismatch, Memory}
use Rattle.row_write.specs.Plain.{table_of, key_of, named_of, row_of, change, outcome}
use Rattle.row_write.specs.Reads.{IsPublicColumn, IsRead}

-- ---- why an operation cannot be prepared

-- a value that a column may be given: one of its type, or Null for none
abbrev pub Suits : ColumnType → Value → Type 0
Suits type value = (value ≡ Null) ⊎ (IsTrue (has_type type value) × IsStorable value)

-- the key and the values are of their columns' types, and no column is named twice
pub record IsTyped (version : Version) (table : Table) (op : RowOp) : Type 0 where
  pub key : IsKeyFor table.key (key_of op)
  pub values : AllByRecursion (λ (named : ℕ × Value). (type : ColumnType) → IsPublicColumn version (table_of op) named.0 type → Suits type named.1) (named_of op)
  pub once : IsTrue (is_distinct (each (λ (named : ℕ × Value). named.0) (named_of op)))

-- the number names a public column of the table
abbrev pub HasColumn : Version → ℕ → ℕ → Type 0
HasColumn version table number = (type : ColumnType) × IsPublicColumn version table number type

-- the first named number that is no public column of the table
abbrev pub IsFirstHidden : Version → RowOp → ℕ → Type 0
IsFirstHidden version op column =
    (before after : List (ℕ × Value)) × (value : Value) × (named_of op ≡ before ++ (column, value) ∷ after)
    × (¬ (HasColumn version (table_of op) column))
    × AllByRecursion (λ (named : ℕ × Value). HasColumn version (table_of op) named.0) before

-- out of memory may come in place of a mismatch
abbrev pub rank : PrepareFault → ℕ
rank NoTable = 1
rank (NotPublic column) = 2
rank WrongType = 3
rank TooManyOps = 4
rank ViewMismatch = 5
rank Memory = 5

abbrev pub OpFault : Version → RowOp → PrepareFault → Type 0
OpFault version op NoTable = IsNone (table_at version (table_of op))
OpFault version op (NotPublic column) = IsFirstHidden version op column
OpFault version op WrongType = (table : Table) × (table_at version (table_of op) ≡ Some table) × (¬ (IsTyped version table op))
OpFault version op TooManyOps = ⊥
OpFault version op ViewMismatch = ⊥
OpFault version op Memory = ⊥

-- the first operation with a fault decides, by its lowest
abbrev pub IsFirstOpFault : Version → List RowOp → PrepareFault → Type 0
IsFirstOpFault version ops fault =
    (before after : List RowOp) × (op : RowOp) × (ops ≡ before ++ op ∷ after)
    × IsFirst rank (OpFault version op) fault
    × AllByRecursion (λ (earlier : RowOp). (other : PrepareFault) → ¬ (OpFault version earlier other)) before

abbrev pub max_ops : ℕ
max_ops = 64

-- ---- what the reads say of the rows

-- What was read at the key of a row's pair of a public column: a value of the type, or none. The version sees the same there as in the
-- row's cell: it is the cell, but that in a required column the pair, or the cell, may have the default where the other has nothing.
pub record IsEncodedCell (version : Version) (table number : ℕ) (type : ColumnType) (read : Option (Option Bytes)) (cell : Option Value) : Type 0 where
  pub own : Option Value
  pub held : read ≡ Some (option_map code own)
  pub typed : (value : Value) → own ≡ Some value → IsTrue (has_type type value) × IsStorable value
  pub same : visible_value version table number own ≡ visible_value version table number cell

-- the operation's row is in the view as in the rows: its `exists` pair exactly when it is there,
-- and its pairs of public columns
pub record IsEncodedRow (version : Version) (view : View) (rows : Rows) (op : RowOp) : Type 0 where
  pub absent : map.get rows (row_of op) ≡ None → map.get view (row_code (table_of op) (key_of op) 0) ≡ Some None
  pub present : (cells : Cells) → map.get rows (row_of op) ≡ Some cells → map.get view (row_code (table_of op) (key_of op) 0) ≡ Some (Some [])
  pub no_columns : (number : ℕ) (type : ColumnType) → IsPublicColumn version (table_of op) number type → map.get rows (row_of op) ≡ None → map.get view (row_code (table_of op) (key_of op) number) ≡ Some None
  pub columns : (number : ℕ) (type : ColumnType) (cells : Cells) → IsPublicColumn version (table_of op) number type → map.get rows (row_of op) ≡ Some cells
      → IsEncodedCell version (table_of op) number type (map.get view (row_code (table_of op) (key_of op) number)) (map.get cells number)

-- the view has the keys that are read, and encodes these rows
pub record Encodes (version : Version) (ops : List RowOp) (view : View) (rows : Rows) : Type 0 where
  pub keys : (key : Bytes) → IsRead version ops key ↔ ((value : Option Bytes) × (map.get view key ≡ Some value))
  pub encoded : AllByRecursion (IsEncodedRow version view rows) ops

-- why a transaction cannot be prepared
abbrev pub Condition : Version → List RowOp → View → PrepareFault → Type 0
Condition version ops view NoTable = IsFirstOpFault version ops NoTable
Condition version ops view (NotPublic column) = IsFirstOpFault version ops (NotPublic column)
Condition version ops view WrongType = IsFirstOpFault version ops WrongType
Condition version ops view TooManyOps = max_ops < length ops
Condition version ops view ViewMismatch = (rows : Rows) → ¬ (Encodes version ops view rows)
Condition version ops view Memory = ⊥

-- ---- what is written

abbrev pub write_on : Version → Rows → Result Change RowFault → (Rows → Writes) → Writes
write_on version rows (Ok done) rest = version_writes the_kinds (schema_of version) done ++ rest (rows_after rows done)
write_on version rows (Err why) rest = []

-- the writes of the operations, one after another on the rows as they come to be
abbrev pub writes_of : Version → Rows → List RowOp → Writes
writes_of version rows [] = []
writes_of version rows (op ∷ ops) = write_on version rows (change rows op) (λ new. writes_of version new ops)

-- nothing is written for a transaction that is refused
abbrev pub accepted_writes : RowOutcome → Writes → Writes
accepted_writes Done writes = writes
accepted_writes (Refused op why) writes = []

-- what a transaction writes on these rows
abbrev pub txn_writes : Version → Rows → List RowOp → Writes
txn_writes version rows ops = accepted_writes (outcome rows ops) (writes_of version rows ops)

-- outcome and batch are those of the operations on any rows that the reads encode
abbrev pub IsPrepared : Version → List RowOp → View → RowOutcome → Batch → Type 0
IsPrepared version ops view reported batch =
    (rows : Rows) → Encodes version ops view rows → (reported ≡ outcome rows ops) × (batch ≡ noted map.empty (txn_writes version rows ops))
