-- Cited by the definitions of Checks, Enter, Made, Prepare and 8 more.
-- A transaction on plain rows.
use Rattle.std.specs.Prelude.{ℕ, ◌+◌, List, [], ◌∷◌, Option, Some, None, Result, Ok, Err}
use Rattle.std.specs.FinMap as map
use Rattle.keycode.specs.declared.value.Value.{Value}
use Rattle.keycode.specs.declared.value.Value.TheVariants.{Null}
use Rattle.row_map.specs.Rows.{RowKey, Cells, Rows}
use Rattle.row_map.specs.Writes.{written}
use Rattle.element_state.specs.Elements.{Change, rows_after}
use Rattle.row_write.specs.declared.op.RowOp.{RowOp}
use Rattle.row_write.specs.declared.op.RowOp.TheVariants.{Insert, Update, Delete}
use Rattle.row_write.specs.declared.op.RowOutcome.{RowOutcome}
use Rattle.row_write.specs.declared.op.RowOutcome.TheVariants.{Done, Refused}
use Rattle.row_write.specs.declared.fault.RowFault.{RowFault}
use Rattle.row_write.specs.declared.fault.RowFault.TheVariants.{Duplicate, NoRow}

-- what a column then has: Null means nothing
abbrev pub cell_of : Value → Option Value
cell_of Null = None
cell_of value = Some value

-- the named cells replaced
abbrev pub with_cells : Cells → List (ℕ × Value) → Cells
with_cells cells [] = cells
with_cells cells (named ∷ rest) = with_cells (written cells named.0 (cell_of named.1)) rest

abbrev pub table_of : RowOp → ℕ
table_of (Insert table key cells) = table
table_of (Update table key cells) = table
table_of (Delete table key) = table

abbrev pub key_of : RowOp → List Value
key_of (Insert table key cells) = key
key_of (Update table key cells) = key
key_of (Delete table key) = key

-- the cells that it names
abbrev pub named_of : RowOp → List (ℕ × Value)
named_of (Insert table key cells) = cells
named_of (Update table key cells) = cells
named_of (Delete table key) = []

-- the row that it is about
abbrev pub row_of : RowOp → RowKey
row_of op = (table_of op, key_of op)

-- an insert needs its key missing; an update and a delete need it present
abbrev pub change_of : Option Cells → RowOp → Result Change RowFault
change_of None (Insert table key cells) = Ok (record { key = (table, key); old = None; new = Some (with_cells map.empty cells) })
change_of None (Update table key cells) = Err NoRow
change_of None (Delete table key) = Err NoRow
change_of (Some old) (Insert table key cells) = Err Duplicate
change_of (Some old) (Update table key cells) = Ok (record { key = (table, key); old = Some old; new = Some (with_cells old cells) })
change_of (Some old) (Delete table key) = Ok (record { key = (table, key); old = Some old; new = None })

-- what an operation does to the rows as they are
abbrev pub change : Rows → RowOp → Result Change RowFault
change rows op = change_of (map.get rows (row_of op)) op

-- after an operation that is accepted the rest goes on; a refused one ends the transaction
abbrev pub go_on : ℕ → Rows → Result Change RowFault → (Rows → Result Rows (ℕ × RowFault)) → Result Rows (ℕ × RowFault)
go_on place rows (Ok done) rest = rest (rows_after rows done)
go_on place rows (Err why) rest = Err (place, why)

-- the rows after the operations from this place on, or the first that is refused
abbrev pub applied : ℕ → Rows → List RowOp → Result Rows (ℕ × RowFault)
applied place rows [] = Ok rows
applied place rows (op ∷ ops) = go_on place rows (change rows op) (λ new. applied (place + 1) new ops)

abbrev pub reported : Result Rows (ℕ × RowFault) → RowOutcome
reported (Ok new) = Done
reported (Err refusal) = Refused refusal.0 refusal.1

-- whether a transaction is accepted
abbrev pub outcome : Rows → List RowOp → RowOutcome
outcome rows ops = reported (applied 0 rows ops)

abbrev pub kept : Rows → Result Rows (ℕ × RowFault) → Rows
kept rows (Ok new) = new
kept rows (Err refusal) = rows

-- the rows after a transaction: with one refused operation they stay as they were
abbrev pub transacted : Rows → List RowOp → Rows
transacted rows ops = kept rows (applied 0 rows ops)
