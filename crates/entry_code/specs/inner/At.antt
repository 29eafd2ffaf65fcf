-- Cited by private functions alone.
-- Reading from left to right: a value and the bytes after it.
use Rattle.std.specs.Prelude.{ℕ, zero, suc, ◌==◌, List, [], ◌∷◌, ◌++◌, length, take, drop, Option, Some, None, Result, Ok, Err, nat_lt, if◌then◌else◌}
use Rattle.std.specs.Int.{w32, w64, from_be_bytes}
use Rattle.std.specs.Str.{is_utf8}
use Rattle.collections.specs.Answers.{◌>>>=◌}
use Rattle.change_plan.specs.declared.change.Change.{Change}
use Rattle.change_plan.specs.declared.change.Change.TheVariants.{AddIndex, DropIndex, AddColumn, DropColumn, Abandon}
use Rattle.change_plan.specs.declared.least_plan.PlanStep.{PlanStep}
use Rattle.change_plan.specs.declared.least_plan.Reorg.{Reorg}
use Rattle.change_plan.specs.declared.least_plan.Reorg.TheVariants.{Fill, Clear}
use Rattle.keycode.specs.declared.fault.KeyFault.{KeyFault}
use Rattle.keycode.specs.declared.value.Value.{Value}
use Rattle.keycode.specs.Read.{value_at as key_value_at}
use Rattle.lease.specs.declared.lease.Lease.{Lease}
use Rattle.row_map.specs.declared.shape.ColumnType.{ColumnType}
use Rattle.row_map.specs.declared.shape.ColumnType.TheVariants as column
use Rattle.row_map.specs.declared.shape.Row.{Row}
use Rattle.row_query.specs.declared.query.Cond.{Cond}
use Rattle.row_query.specs.declared.query.Cond.TheVariants.{Key, Equal, Between}
use Rattle.row_query.specs.declared.query.Query.{Query}
use Rattle.row_write.specs.declared.op.RowOp.{RowOp}
use Rattle.row_write.specs.declared.op.RowOp.TheVariants.{Insert, Update, Delete}
use Rattle.schema_version.specs.declared.element.ElementState.{ElementState}
use Rattle.schema_version.specs.declared.element.ElementState.TheVariants.{Absent, DeleteOnly, WriteOnly, Public}
use Rattle.schema_version.specs.declared.element.Kind.{Kind}
use Rattle.schema_version.specs.declared.element.Kind.TheVariants.{Index, Optional, Required}
use Rattle.schema_version.specs.declared.element.NewElement.{NewElement}
use Rattle.schema_version.specs.declared.step.Move.{Move}
use Rattle.schema_version.specs.declared.step.Move.TheVariants.{Enter, Go, Turn}
use Rattle.schema_version.specs.declared.table.TableDef.{TableDef}
use Rattle.replay.specs.declared.entry.Entry.{Entry}
use Rattle.replay.specs.declared.entry.What.{What}
use Rattle.replay.specs.declared.entry.What.TheVariants as what
use Rattle.entry_code.specs.declared.fault.CodeFault.{CodeFault}
use Rattle.entry_code.specs.declared.fault.CodeFault.TheVariants.{Version, Trailing, Malformed}

-- a value that bytes begin with, and the bytes after it
abbrev pub At : Type 0 → Type 0
At X = List ℕ → Result (X × List ℕ) CodeFault

unfoldable pub u64_at : At ℕ
u64_at bytes = if nat_lt (length bytes) 8 then Err Malformed else Ok (from_be_bytes w64 (take 8 bytes), drop 8 bytes)

unfoldable pub u32_at : At ℕ
u32_at bytes = if nat_lt (length bytes) 4 then Err Malformed else Ok (from_be_bytes w32 (take 4 bytes), drop 4 bytes)

unfoldable pub byte_at : At ℕ
byte_at [] = Err Malformed
byte_at (byte ∷ bytes) = Ok (byte, bytes)

unfoldable pub prefix_at : ℕ → At (List ℕ)
prefix_at len bytes = if nat_lt (length bytes) len then Err Malformed else Ok (take len bytes, drop len bytes)

unfoldable pub bytes_at : At (List ℕ)
bytes_at bytes = u64_at bytes >>>= λ x. prefix_at x.0 x.1

unfoldable pub text_at : At (List ℕ)
text_at bytes = bytes_at bytes >>>= λ x. if is_utf8 x.0 then Ok x else Err Malformed

abbrev pub from_key : Result (Value × List ℕ) KeyFault → Result (Value × List ℕ) CodeFault
from_key (Ok x) = Ok x
from_key (Err fault) = Err Malformed

unfoldable pub value_at : At Value
value_at bytes = from_key (key_value_at bytes)

abbrev pub pair_at : {A B : Type 0} → At A → At B → At (A × B)
pair_at one two bytes = one bytes >>>= λ x. two x.1 >>>= λ y. Ok ((x.0, y.0), y.1)

abbrev pub map_at : {A B : Type 0} → (A → B) → At A → At B
map_at f at bytes = at bytes >>>= λ x. Ok (f x.0, x.1)

-- so many items after those that were read
unfoldable pub items_at : {X : Type 0} → At X → List X → ℕ → At (List X)
items_at at before zero bytes = Ok (before, bytes)
items_at at before (suc n) bytes = at bytes >>>= λ x. items_at at (before ++ x.0 ∷ []) n x.1

unfoldable pub list_at : {X : Type 0} → At X → At (List X)
list_at at bytes = u64_at bytes >>>= λ x. items_at at [] x.0 x.1

-- ---- variants, by the byte that tells them

abbrev pub tagged_at : {X : Type 0} → (ℕ → At X) → At X
tagged_at by bytes = byte_at bytes >>>= λ x. by x.0 x.1

abbrev pub option_by : {X : Type 0} → At X → ℕ → At (Option X)
option_by at tag bytes =
    if tag == 0 then Ok (None, bytes)
    else (if tag == 1 then map_at Some at bytes
    else Err Malformed)

unfoldable pub option_at : {X : Type 0} → At X → At (Option X)
option_at at = tagged_at (option_by at)

abbrev pub type_by : ℕ → At ColumnType
type_by tag bytes =
    if tag == 0 then Ok (column.Int, bytes)
    else (if tag == 1 then Ok (column.Text, bytes)
    else (if tag == 2 then Ok (column.Bool, bytes)
    else Err Malformed))

unfoldable pub type_at : At ColumnType
type_at = tagged_at type_by

abbrev pub state_by : ℕ → At ElementState
state_by tag bytes =
    if tag == 0 then Ok (Absent, bytes)
    else (if tag == 1 then Ok (DeleteOnly, bytes)
    else (if tag == 2 then Ok (WriteOnly, bytes)
    else (if tag == 3 then Ok (Public, bytes)
    else Err Malformed)))

unfoldable pub state_at : At ElementState
state_at = tagged_at state_by

-- ---- operations

abbrev pub key_at : At (List Value)
key_at = list_at value_at

abbrev pub cells_at : At (List (ℕ × Value))
cells_at = list_at (pair_at u32_at value_at)

abbrev pub row_at : At (ℕ × (List Value × List (ℕ × Value)))
row_at = pair_at u32_at (pair_at key_at cells_at)

abbrev pub op_by : ℕ → At RowOp
op_by tag bytes =
    if tag == 0 then map_at (λ r. Insert r.0 r.1.0 r.1.1) row_at bytes
    else (if tag == 1 then map_at (λ r. Update r.0 r.1.0 r.1.1) row_at bytes
    else (if tag == 2 then map_at (λ r. Delete r.0 r.1) (pair_at u32_at key_at) bytes
    else Err Malformed))

unfoldable pub op_at : At RowOp
op_at = tagged_at op_by

-- ---- steps and tables

abbrev pub kind_by : ℕ → At Kind
kind_by tag bytes =
    if tag == 0 then map_at Index (list_at u32_at) bytes
    else (if tag == 1 then map_at Optional type_at bytes
    else (if tag == 2 then map_at (λ r. Required r.0 r.1) (pair_at type_at value_at) bytes
    else Err Malformed))

unfoldable pub kind_at : At Kind
kind_at = tagged_at kind_by

unfoldable pub fresh_at : At NewElement
fresh_at = map_at (λ r. record { table = r.0; name = r.1.0; kind = r.1.1 }) (pair_at u32_at (pair_at text_at kind_at))

abbrev pub move_by : ℕ → At Move
move_by tag bytes =
    if tag == 0 then map_at (λ r. Enter r.0 r.1) (pair_at fresh_at state_at) bytes
    else (if tag == 1 then map_at (λ r. Go r.0 r.1) (pair_at u32_at state_at) bytes
    else (if tag == 2 then map_at Turn u32_at bytes
    else Err Malformed))

unfoldable pub move_at : At Move
move_at = tagged_at move_by

abbrev pub columns_at : At (List (List ℕ × ColumnType))
columns_at = list_at (pair_at text_at type_at)

unfoldable pub table_at : At TableDef
table_at =
    map_at (λ r. record { name = r.0; key = r.1.0; columns = r.1.1.0; indexes = r.1.1.1 })
    (pair_at text_at (pair_at columns_at (pair_at columns_at (list_at (pair_at text_at (list_at text_at))))))

-- ---- entries

unfoldable pub lease_at : At Lease
lease_at = map_at (λ r. record { version = r.0; granted = r.1.0; until = r.1.1 }) (pair_at u64_at (pair_at u64_at u64_at))

abbrev pub what_by : ℕ → At What
what_by tag bytes =
    if tag == 0 then map_at what.Lease lease_at bytes
    else (if tag == 1 then map_at (λ r. what.Txn r.0 r.1) (pair_at lease_at (list_at op_at)) bytes
    else (if tag == 2 then map_at what.Publish (list_at move_at) bytes
    else (if tag == 3 then map_at (λ r. what.Begin r.0 r.1) (pair_at u32_at u32_at) bytes
    else (if tag == 4 then map_at (λ r. what.Piece r.0 r.1.0 r.1.1) (pair_at u32_at (pair_at u32_at bytes_at)) bytes
    else Err Malformed))))

unfoldable pub what_at : At What
what_at = tagged_at what_by

unfoldable pub entry_at : At Entry
entry_at = map_at (λ r. record { moment = r.0; what = r.1 }) (pair_at u64_at what_at)

-- ---- queries and rows

abbrev pub between_at : At (ℕ × (Option Value × Option Value))
between_at = pair_at u32_at (pair_at (option_at value_at) (option_at value_at))

abbrev pub cond_by : ℕ → At Cond
cond_by tag bytes =
    if tag == 0 then map_at Key key_at bytes
    else (if tag == 1 then map_at (λ r. Equal r.0 r.1) (pair_at u32_at value_at) bytes
    else (if tag == 2 then map_at (λ r. Between r.0 r.1.0 r.1.1) between_at bytes
    else Err Malformed))

unfoldable pub cond_at : At Cond
cond_at = tagged_at cond_by

unfoldable pub query_at : At Query
query_at = map_at (λ r. record { table = r.0; columns = r.1.0; conditions = r.1.1 }) (pair_at u32_at (pair_at (list_at u32_at) (list_at cond_at)))

unfoldable pub table_row_at : At Row
table_row_at = map_at (λ r. record { key = r.0; cells = r.1 }) (pair_at key_at cells_at)

-- ---- changes and plans

abbrev pub named_at : At (ℕ × List ℕ)
named_at = pair_at u32_at text_at

abbrev pub change_by : ℕ → At Change
change_by tag bytes =
    if tag == 0 then map_at (λ r. AddIndex r.0 r.1.0 r.1.1) (pair_at u32_at (pair_at text_at (list_at text_at))) bytes
    else (if tag == 1 then map_at (λ r. DropIndex r.0 r.1) named_at bytes
    else (if tag == 2 then map_at (λ r. AddColumn r.0 r.1.0 r.1.1) (pair_at u32_at (pair_at text_at kind_at)) bytes
    else (if tag == 3 then map_at (λ r. DropColumn r.0 r.1) named_at bytes
    else (if tag == 4 then map_at (λ r. Abandon r.0 r.1) named_at bytes
    else Err Malformed))))

unfoldable pub change_at : At Change
change_at = tagged_at change_by

abbrev pub reorg_by : ℕ → At Reorg
reorg_by tag bytes =
    if tag == 0 then map_at Fill u32_at bytes
    else (if tag == 1 then map_at Clear u32_at bytes
    else Err Malformed)

unfoldable pub reorg_at : At Reorg
reorg_at = tagged_at reorg_by

unfoldable pub plan_step_at : At PlanStep
plan_step_at = map_at (λ r. record { before = r.0; step = r.1 }) (pair_at (list_at reorg_at) (list_at move_at))

-- ---- the whole bytes

-- what was read, if nothing follows it
abbrev pub end_of : {X : Type 0} → X × List ℕ → Result X CodeFault
end_of x = if length x.1 == 0 then Ok x.0 else Err Trailing

abbrev pub whole_of : {X : Type 0} → Result (X × List ℕ) CodeFault → Result X CodeFault
whole_of (Ok x) = end_of x
whole_of (Err fault) = Err Malformed

unfoldable pub whole_at : {X : Type 0} → At X → List ℕ → Result X CodeFault
whole_at at [] = Err Version
whole_at at (byte ∷ bytes) = if byte == 1 then whole_of (at bytes) else Err Version
