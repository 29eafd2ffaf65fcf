-- Cited by the contracts of entry_bytes, ops_bytes, step_bytes, opening_bytes, query_bytes, rows_bytes, changes_bytes, plan_bytes, their readers and one_code.
-- The one code in bytes of each entry of a log, list of operations, step, opening, query, list of rows, batch of changes and plan.
use Rattle.std.specs.Prelude.{ℕ, List, [], ◌∷◌, ◌++◌, length, Option, Some, None}
use Rattle.std.specs.Int.{w32, w64, to_be_bytes}
use Rattle.std.specs.List.{flat_map}
use Rattle.change_plan.specs.declared.change.Change.{Change}
use Rattle.change_plan.specs.declared.change.Change.TheVariants.{AddIndex, DropIndex, AddColumn, DropColumn, Abandon}
use Rattle.change_plan.specs.declared.least_plan.PlanStep.{PlanStep}
use Rattle.change_plan.specs.declared.least_plan.Reorg.{Reorg}
use Rattle.change_plan.specs.declared.least_plan.Reorg.TheVariants.{Fill, Clear}
use Rattle.keycode.specs.declared.value.Value.{Value}
use Rattle.keycode.specs.Code.{code as value_code}
use Rattle.lease.specs.declared.lease.Lease.{Lease}
use Rattle.row_map.specs.declared.shape.ColumnType.{ColumnType}
use Rattle.row_map.specs.declared.shape.ColumnType.TheVariants as column
use Rattle.row_map.specs.declared.shape.Row.{Row}
use Rattle.row_query.specs.declared.query.Cond.{Cond}
use Rattle.row_query.specs.declared.query.Cond.TheVariants.{Key, Equal, Between}
use Rattle.row_query.specs.declared.query.Query.{Query}
use Rattle.row_write.specs.declared.op.RowOp.{RowOp}
use Rattle.row_write.specs.declared.op.RowOp.TheVariants.{Insert, Update, Delete}
use Rattle.schema_version.specs.declared.element.ElementState.{ElementState}
use Rattle.schema_version.specs.declared.element.ElementState.TheVariants.{Absent, DeleteOnly, WriteOnly, Public}
use Rattle.schema_version.specs.declared.element.Kind.{Kind}
use Rattle.schema_version.specs.declared.element.Kind.TheVariants.{Index, Optional, Required}
use Rattle.schema_version.specs.declared.element.NewElement.{NewElement}
use Rattle.schema_version.specs.declared.step.Move.{Move}
use Rattle.schema_version.specs.declared.step.Move.TheVariants.{Enter, Go, Turn}
use Rattle.schema_version.specs.declared.table.TableDef.{TableDef}
use Rattle.replay.specs.declared.entry.Entry.{Entry}
use Rattle.replay.specs.declared.entry.What.{What}
use Rattle.replay.specs.declared.entry.What.TheVariants as what

-- ---- numbers, byte strings and lists

-- a number by its bytes, the highest first
unfoldable pub u64_code : ℕ → List ℕ
u64_code n = to_be_bytes w64 n

unfoldable pub u32_code : ℕ → List ℕ
u32_code n = to_be_bytes w32 n

-- how many bytes, and the bytes
unfoldable pub bytes_code : List ℕ → List ℕ
bytes_code bytes = u64_code (length bytes) ++ bytes

abbrev pub pair_code : {A B : Type 0} → (A → List ℕ) → (B → List ℕ) → A × B → List ℕ
pair_code one two pair = one pair.0 ++ two pair.1

-- how many items, and each in turn
unfoldable pub list_code : {X : Type 0} → (X → List ℕ) → List X → List ℕ
list_code code items = u64_code (length items) ++ flat_map code items

-- 0 if there is none, else 1 and the value
abbrev pub option_code : {X : Type 0} → (X → List ℕ) → Option X → List ℕ
option_code code None = 0 ∷ []
option_code code (Some x) = 1 ∷ code x

-- the version of the code stands first
abbrev pub versioned : {X : Type 0} → (X → List ℕ) → X → List ℕ
versioned code x = 1 ∷ code x

-- ---- operations

abbrev pub key_code : List Value → List ℕ
key_code = list_code value_code

abbrev pub cells_code : List (ℕ × Value) → List ℕ
cells_code = list_code (pair_code u32_code value_code)

abbrev pub op_code : RowOp → List ℕ
op_code (Insert table key cells) = 0 ∷ (u32_code table ++ (key_code key ++ cells_code cells))
op_code (Update table key cells) = 1 ∷ (u32_code table ++ (key_code key ++ cells_code cells))
op_code (Delete table key) = 2 ∷ (u32_code table ++ key_code key)

abbrev pub op_list_code : List RowOp → List ℕ
op_list_code = list_code op_code

-- ---- steps and tables

abbrev pub type_code : ColumnType → List ℕ
type_code column.Int = 0 ∷ []
type_code column.Text = 1 ∷ []
type_code column.Bool = 2 ∷ []

abbrev pub state_code : ElementState → List ℕ
state_code Absent = 0 ∷ []
state_code DeleteOnly = 1 ∷ []
state_code WriteOnly = 2 ∷ []
state_code Public = 3 ∷ []

abbrev pub kind_code : Kind → List ℕ
kind_code (Index columns) = 0 ∷ list_code u32_code columns
kind_code (Optional type) = 1 ∷ type_code type
kind_code (Required type fallback) = 2 ∷ (type_code type ++ value_code fallback)

abbrev pub fresh_code : NewElement → List ℕ
fresh_code fresh = u32_code fresh.table ++ (bytes_code fresh.name ++ kind_code fresh.kind)

abbrev pub move_code : Move → List ℕ
move_code (Enter fresh to) = 0 ∷ (fresh_code fresh ++ state_code to)
move_code (Go element to) = 1 ∷ (u32_code element ++ state_code to)
move_code (Turn element) = 2 ∷ u32_code element

abbrev pub move_list_code : List Move → List ℕ
move_list_code = list_code move_code

abbrev pub columns_code : List (List ℕ × ColumnType) → List ℕ
columns_code = list_code (pair_code bytes_code type_code)

abbrev pub table_code : TableDef → List ℕ
table_code table = bytes_code table.name ++ (columns_code table.key ++ (columns_code table.columns ++ list_code (pair_code bytes_code (list_code bytes_code)) table.indexes))

-- ---- entries

abbrev pub lease_code : Lease → List ℕ
lease_code lease = u64_code lease.version ++ (u64_code lease.granted ++ u64_code lease.until)

abbrev pub what_code : What → List ℕ
what_code (what.Lease lease) = 0 ∷ lease_code lease
what_code (what.Txn lease ops) = 1 ∷ (lease_code lease ++ op_list_code ops)
what_code (what.Publish step) = 2 ∷ move_list_code step
what_code (what.Begin element pieces) = 3 ∷ (u32_code element ++ u32_code pieces)
what_code (what.Piece element piece cursor) = 4 ∷ (u32_code element ++ (u32_code piece ++ bytes_code cursor))

-- an entry without the version
abbrev pub body_code : Entry → List ℕ
body_code entry = u64_code entry.moment ++ what_code entry.what

-- ---- queries and rows

abbrev pub cond_code : Cond → List ℕ
cond_code (Key key) = 0 ∷ key_code key
cond_code (Equal column value) = 1 ∷ (u32_code column ++ value_code value)
cond_code (Between column low high) = 2 ∷ (u32_code column ++ (option_code value_code low ++ option_code value_code high))

-- a query without the version
abbrev pub asked_code : Query → List ℕ
asked_code query = u32_code query.table ++ (list_code u32_code query.columns ++ list_code cond_code query.conditions)

abbrev pub row_code : Row → List ℕ
row_code row = key_code row.key ++ cells_code row.cells

-- ---- changes and plans

-- a table and a name
abbrev pub named_code : ℕ → List ℕ → List ℕ
named_code table name = u32_code table ++ bytes_code name

abbrev pub change_code : Change → List ℕ
change_code (AddIndex table name columns) = 0 ∷ (u32_code table ++ (bytes_code name ++ list_code bytes_code columns))
change_code (DropIndex table name) = 1 ∷ named_code table name
change_code (AddColumn table name kind) = 2 ∷ (u32_code table ++ (bytes_code name ++ kind_code kind))
change_code (DropColumn table name) = 3 ∷ named_code table name
change_code (Abandon table name) = 4 ∷ named_code table name

abbrev pub reorg_code : Reorg → List ℕ
reorg_code (Fill element) = 0 ∷ u32_code element
reorg_code (Clear element) = 1 ∷ u32_code element

-- what must have ended before a step, and its moves
abbrev pub plan_step_code : PlanStep → List ℕ
plan_step_code planned = list_code reorg_code planned.before ++ move_list_code planned.step

-- ---- what is handed out

abbrev pub entry_code : Entry → List ℕ
entry_code = versioned body_code

abbrev pub ops_code : List RowOp → List ℕ
ops_code = versioned op_list_code

abbrev pub step_code : List Move → List ℕ
step_code = versioned move_list_code

-- a lease length and the tables
abbrev pub opening_code : ℕ × List TableDef → List ℕ
opening_code = versioned (pair_code u64_code (list_code table_code))

abbrev pub query_code : Query → List ℕ
query_code = versioned asked_code

abbrev pub rows_code : List Row → List ℕ
rows_code = versioned (list_code row_code)

-- a batch of changes
abbrev pub changes_code : List Change → List ℕ
changes_code = versioned (list_code change_code)

-- the steps of a plan
abbrev pub plan_code : List PlanStep → List ℕ
plan_code = versioned (list_code plan_step_code)
