-- Cited by the contracts of entry_bytes, ops_bytes, step_bytes, opening_bytes, query_bytes, rows_bytes, changes_bytes, plan_bytes, their readers and one_code.
-- What types say of their values: numbers are in their ranges, lists have fewer than 2^64 items, and names are UTF-8. The values of columns are as V says.
use Rattle.std.specs.Prelude.{ℕ, ◌<◌, ◌^◌, List, length, Option, Some, None}
use Rattle.std.specs.Str.{IsUtf8}
use Rattle.std.specs.List.{AllByRecursion}
use Rattle.change_plan.specs.declared.change.Change.{Change}
use Rattle.change_plan.specs.declared.change.Change.TheVariants.{AddIndex, DropIndex, AddColumn, DropColumn, Abandon}
use Rattle.change_plan.specs.declared.least_plan.PlanStep.{PlanStep}
use Rattle.change_plan.specs.declared.least_plan.Reorg.{Reorg}
use Rattle.change_plan.specs.declared.least_plan.Reorg.TheVariants.{Fill, Clear}
use Rattle.keycode.specs.declared.value.Value.{Value}
use Rattle.lease.specs.declared.lease.Lease.{Lease}
use Rattle.row_map.specs.declared.shape.ColumnType.{ColumnType}
use Rattle.row_map.specs.declared.shape.Row.{Row}
use Rattle.row_query.specs.declared.query.Cond.{Cond}
use Rattle.row_query.specs.declared.query.Cond.TheVariants.{Key, Equal, Between}
use Rattle.row_query.specs.declared.query.Query.{Query}
use Rattle.row_write.specs.declared.op.RowOp.{RowOp}
use Rattle.row_write.specs.declared.op.RowOp.TheVariants.{Insert, Update, Delete}
use Rattle.schema_version.specs.declared.element.Kind.{Kind}
use Rattle.schema_version.specs.declared.element.Kind.TheVariants.{Index, Optional, Required}
use Rattle.schema_version.specs.declared.element.NewElement.{NewElement}
use Rattle.schema_version.specs.declared.step.Move.{Move}
use Rattle.schema_version.specs.declared.step.Move.TheVariants.{Enter, Go, Turn}
use Rattle.schema_version.specs.declared.table.TableDef.{TableDef}
use Rattle.replay.specs.declared.entry.Entry.{Entry}
use Rattle.replay.specs.declared.entry.What.{What}
use Rattle.replay.specs.declared.entry.What.TheVariants as what

abbrev pub IsU64 : ℕ → Type 0
IsU64 n = n < 2 ^ 64

abbrev pub IsU32 : ℕ → Type 0
IsU32 n = n < 2 ^ 32

abbrev pub IsByteString : List ℕ → Type 0
IsByteString bytes = IsU64 (length bytes)

abbrev pub IsText : List ℕ → Type 0
IsText text = IsByteString text × IsUtf8 text

abbrev pub IsPair : {A B : Type 0} → (A → Type 0) → (B → Type 0) → A × B → Type 0
IsPair P Q pair = P pair.0 × Q pair.1

abbrev pub IsList : {X : Type 0} → (X → Type 0) → List X → Type 0
IsList P items = IsU64 (length items) × AllByRecursion P items

abbrev pub IsOption : {X : Type 0} → (X → Type 0) → Option X → Type 0
IsOption P None = Unit {0}
IsOption P (Some x) = P x

abbrev pub IsAny : {X : Type 0} → X → Type 0
IsAny x = Unit {0}

abbrev pub IsOp : (Value → Type 0) → RowOp → Type 0
IsOp V (Insert table key cells) = IsU32 table × (IsList V key × IsList (IsPair IsU32 V) cells)
IsOp V (Update table key cells) = IsU32 table × (IsList V key × IsList (IsPair IsU32 V) cells)
IsOp V (Delete table key) = IsU32 table × IsList V key

abbrev pub AreOps : (Value → Type 0) → List RowOp → Type 0
AreOps V = IsList (IsOp V)

abbrev pub IsKind : (Value → Type 0) → Kind → Type 0
IsKind V (Index columns) = IsList IsU32 columns
IsKind V (Optional type) = Unit {0}
IsKind V (Required type fallback) = Unit {0} × V fallback

abbrev pub IsFresh : (Value → Type 0) → NewElement → Type 0
IsFresh V fresh = IsU32 fresh.table × (IsText fresh.name × IsKind V fresh.kind)

abbrev pub IsMove : (Value → Type 0) → Move → Type 0
IsMove V (Enter fresh to) = IsFresh V fresh × Unit {0}
IsMove V (Go element to) = IsU32 element × Unit {0}
IsMove V (Turn element) = IsU32 element

abbrev pub AreMoves : (Value → Type 0) → List Move → Type 0
AreMoves V = IsList (IsMove V)

abbrev pub AreColumns : List (List ℕ × ColumnType) → Type 0
AreColumns = IsList (IsPair IsText IsAny)

abbrev pub IsTable : TableDef → Type 0
IsTable table = IsText table.name × (AreColumns table.key × (AreColumns table.columns × IsList (IsPair IsText (IsList IsText)) table.indexes))

abbrev pub IsOpening : ℕ × List TableDef → Type 0
IsOpening = IsPair IsU64 (IsList IsTable)

abbrev pub IsLease : Lease → Type 0
IsLease lease = IsU64 lease.version × (IsU64 lease.granted × IsU64 lease.until)

abbrev pub IsWhat : (Value → Type 0) → What → Type 0
IsWhat V (what.Lease lease) = IsLease lease
IsWhat V (what.Txn lease ops) = IsLease lease × AreOps V ops
IsWhat V (what.Publish step) = AreMoves V step
IsWhat V (what.Begin element pieces) = IsU32 element × IsU32 pieces
IsWhat V (what.Piece element piece cursor) = IsU32 element × (IsU32 piece × IsByteString cursor)

abbrev pub IsEntry : (Value → Type 0) → Entry → Type 0
IsEntry V entry = IsU64 entry.moment × IsWhat V entry.what

abbrev pub IsCond : (Value → Type 0) → Cond → Type 0
IsCond V (Key key) = IsList V key
IsCond V (Equal column value) = IsU32 column × V value
IsCond V (Between column low high) = IsU32 column × (IsOption V low × IsOption V high)

abbrev pub IsQuery : (Value → Type 0) → Query → Type 0
IsQuery V query = IsU32 query.table × (IsList IsU32 query.columns × IsList (IsCond V) query.conditions)

abbrev pub IsRow : (Value → Type 0) → Row → Type 0
IsRow V row = IsList V row.key × IsList (IsPair IsU32 V) row.cells

abbrev pub AreRows : (Value → Type 0) → List Row → Type 0
AreRows V = IsList (IsRow V)

-- of a table and a name
abbrev pub IsNamed : ℕ → List ℕ → Type 0
IsNamed table name = IsU32 table × IsText name

abbrev pub IsChange : (Value → Type 0) → Change → Type 0
IsChange V (AddIndex table name columns) = IsU32 table × (IsText name × IsList IsText columns)
IsChange V (DropIndex table name) = IsNamed table name
IsChange V (AddColumn table name kind) = IsU32 table × (IsText name × IsKind V kind)
IsChange V (DropColumn table name) = IsNamed table name
IsChange V (Abandon table name) = IsNamed table name

abbrev pub AreChanges : (Value → Type 0) → List Change → Type 0
AreChanges V = IsList (IsChange V)

abbrev pub IsReorg : Reorg → Type 0
IsReorg (Fill element) = IsU32 element
IsReorg (Clear element) = IsU32 element

abbrev pub IsPlanStep : (Value → Type 0) → PlanStep → Type 0
IsPlanStep V planned = IsList IsReorg planned.before × AreMoves V planned.step

abbrev pub IsPlan : (Value → Type 0) → List PlanStep → Type 0
IsPlan V = IsList (IsPlanStep V)
