-- Cited by private functions alone: passes, of_cause, op_found, first_wrong and 5 more.
-- How the first wrong value is found: operation by operation, condition by condition.
use Rattle.std.specs.Prelude.{◌≡◌, ℕ, ◌+◌, Bool, false, ◌||◌, List, [], ◌∷◌, Option, Some, None, option_map, is_some, is_none, if◌then◌else◌}
use Rattle.keycode.specs.declared.value.Value.{Value}
use Rattle.row_map.specs.declared.shape.ColumnType.{ColumnType}
use Rattle.row_map.specs.Shape.{has_type, is_key_value}
use Rattle.schema_version.specs.declared.element.ElementDef.{ElementDef}
use Rattle.schema_version.specs.Columns.{column_type}
use Rattle.schema_version.specs.Version.{Version, Table, table_at, live}
use Rattle.row_write.specs.declared.op.RowOp.{RowOp}
use Rattle.row_write.specs.Plain.{table_of, named_of}
use Rattle.row_write.specs.inner.Checks.{first_hidden, AreKnown}
use Rattle.row_query.specs.declared.query.Cond.{Cond}
use Rattle.row_query.specs.declared.query.Cond.TheVariants.{Key, Equal, Between}
use Rattle.row_query.specs.declared.query.Query.{Query}
use Rattle.row_query.specs.Kinds.{has_kind}
use Rattle.value_faults.specs.declared.fault.ValueCause.{ValueCause}
use Rattle.value_faults.specs.declared.fault.ValueFault.{ValueFault}
use Rattle.value_faults.specs.declared.finding.Finding.{Finding}
use Rattle.value_faults.specs.declared.finding.Finding.TheVariants.{Clear, Other, Wrong}
use Rattle.value_faults.specs.declared.values.Rule.{Rule}
use Rattle.value_faults.specs.declared.values.Rule.TheVariants.{Typed, TypedOrNull, Kind, KindOrNull}
use Rattle.value_faults.specs.Faults.{has_kind_or_null, wrong_operation, wrong_condition}

-- the test of a rule
abbrev pub passes : Rule → ColumnType → Value → Bool
passes Typed = has_type
passes TypedOrNull = is_key_value
passes Kind = has_kind
passes KindOrNull = has_kind_or_null

abbrev pub of_cause : Option ValueCause → Finding
of_cause None = Clear
of_cause (Some cause) = Wrong cause

-- the first that is not clear decides
abbrev pub decided : ℕ → Finding → Option ValueFault → Option ValueFault
decided place Clear rest = rest
decided place Other rest = None
decided place (Wrong cause) rest = Some (record { item = place; cause = cause })

-- ---- operations

abbrev pub found_in : Option (List (List ℕ × ColumnType)) → List ElementDef → RowOp → Finding
found_in None elements op = Other
found_in (Some columns) elements op = if is_some (first_hidden elements (table_of op) (named_of op)) then Other else of_cause (wrong_operation columns elements op)

abbrev pub op_found : Version → RowOp → Finding
op_found version op = found_in (option_map (λ (t : Table). t.key) (table_at version (table_of op))) (live version) op

-- of operations, the first of which is at this place
abbrev pub ops_found : ℕ → Version → List RowOp → Option ValueFault
ops_found place version [] = None
ops_found place version (op ∷ ops) = decided place (op_found version op) (ops_found (place + 1) version ops)

-- the values of the operations before the first that is not clear are values of the program
abbrev pub AreKnownUntil : Version → List RowOp → Type 0
AreKnownUntil version [] = Unit {0}
AreKnownUntil version (op ∷ ops) = op_found version op ≡ Clear → AreKnown op × AreKnownUntil version ops

-- ---- conditions

abbrev pub names_hidden : List ElementDef → ℕ → List ℕ → Bool
names_hidden elements table [] = false
names_hidden elements table (column ∷ columns) = is_none (column_type elements table column) || names_hidden elements table columns

abbrev pub is_hidden : List ElementDef → ℕ → Cond → Bool
is_hidden elements table (Key key) = false
is_hidden elements table (Equal column value) = is_none (column_type elements table column)
is_hidden elements table (Between column low high) = is_none (column_type elements table column)

abbrev pub condition_found : List (List ℕ × ColumnType) → List ElementDef → ℕ → Cond → Finding
condition_found columns elements table condition = if is_hidden elements table condition then Other else of_cause (wrong_condition columns elements table condition)

-- of conditions, the first of which is at this place
abbrev pub conditions_found : ℕ → List (List ℕ × ColumnType) → List ElementDef → ℕ → List Cond → Option ValueFault
conditions_found place columns elements table [] = None
conditions_found place columns elements table (c ∷ cs) = decided place (condition_found columns elements table c) (conditions_found (place + 1) columns elements table cs)

abbrev pub found_of : List ElementDef → Option (List (List ℕ × ColumnType)) → Query → Option ValueFault
found_of elements None query = None
found_of elements (Some columns) query =
    if names_hidden elements query.table query.columns then None else conditions_found 0 columns elements query.table query.conditions

abbrev pub query_found : Version → Query → Option ValueFault
query_found version query = found_of (live version) (option_map (λ (t : Table). t.key) (table_at version query.table)) query
