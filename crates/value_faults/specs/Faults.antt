-- Cited by the contracts of txn_fault, query_fault.
-- Which value a transaction or a query is refused for.
use Rattle.std.specs.Prelude.{◌≡◌, ℕ, ◌+◌, ◌==◌, ◌||◌, Bool, List, [], ◌∷◌, ◌++◌, length, Option, Some, None, if◌then◌else◌}
use Rattle.std.specs.List.{list_any, AllByRecursion}
use Rattle.std.specs.Option.{option_or}
use mathlib.Core.List.{map as each}
use Rattle.collections.specs.Refusal.{IsFirst, IsClear}
use Rattle.keycode.specs.declared.value.Value.{Value}
use Rattle.keycode.specs.declared.value.Value.TheVariants.{Null, Int, Text, Bool as Flag}
use Rattle.row_map.specs.declared.shape.ColumnType.{ColumnType}
use Rattle.row_map.specs.declared.shape.ColumnType.TheVariants as type
use Rattle.row_map.specs.Shape.{has_type, is_null, is_key_value}
use Rattle.schema_version.specs.declared.element.ElementDef.{ElementDef}
use Rattle.schema_version.specs.Columns.{column_type}
use Rattle.schema_version.specs.Version.{Version, Table, table_at, live}
use Rattle.row_write.specs.declared.op.RowOp.{RowOp}
use Rattle.row_write.specs.declared.fault.PrepareFault.TheVariants as prepare
use Rattle.row_write.specs.Plain.{table_of, key_of, named_of}
use Rattle.row_write.specs.Prepare.{rank as op_rank, OpFault}
use Rattle.row_query.specs.declared.query.Cond.{Cond}
use Rattle.row_query.specs.declared.query.Cond.TheVariants.{Key, Equal, Between}
use Rattle.row_query.specs.declared.query.Query.{Query}
use Rattle.row_query.specs.declared.fault.QueryFault.TheVariants as query
use Rattle.row_query.specs.Kinds.{has_kind}
use Rattle.row_query.specs.Refused.{Named, Where, rank as part_rank, PartFault, IsRefused}
use Rattle.value_faults.specs.declared.fault.ValueCause.{ValueCause}
use Rattle.value_faults.specs.declared.fault.ValueCause.TheVariants.{KeyLength, KeyValue, ColumnValue, NamedTwice}
use Rattle.value_faults.specs.declared.fault.ValueFault.{ValueFault}

-- ---- values

-- the type of a value; Null has none
abbrev pub type_given : Value → Option ColumnType
type_given Null = None
type_given (Int n) = Some type.Int
type_given (Text t) = Some type.Text
type_given (Flag b) = Some type.Bool

-- a value that is asked for in a column: one of its kind, or Null for none
abbrev pub has_kind_or_null : ColumnType → Value → Bool
has_kind_or_null wanted value = has_kind wanted value || is_null value

-- the value at this place of a key, if it fails the test
abbrev pub wrong_at : (ColumnType → Value → Bool) → ℕ → ColumnType → Value → Option ValueCause
wrong_at test place wanted value = if test wanted value then None else Some (KeyValue place wanted (type_given value))

-- the first such value of a key, whose first value is at this place
abbrev pub wrong_from : (ColumnType → Value → Bool) → ℕ → List (List ℕ × ColumnType) → List Value → Option ValueCause
wrong_from test place [] key = None
wrong_from test place (column ∷ columns) [] = None
wrong_from test place (column ∷ columns) (value ∷ key) = option_or (wrong_at test place column.1 value) (wrong_from test (place + 1) columns key)

-- a key has as many values as the table's key has columns, and each of them passes the test
abbrev pub wrong_key : (ColumnType → Value → Bool) → List (List ℕ × ColumnType) → List Value → Option ValueCause
wrong_key test columns key = if length columns == length key then wrong_from test 0 columns key else Some (KeyLength (length key))

-- the value for this column, if the column has a type and the value fails the test
abbrev pub wrong_for : (ColumnType → Value → Bool) → ℕ → Option ColumnType → Value → Option ValueCause
wrong_for test column None value = None
wrong_for test column (Some wanted) value = if test wanted value then None else Some (ColumnValue column wanted (type_given value))

-- ---- operations

-- the first named value that is neither of its column's type nor Null
abbrev pub wrong_named : List ElementDef → ℕ → List (ℕ × Value) → Option ValueCause
wrong_named elements table [] = None
wrong_named elements table (named ∷ rest) = option_or (wrong_for is_key_value named.0 (column_type elements table named.0) named.1) (wrong_named elements table rest)

-- the column, if one of these has its number
abbrev pub named_again : ℕ → List (ℕ × Value) → Option ValueCause
named_again column rest = if list_any (λ (other : ℕ × Value). column == other.0) rest then Some (NamedTwice column) else None

-- the first named column that is named again after it
abbrev pub named_twice : List (ℕ × Value) → Option ValueCause
named_twice [] = None
named_twice (named ∷ rest) = option_or (named_again named.0 rest) (named_twice rest)

-- what is wrong with its key; or else with a named value; or else a column that is named twice
abbrev pub wrong_operation : List (List ℕ × ColumnType) → List ElementDef → RowOp → Option ValueCause
wrong_operation columns elements op =
    option_or (wrong_key has_type columns (key_of op)) (option_or (wrong_named elements (table_of op) (named_of op)) (named_twice (named_of op)))

-- The operation at the item's place has a wrong value, and no fault that comes before; the operations before it have none.
-- So it is the first operation with a fault, and the transaction is refused for this value.
pub record IsTxnFault (version : Version) (ops : List RowOp) (found : ValueFault) : Type 0 where
  pub before : List RowOp
  pub after : List RowOp
  pub op : RowOp
  pub split : ops ≡ before ++ op ∷ after
  pub place : found.item ≡ length before
  pub decides : IsFirst op_rank (OpFault version op) prepare.WrongType
  pub earlier : AllByRecursion (λ (other : RowOp). IsClear (OpFault version other)) before
  pub table : Table
  pub known : table_at version (table_of op) ≡ Some table
  pub cause : wrong_operation table.key (live version) op ≡ Some found.cause

-- ---- conditions

-- a bound that is not of the column's kind
abbrev pub wrong_bound : ℕ → Option ColumnType → Option Value → Option ValueCause
wrong_bound column wanted None = None
wrong_bound column wanted (Some bound) = wrong_for has_kind column wanted bound

-- what is wrong with its key, with its value, or with its low bound, or else with the high one
abbrev pub wrong_condition : List (List ℕ × ColumnType) → List ElementDef → ℕ → Cond → Option ValueCause
wrong_condition columns elements table (Key key) = wrong_key has_kind columns key
wrong_condition columns elements table (Equal column value) = wrong_for has_kind_or_null column (column_type elements table column) value
wrong_condition columns elements table (Between column low high) =
    option_or (wrong_bound column (column_type elements table column) low) (wrong_bound column (column_type elements table column) high)

-- The query is refused for its types; the condition at the item's place has a wrong value, and no fault that comes before; the named
-- columns and the conditions before it have none.
pub record IsQueryFault (version : Version) (asked : Query) (found : ValueFault) : Type 0 where
  pub refused : IsRefused version asked query.WrongType
  pub before : List Cond
  pub after : List Cond
  pub condition : Cond
  pub split : asked.conditions ≡ before ++ condition ∷ after
  pub place : found.item ≡ length before
  pub table : Table
  pub known : table_at version asked.table ≡ Some table
  pub decides : IsFirst part_rank (PartFault version asked.table table (Where condition)) query.WrongType
  pub earlier : AllByRecursion (λ part. IsClear (PartFault version asked.table table part)) (each Named asked.columns ++ each Where before)
  pub cause : wrong_condition table.key (live version) asked.table condition ≡ Some found.cause
