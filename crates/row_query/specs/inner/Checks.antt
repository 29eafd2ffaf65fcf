-- Cited by private functions alone: find, public_numbers, is_key_for, may_equal and 6 more.
-- The tests by which a query's fault is found, in the order in which they are made.
use Rattle.std.specs.Prelude.{ℕ, List, [], ◌∷◌, Option, Some, None, Bool, true, ◌&&◌, ◌||◌, Result, Ok, Err, option_map, is_some, if◌then◌else◌, filter}
use Rattle.std.specs.List.{AllByRecursion}
use Rattle.std.specs.Cmp.Lexicographic.{pointwise}
use mathlib.Core.List.{map as each}
use Rattle.collections.specs.Answers.{◌>>>=◌}
use Rattle.keycode.specs.declared.value.Value.{Value}
use Rattle.keycode.specs.Valid.{IsValue, AreValues}
use Rattle.row_map.specs.declared.shape.ColumnType.{ColumnType}
use Rattle.row_map.specs.Shape.{is_null}
use Rattle.schema_version.specs.declared.element.ElementDef.{ElementDef}
use Rattle.schema_version.specs.Columns.{column_type}
use Rattle.schema_version.specs.Version.{Version, Table, table_at, live, is_public_column}
use Rattle.row_query.specs.declared.fault.QueryFault.{QueryFault}
use Rattle.row_query.specs.declared.fault.QueryFault.TheVariants.{NoTable, NotPublic, WrongType}
use Rattle.row_query.specs.declared.query.Cond.{Cond}
use Rattle.row_query.specs.declared.query.Cond.TheVariants.{Key, Equal, Between}
use Rattle.row_query.specs.declared.query.Query.{Query}
use Rattle.row_query.specs.Kinds.{has_kind}

-- the numbers of the public columns of a table, rising
abbrev pub public_numbers : List ElementDef → ℕ → List ℕ
public_numbers elements table = each (λ (e : ElementDef). e.number) (filter (is_public_column table) elements)

abbrev pub is_key_for : List (List ℕ × ColumnType) → List Value → Bool
is_key_for columns key = pointwise (λ (column : List ℕ × ColumnType) value. has_kind column.1 value) columns key

-- with Null the rows without a value are asked for
abbrev pub may_equal : ColumnType → Value → Bool
may_equal type value = has_kind type value || is_null value

abbrev pub is_bound : ColumnType → Option Value → Bool
is_bound type None = true
is_bound type (Some bound) = has_kind type bound

-- a condition on a column that may not be public
abbrev pub tested : ℕ → Option ColumnType → (ColumnType → Bool) → Result (Unit {0}) QueryFault
tested column None test = Err (NotPublic column)
tested column (Some type) test = if test type then Ok tt else Err WrongType

abbrev pub condition_check : List ElementDef → ℕ → List (List ℕ × ColumnType) → Cond → Result (Unit {0}) QueryFault
condition_check elements table key (Key wanted) = if is_key_for key wanted then Ok tt else Err WrongType
condition_check elements table key (Equal column value) = tested column (column_type elements table column) (λ type. may_equal type value)
condition_check elements table key (Between column low high) = tested column (column_type elements table column) (λ type. is_bound type low && is_bound type high)

abbrev pub conditions_check : List ElementDef → ℕ → List (List ℕ × ColumnType) → List Cond → Result (Unit {0}) QueryFault
conditions_check elements table key [] = Ok tt
conditions_check elements table key (c ∷ cs) = condition_check elements table key c >>>= λ _. conditions_check elements table key cs

abbrev pub columns_check : List ElementDef → ℕ → List ℕ → Result (Unit {0}) QueryFault
columns_check elements table [] = Ok tt
columns_check elements table (c ∷ cs) = if is_some (column_type elements table c) then columns_check elements table cs else Err (NotPublic c)

abbrev pub check_in : List ElementDef → Option (List (List ℕ × ColumnType)) → Query → Result (Unit {0}) QueryFault
check_in elements None query = Err NoTable
check_in elements (Some key) query = columns_check elements query.table query.columns >>>= λ _. conditions_check elements query.table key query.conditions

-- the table, then the named columns, then the conditions in order
abbrev pub query_check : Version → Query → Result (Unit {0}) QueryFault
query_check version query = check_in (live version) (option_map (λ (t : Table). t.key) (table_at version query.table)) query

-- values of the program, which a test has read
abbrev pub IsKnownBound : Option Value → Type 0
IsKnownBound None = Unit {0}
IsKnownBound (Some bound) = IsValue bound

abbrev pub IsKnown : Cond → Type 0
IsKnown (Key wanted) = AreValues wanted
IsKnown (Equal column value) = IsValue value
IsKnown (Between column low high) = IsKnownBound low × IsKnownBound high

abbrev pub AreKnown : List Cond → Type 0
AreKnown = AllByRecursion IsKnown
