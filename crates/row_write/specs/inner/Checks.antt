-- Cited by private functions alone: first_hidden, suits, suits_all, is_key_for and 4 more.
-- The tests by which an operation's fault is found.
use Rattle.std.specs.Prelude.{◌≡◌, ℕ, ◌==◌, Bool, true, false, ◌&&◌, List, [], ◌∷◌, Option, Some, None, option_map, is_some, not, if◌then◌else◌}
use Rattle.std.specs.List.{list_any, AllByRecursion}
use Rattle.std.specs.Cmp.Lexicographic.{pointwise}
use Rattle.keycode.specs.declared.value.Value.{Value}
use Rattle.keycode.specs.Valid.{IsValue, AreValues}
use Rattle.row_map.specs.declared.shape.ColumnType.{ColumnType}
use Rattle.row_map.specs.Shape.{has_type, is_key_value}
use Rattle.schema_version.specs.declared.element.ElementDef.{ElementDef}
use Rattle.schema_version.specs.Columns.{column_type}
use Rattle.schema_version.specs.Version.{Version, Table, table_at, live}
use Rattle.row_write.specs.declared.op.RowOp.{RowOp}
use Rattle.row_write.specs.declared.fault.PrepareFault.{PrepareFault}
use Rattle.row_write.specs.declared.fault.PrepareFault.TheVariants.{NoTable, NotPublic, WrongType}
use Rattle.row_write.specs.Plain.{table_of, key_of, named_of}

-- the first named number that is no public column of the table
abbrev pub first_hidden : List ElementDef → ℕ → List (ℕ × Value) → Option ℕ
first_hidden elements table [] = None
first_hidden elements table (named ∷ rest) = if is_some (column_type elements table named.0) then first_hidden elements table rest else Some named.0

-- whether a value is one of the column's type, or Null
abbrev pub suits : Option ColumnType → Value → Bool
suits None value = false
suits (Some type) value = is_key_value type value

abbrev pub suits_all : List ElementDef → ℕ → List (ℕ × Value) → Bool
suits_all elements table [] = true
suits_all elements table (named ∷ rest) = suits (column_type elements table named.0) named.1 && suits_all elements table rest

abbrev pub is_key_for : List (List ℕ × ColumnType) → List Value → Bool
is_key_for columns key = pointwise (λ (column : List ℕ × ColumnType) value. has_type column.1 value) columns key

-- whether no column is named twice
abbrev pub are_distinct : List (ℕ × Value) → Bool
are_distinct [] = true
are_distinct (named ∷ rest) = not (list_any (λ (other : ℕ × Value). named.0 == other.0) rest) && are_distinct rest

-- whether key and values are of their columns' types, and no column is named twice
abbrev pub is_typed : List (List ℕ × ColumnType) → List ElementDef → RowOp → Bool
is_typed columns elements op =
    is_key_for columns (key_of op) && (suits_all elements (table_of op) (named_of op) && are_distinct (named_of op))

abbrev pub check_named : Option ℕ → Bool → Option PrepareFault
check_named (Some column) typed = Some (NotPublic column)
check_named None true = None
check_named None false = Some WrongType

abbrev pub check_table : Option (List (List ℕ × ColumnType)) → List ElementDef → RowOp → Option PrepareFault
check_table None elements op = Some NoTable
check_table (Some columns) elements op = check_named (first_hidden elements (table_of op) (named_of op)) (is_typed columns elements op)

-- the operation's lowest fault
abbrev pub op_check : Version → RowOp → Option PrepareFault
op_check version op = check_table (option_map (λ (t : Table). t.key) (table_at version (table_of op))) (live version) op

abbrev pub or_else : Option PrepareFault → Option PrepareFault → Option PrepareFault
or_else None rest = rest
or_else (Some fault) rest = Some fault

-- that of the first operation with one
abbrev pub ops_check : Version → List RowOp → Option PrepareFault
ops_check version [] = None
ops_check version (op ∷ ops) = or_else (op_check version op) (ops_check version ops)

-- its values are values of the program
pub record AreKnown (op : RowOp) : Type 0 where
  pub key : AreValues (key_of op)
  pub values : AllByRecursion (λ (named : ℕ × Value). IsValue named.1) (named_of op)

-- so are the values of the operations before the first with a fault
abbrev pub AreKnownUntil : Version → List RowOp → Type 0
AreKnownUntil version [] = Unit {0}
AreKnownUntil version (op ∷ ops) = op_check version op ≡ None → AreKnown op × AreKnownUntil version ops
