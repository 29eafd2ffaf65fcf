-- Cited by the contracts of txn_fault, query_fault, opening_fault and of what they call.
-- What C is told of a fault: numbers, of which those that a cause does not name are 0.
use Rattle.std.specs.Prelude.{ℕ, ℤ, Option, Some, None, Result, Ok, Err}
use Rattle.row_map.specs.declared.shape.ColumnType.{ColumnType}
use Rattle.row_map.specs.declared.shape.ColumnType.TheVariants as type
use Rattle.value_faults.specs.declared.fault.ValueCause.{ValueCause}
use Rattle.value_faults.specs.declared.fault.ValueCause.TheVariants as value
use Rattle.value_faults.specs.declared.fault.ValueFault.{ValueFault}
use Rattle.table_faults.specs.declared.fault.TableCause.{TableCause}
use Rattle.table_faults.specs.declared.fault.TableCause.TheVariants as table
use Rattle.table_faults.specs.declared.fault.TableFault.{TableFault}
use Rattle.layer_calls.specs.declared.outcome.LayerOutcome.{LayerOutcome}
use Rattle.handles.specs.Statuses.{ok}
use Rattle.fault_calls.specs.declared.outcome.ValueOutcome.{ValueOutcome}
use Rattle.fault_calls.specs.declared.outcome.TableOutcome.{TableOutcome}

abbrev pub type_number : ColumnType → ℕ
type_number type.Int = 0
type_number type.Text = 1
type_number type.Bool = 2

-- Null has no type
abbrev pub given_number : Option ColumnType → ℕ
given_number (Some kind) = type_number kind
given_number None = 3

-- ---- values

-- a status alone
abbrev pub no_value : ℤ → ValueOutcome
no_value status = record { status = status; cause = 0; item = 0; place = 0; column = 0; wanted = 0; given = 0 }

abbrev pub value_outcome : ℕ → ValueCause → ValueOutcome
value_outcome item (value.KeyLength given) = record { status = ok; cause = 1; item = item; place = given; column = 0; wanted = 0; given = 0 }
value_outcome item (value.KeyValue place wanted given) = record { status = ok; cause = 2; item = item; place = place; column = 0; wanted = type_number wanted; given = given_number given }
value_outcome item (value.ColumnValue column wanted given) = record { status = ok; cause = 3; item = item; place = 0; column = column; wanted = type_number wanted; given = given_number given }
value_outcome item (value.NamedTwice column) = record { status = ok; cause = 4; item = item; place = 0; column = column; wanted = 0; given = 0 }

abbrev pub found_value : Option ValueFault → ValueOutcome
found_value None = no_value ok
found_value (Some fault) = value_outcome fault.item fault.cause

-- what was found, or the status of why nothing was looked for
abbrev pub of_value : Result ValueOutcome LayerOutcome → ValueOutcome
of_value (Ok outcome) = outcome
of_value (Err refused) = no_value refused.status

-- ---- tables

abbrev pub no_table : ℤ → TableOutcome
no_table status = record { status = status; cause = 0; table = 0; index = 0; place = 0 }

abbrev pub table_at : ℕ → ℕ → ℕ → ℕ → TableOutcome
table_at number cause index place = record { status = ok; cause = cause; table = number; index = index; place = place }

abbrev pub table_outcome : ℕ → TableCause → TableOutcome
table_outcome number table.NoTable = table_at number 1 0 0
table_outcome number table.TooManyTables = table_at number 2 0 0
table_outcome number table.TableName = table_at number 3 0 0
table_outcome number table.TableTwice = table_at number 4 0 0
table_outcome number table.KeyLength = table_at number 5 0 0
table_outcome number table.TooManyColumns = table_at number 6 0 0
table_outcome number table.TooManyIndexes = table_at number 7 0 0
table_outcome number (table.Name place) = table_at number 8 0 place
table_outcome number (table.NameTwice place) = table_at number 9 0 place
table_outcome number (table.ListLength index) = table_at number 10 index 0
table_outcome number (table.ListedTwice index place) = table_at number 11 index place
table_outcome number (table.NotAColumn index place) = table_at number 12 index place

abbrev pub found_table : Option TableFault → TableOutcome
found_table None = no_table ok
found_table (Some fault) = table_outcome fault.table fault.cause

abbrev pub of_table : Result TableOutcome LayerOutcome → TableOutcome
of_table (Ok outcome) = outcome
of_table (Err refused) = no_table refused.status
