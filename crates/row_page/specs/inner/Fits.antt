-- Cited by private functions alone: is_key_for, is_bound_for, is_range_for, with_range.
-- The test of a range's keys, and where it comes among the refusals.
use Rattle.std.specs.Prelude.{ℕ, List, Option, Some, None, Bool, true, false, ◌&&◌, option_map, Result, Ok, Err}
use Rattle.keycode.specs.declared.value.Value.{Value}
use Rattle.row_map.specs.declared.shape.ColumnType.{ColumnType}
use Rattle.schema_version.specs.Version.{Version, Table, table_at}
use Rattle.row_query.specs.declared.fault.QueryFault.{QueryFault}
use Rattle.row_query.specs.declared.fault.QueryFault.TheVariants.{NoTable, NotPublic, WrongType, Memory}
use Rattle.row_query.specs.inner.Checks.{is_key_for}
use Rattle.row_page.specs.declared.range.KeyRange.{KeyRange}

abbrev pub key_fits : List (List ℕ × ColumnType) → List Value → Bool
key_fits columns key = is_key_for columns key

abbrev pub bound_fits : List (List ℕ × ColumnType) → Option (List Value) → Bool
bound_fits columns None = true
bound_fits columns (Some key) = key_fits columns key

abbrev pub fits_in : Option (List (List ℕ × ColumnType)) → KeyRange → Bool
fits_in None range = false
fits_in (Some columns) range = bound_fits columns range.after && bound_fits columns range.before

-- whether the table is there and the range's keys are its keys
abbrev pub range_fits : Version → ℕ → KeyRange → Bool
range_fits version table range = fits_in (option_map (λ (t : Table). t.key) (table_at version table)) range

-- what is wrong, if the range's keys may not be the table's: the query's own fault comes first, and out of memory last
abbrev pub with_range : Result (Unit {0}) QueryFault → Bool → Result (Unit {0}) QueryFault
with_range asked true = asked
with_range (Ok u) false = Err WrongType
with_range (Err NoTable) false = Err NoTable
with_range (Err (NotPublic column)) false = Err (NotPublic column)
with_range (Err WrongType) false = Err WrongType
with_range (Err Memory) false = Err WrongType
