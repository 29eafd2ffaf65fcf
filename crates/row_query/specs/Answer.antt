-- Cited by the contracts of answer.
-- What a query answers, from the rows alone.
use Rattle.std.specs.Prelude.{ℕ, List, Option, Some, None, filter, Bool, true, ◌&&◌, not, ◌==◌}
use Rattle.std.specs.List.{list_all, list_any}
use Rattle.std.specs.Ordering.{is_eq, is_le}
use mathlib.Core.List.{map as each}
use Rattle.std.specs.FinMap as map
use Rattle.keycode.specs.declared.value.Value.{Value}
use Rattle.keycode.specs.Order.{value_cmp, values_cmp}
use Rattle.row_map.specs.declared.shape.Row.{Row}
use Rattle.row_map.specs.Rows.{RowKey, Cells, Rows, value_or_null}
use Rattle.row_map.specs.Shape.{is_null}
use Rattle.row_query.specs.declared.query.Cond.{Cond}
use Rattle.row_query.specs.declared.query.Cond.TheVariants.{Key, Equal, Between}
use Rattle.row_query.specs.declared.query.Query.{Query}

abbrev pub is_from : Option Value → Value → Bool
is_from None value = true
is_from (Some low) value = is_le (value_cmp low value)

abbrev pub is_up_to : Option Value → Value → Bool
is_up_to None value = true
is_up_to (Some high) value = is_le (value_cmp value high)

-- both ends are included, and a row without a value never lies between
abbrev pub is_between : Option Value → Option Value → Value → Bool
is_between low high value = not (is_null value) && is_from low value && is_up_to high value

-- whether a row of this key and these values meets a condition. A column without a value has the value Null
abbrev pub meets : List Value → (ℕ → Value) → Cond → Bool
meets key value (Key wanted) = is_eq (values_cmp key wanted)
meets key value (Equal column wanted) = is_eq (value_cmp (value column) wanted)
meets key value (Between column low high) = is_between low high (value column)

-- whether a row is asked for
abbrev pub is_asked : Query → RowKey × Cells → Bool
is_asked query row = (row.0.0 == query.table) && list_all (meets row.0.1 (value_or_null row.1)) query.conditions

abbrev pub is_named : List ℕ → ℕ → Bool
is_named columns number = list_any (◌==◌ number) columns

-- a row with the named columns alone
abbrev pub cut : List ℕ → RowKey × Cells → Row
cut columns row = record { key = row.0.1; cells = filter (λ cell. is_named columns cell.0) (map.entries row.1) }

-- the table's rows that meet every condition, in the order of their primary keys, cut to the named columns
abbrev pub plain_answer : Rows → Query → List Row
plain_answer rows query = each (cut query.columns) (filter (is_asked query) (map.entries rows))
