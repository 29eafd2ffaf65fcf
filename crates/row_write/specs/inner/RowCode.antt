-- Cited by private functions alone: .
-- How rows are distinguished.
use Rattle.std.specs.FinMap as map
use Rattle.std.specs.Coded.{Coded, coded×, coded_list, coded_ℕ}
use Rattle.std.specs.Ordering.{nat_cmp}
use Rattle.keycode.specs.contracts.value.Value as value
use Rattle.row_map.specs.Rows.{Rows, row_cmp}

abbrev pub rows_code : Coded Rows
rows_code = map.code {R = row_cmp} (coded× coded_ℕ (coded_list value.the_row.coded)) (map.code {R = nat_cmp} coded_ℕ value.the_row.coded)
