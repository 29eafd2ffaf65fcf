-- Cited by private functions alone: WorkRows::put, last.
-- Rows as they stand after some operations, written one after another.
use Rattle.std.specs.Prelude.{ℕ, ◌==◌, ◌&&◌, Bool, List, [], ◌∷◌, Option, Some, None, if◌then◌else◌}
use Rattle.std.specs.Ordering.{is_eq}
use Rattle.std.specs.FinMap as map
use mathlib.Core.List.{map as each}
use Rattle.keycode.specs.declared.value.Value.{Value}
use Rattle.keycode.specs.Order.{values_cmp}
use Rattle.row_map.specs.declared.shape.Row.{Row}
use Rattle.row_map.specs.Rows.{RowKey, Cells, Rows}
use Rattle.row_map.specs.Writes.{written_all}
use Rattle.row_write.specs.declared.work_rows.RowVersion.{RowVersion}
use Rattle.row_write.specs.inner.View.{cells_there}

-- the cells of a row that is there
abbrev pub cells_if : Bool → Row → Option Cells
cells_if there row = cells_there there row.cells

abbrev pub row_version_write : RowVersion → RowKey × Option Cells
row_version_write m = ((m.table, m.row.key), cells_if m.there m.row)

abbrev pub rows_of : List RowVersion → Rows
rows_of row_versions = written_all map.empty (each row_version_write row_versions)

-- whether it is of this row
abbrev pub is_about : ℕ → List Value → RowVersion → Bool
is_about table key m = (m.table == table) && is_eq (values_cmp m.row.key key)

-- the row that it leaves
abbrev pub row_if : RowVersion → Option Row
row_if m = if m.there then Some m.row else None

-- the row as the last mention of it leaves it
abbrev pub last_row : ℕ → List Value → Option Row → List RowVersion → Option Row
last_row table key before [] = before
last_row table key before (m ∷ ms) = last_row table key (if is_about table key m then row_if m else before) ms
