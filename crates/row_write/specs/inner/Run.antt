-- Cited by private functions alone: forget, set_cell, with_cells, new_row and 12 more.
-- Operations one after another on working rows.
use Rattle.std.specs.Prelude.{◌≡◌, ℕ, eqb, not, List, [], ◌∷◌, ◌++◌, filter, Option, Result, Ok, Err}
use Rattle.std.specs.List.{AllByRecursion}
use Rattle.std.specs.FinMap as map
use Rattle.keycode.specs.declared.value.Value.{Value}
use Rattle.row_map.specs.Rows.{Cells, Rows}
use Rattle.row_map.specs.Writes.{Writes, Batch, noted}
use Rattle.schema_version.specs.declared.element.ElementDef.{ElementDef}
use Rattle.schema_version.specs.Version.{Version}
use Rattle.element_state.specs.Elements.{Change, rows_after}
use Rattle.element_state.specs.Kinds.{kind_meaning}
use Rattle.element_state.specs.Sources.{source_in}
use Rattle.element_state.specs.Schemas.{version_writes}
use Rattle.element_state.specs.Tables.{within}
use Rattle.element_state.specs.Versions.{the_kinds, schema_of}
use Rattle.row_write.specs.declared.op.RowOp.{RowOp}
use Rattle.row_write.specs.declared.fault.RowFault.{RowFault}
use Rattle.row_write.specs.Plain.{row_of, change_of, change}
use Rattle.row_write.specs.inner.Changes.{done_by, IsDone}

-- cells as they are listed
abbrev pub cells_in : List (ℕ × Value) → Cells
cells_in cells = map.from_entries cells

-- the cells of all other columns
abbrev pub cells_but : ℕ → List (ℕ × Value) → List (ℕ × Value)
cells_but number cells = filter (λ (cell : ℕ × Value). not (eqb cell.0 number)) cells

-- what an element of the version writes
abbrev pub element_writes : Version → ElementDef → Change → Writes
element_writes version element done = (within element.table (kind_meaning element.number (source_in version element.kind))).writes element.state done

abbrev pub live_writes : Version → List ElementDef → Change → Writes
live_writes version [] done = []
live_writes version (element ∷ elements) done = element_writes version element done ++ live_writes version elements done

-- an operation is refused on the old row, or what it writes is noted
abbrev pub IsNoted : Version → Option Cells → RowOp → Result (Unit {0}) RowFault → Batch → Batch → Type 0
IsNoted version old op (Err why) batch batch_then = change_of old op ≡ Err why
IsNoted version old op (Ok done) batch batch_then =
    IsDone old op × (batch_then ≡ noted batch (version_writes the_kinds (schema_of version) (done_by op old)))

-- two maps have the same rows for these operations
abbrev pub HaveSame : List RowOp → Rows → Rows → Type 0
HaveSame ops rows others = AllByRecursion (λ (op : RowOp). map.get rows (row_of op) ≡ map.get others (row_of op)) ops

-- an operation was refused, or its writes are noted, and the rows are changed as far as later operations see them
abbrev pub IsStep : Version → Rows → RowOp → List RowOp → Result (Unit {0}) RowFault → Rows → Batch → Batch → Type 0
IsStep version rows op later (Err why) rows_then batch batch_then = change rows op ≡ Err why
IsStep version rows op later (Ok done) rows_then batch batch_then =
    (made : Change) × (change rows op ≡ Ok made) × HaveSame later rows_then (rows_after rows made) × (batch_then ≡ noted batch (version_writes the_kinds (schema_of version) made))
