use Rattle.std.proofs.Common.{◌≡◌, take}
use Rattle.std.specs.List.{filter_map}
use Rattle.audit.specs.Encoded.{stored_cell}
use Rattle.audit.proofs.encoded_rows.stored_cells.Given as goal

abbrev pub invariant-loop-element : goal.invariant-loop-element
invariant-loop-element g l = l.cells.items ≡ filter_map (stored_cell (g.V.PairView.pairs l.view) l.table l.key) (take l.element-index l.elements)
