use Rattle.std.proofs.Common.{◌≡◌, ◌++◌, drop}
use Rattle.typed_calls.specs.inner.ReadRows.{cells_read}
use Rattle.typed_calls.proofs.read_queries.cells_read.Given as goal

abbrev pub invariant-loop-element : goal.invariant-loop-element
invariant-loop-element l = l.cells.items ++ cells_read l.view l.query l.key (drop l.element-index l.elements) ≡ cells_read l.view l.query l.key l.elements
