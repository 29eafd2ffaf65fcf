use Rattle.std.proofs.Common.{◌∙◌, ap}
use Rattle.element_state.specs.Operations.{cells_of}
use Rattle.row_write.specs.inner.Changes.{last_named}
use Rattle.row_write.proofs.Named.{last_written}
use Rattle.row_write.proofs.values.updated.Goals as goal

pub returns : goal.returns
returns c = c.last_cell.ensures ∙ ap (λ o. last_named c.args.column o c.args.cells.now) c.cell.ensures ∙ last_written c.args.column c.args.cells.now (cells_of c.args.old.now)
