use Rattle.std.proofs.Common.{◌∙◌}
use Rattle.row_write.proofs.Named.{named_at}
use Rattle.row_write.proofs.values.named.Goals as goal

pub returns : goal.returns
returns c = c.last_cell.ensures ∙ named_at c.args.column c.args.cells.now
