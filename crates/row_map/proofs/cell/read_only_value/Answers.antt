use Rattle.std.proofs.Common.{arith}
use Rattle.row_map.proofs.Cells.{only_found}
use Rattle.row_map.proofs.cell.read_only_value.Goals as goal

pub returns-clause-encoded : goal.returns-clause-encoded
returns-clause-encoded c = only_found c.only.result c.args.bytes.now (λ i. omega (arith, c.type_inv.bytes i)) c.only.ensures
