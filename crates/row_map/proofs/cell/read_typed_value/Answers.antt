use Rattle.std.proofs.Common.{arith}
use Rattle.row_map.proofs.Cells.{typed_found}
use Rattle.row_map.proofs.cell.read_typed_value.Goals as goal

pub returns-clause-encoded : goal.returns-clause-encoded
returns-clause-encoded c =
    typed_found c.args.kind c.args.bytes.now (λ i. omega (arith, c.type_inv.bytes i)) c.of_type.result c.in_ok-value.value c.in_ok-value.ensures.exact c.of_type.ensures
