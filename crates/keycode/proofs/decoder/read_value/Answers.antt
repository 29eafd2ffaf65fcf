use Rattle.std.proofs.Common.{arith}
use Rattle.keycode.proofs.Fields.{shorter_from}
use Rattle.keycode.proofs.decoder.read_value.Goals as goal

pub returns-clause-shorter : goal.returns-clause-shorter
returns-clause-shorter c = shorter_from c.args.bytes.now (λ x. (x.0, x.1.now)) c.value.result (λ i. omega (arith, c.type_inv.bytes i)) c.value.ensures
