use Rattle.std.proofs.Common.{arith}
use Rattle.audit.proofs.Tallies.{all_bytes}
use Rattle.audit.proofs.tally.lemma_bytes.Goals as goal

pub returns : goal.returns
returns c = all_bytes c.args.bytes.now (λ i. omega (arith, c.type_inv.bytes i))
