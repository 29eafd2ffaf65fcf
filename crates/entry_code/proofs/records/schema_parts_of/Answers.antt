use Rattle.std.proofs.Common.{arith}
use Rattle.entry_code.proofs.PartReaders.{schema_reader}
use Rattle.entry_code.proofs.Reports.{reads_whole, accepts_whole}
use Rattle.entry_code.proofs.records.schema_parts_of.Goals as goal

pub returns-clause-read : goal.returns-clause-read
returns-clause-read c =
    reads_whole schema_reader c.args.bytes.now (λ i. omega (arith, c.type_inv.bytes i)) c.decode.result c.decode.ensures.exact c.decode.ensures.versioned

pub returns-clause-accepted : goal.returns-clause-accepted
returns-clause-accepted c = accepts_whole schema_reader c.args.bytes.now c.decode.result c.decode.ensures.exact
