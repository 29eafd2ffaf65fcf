use Rattle.std.proofs.Common.{arith}
use Rattle.entry_code.proofs.Reports.{reads_whole, accepts_whole}
use Rattle.page_code.proofs.Requests.{request_reader}
use Rattle.page_code.proofs.request.page_request_of.Goals as goal

pub returns-clause-read : goal.returns-clause-read
returns-clause-read c =
    reads_whole request_reader c.args.bytes.now (λ i. omega (arith, c.type_inv.bytes i)) c.read_request.result c.read_request.ensures.exact c.read_request.ensures.versioned

pub returns-clause-accepted : goal.returns-clause-accepted
returns-clause-accepted c = accepts_whole request_reader c.args.bytes.now c.read_request.result c.read_request.ensures.exact
