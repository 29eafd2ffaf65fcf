use Rattle.std.proofs.Common.{ap, Ok}
use Rattle.fault_calls.proofs.Findings.{query_finding}
use Rattle.fault_calls.proofs.values.found_in_query.Goals as goal

pub returns : goal.returns
returns c = (c.query_fault.result, query_finding c.args.schema.now c.args.query.now c.query_fault.result c.query_fault.ensures.found c.query_fault.ensures.none, ap Ok c.found.ensures)
