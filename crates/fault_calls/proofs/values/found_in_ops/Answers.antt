use Rattle.std.proofs.Common.{ap, Ok}
use Rattle.fault_calls.proofs.Findings.{txn_finding}
use Rattle.fault_calls.proofs.values.found_in_ops.Goals as goal

pub returns : goal.returns
returns c = (c.txn_fault.result, txn_finding c.args.schema.now c.args.ops.now c.txn_fault.result c.txn_fault.ensures.found c.txn_fault.ensures.none, ap Ok c.found.ensures)
