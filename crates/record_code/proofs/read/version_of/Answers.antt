use Rattle.std.proofs.Common.{◌∙◌}
use Rattle.record_code.proofs.RecordReads.{version_read, version_accepted, version_refused}
use Rattle.record_code.proofs.read.version_of.Goals as goal

pub returns-in-Ok-clause-read : goal.returns-in-Ok-clause-read
returns-in-Ok-clause-read c = version_read c.args.bytes.now c.in-Ok.parts c.restored.result c.in-Ok.ensures.read c.restored.ensures

pub returns-in-Ok-clause-accepted : goal.returns-in-Ok-clause-accepted
returns-in-Ok-clause-accepted c = version_accepted c.args.bytes.now c.in-Ok.parts c.restored.result c.in-Ok.ensures.accepted c.restored.ensures

pub returns-in-Err-clause-accepted : goal.returns-in-Err-clause-accepted
returns-in-Err-clause-accepted c = λ r kind known spelled. c.to_fault.ensures ∙ version_refused c.args.bytes.now c.in-Err.fault c.in-Err.ensures.accepted r kind known spelled
