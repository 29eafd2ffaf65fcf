use Rattle.std.proofs.Common.{◌∙◌}
use Rattle.record_code.proofs.RecordReads.{reorg_is, reorg_refused}
use Rattle.record_code.proofs.read.reorg_of.Goals as goal

pub returns-in-Ok-clause-accepted : goal.returns-in-Ok-clause-accepted
returns-in-Ok-clause-accepted c = λ r kind known spelled. reorg_is c.args.bytes.now c.in-Ok.parts c.reorg_from.result r c.reorg_from.ensures c.in-Ok.ensures.accepted kind known spelled

pub returns-in-Err-clause-accepted : goal.returns-in-Err-clause-accepted
returns-in-Err-clause-accepted c = λ r kind known spelled. c.to_fault.ensures ∙ reorg_refused c.args.bytes.now c.in-Err.fault c.in-Err.ensures.accepted r kind known spelled
