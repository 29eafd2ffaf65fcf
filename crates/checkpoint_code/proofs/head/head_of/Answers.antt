use Rattle.std.proofs.Common.{◌∙◌}
use Rattle.checkpoint_code.proofs.Heads.{read_made, accept_made, accept_fault}
use Rattle.checkpoint_code.proofs.head.head_of.Goals as goal

pub returns-in-Ok-clause-read : goal.returns-in-Ok-clause-read
returns-in-Ok-clause-read c = read_made c.args.bytes.now c.in-Ok.parts c.head_from.result c.in-Ok.ensures.read c.head_from.ensures

pub returns-in-Ok-clause-accepted : goal.returns-in-Ok-clause-accepted
returns-in-Ok-clause-accepted c = accept_made c.args.bytes.now c.in-Ok.parts c.head_from.result c.in-Ok.ensures.accepted c.head_from.ensures

pub returns-in-Err-clause-accepted : goal.returns-in-Err-clause-accepted
returns-in-Err-clause-accepted c = λ head known spelled. c.to_fault.ensures ∙ accept_fault c.args.bytes.now c.in-Err.fault c.in-Err.ensures.accepted head known spelled
