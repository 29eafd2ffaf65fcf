use Rattle.row_write.proofs.Prepares.{faulty, faultless, too_many}
use Rattle.row_write.proofs.prepare_txn.check_ops.Goals as goal

pub returns-in-Some-clause-refused : goal.returns-in-Some-clause-refused
returns-in-Some-clause-refused c = faulty c.args.schema.now c.lemma_served.ensures c.args.ops.now c.first_fault.result c.in-Some.fault c.first_fault.ensures.known c.first_fault.ensures.test c.in-Some.is

pub returns-then-ops-gt-MAX_OPS-clause-refused : goal.returns-then-ops-gt-MAX_OPS-clause-refused
returns-then-ops-gt-MAX_OPS-clause-refused c = λ view.
    too_many c.args.schema.now c.lemma_served.ensures c.args.ops.now (faultless c.args.schema.now c.lemma_served.ensures c.args.ops.now c.first_fault.result c.first_fault.ensures.known c.first_fault.ensures.test c.in_default.is) view c.if-ops-gt-MAX_OPS.true

pub returns-clause-sound : goal.returns-clause-sound
returns-clause-sound c = (faultless c.args.schema.now c.lemma_served.ensures c.args.ops.now c.first_fault.result c.first_fault.ensures.known c.first_fault.ensures.test c.in_default.is, c.if-ops-gt-MAX_OPS.false)
