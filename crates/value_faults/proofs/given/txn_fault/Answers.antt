use Rattle.value_faults.proofs.Operations.{found_is, none_is}
use Rattle.value_faults.proofs.given.txn_fault.Goals as goal

pub returns-clause-found : goal.returns-clause-found
returns-clause-found c = found_is c.args.schema.now c.lemma_known.ensures c.args.ops.now c.first_wrong.ensures.known c.first_wrong.result c.first_wrong.ensures.test

pub returns-clause-none : goal.returns-clause-none
returns-clause-none c = none_is c.args.schema.now c.lemma_known.ensures c.args.ops.now c.first_wrong.ensures.known c.first_wrong.result c.first_wrong.ensures.test
