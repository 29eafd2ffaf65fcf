use Rattle.value_faults.proofs.Conditions.{found_is, none_is}
use Rattle.value_faults.proofs.asked.query_fault.Goals as goal

pub returns-clause-found : goal.returns-clause-found
returns-clause-found c = found_is c.args.schema.now c.lemma_known.ensures c.args.query.now c.find.result c.find.ensures

pub returns-clause-none : goal.returns-clause-none
returns-clause-none c = none_is c.args.schema.now c.lemma_known.ensures c.args.query.now c.find.result c.find.ensures
