use Rattle.row_query.proofs.Decides.{check_refuses, check_passes}
use Rattle.row_query.proofs.check.check_query.Goals as goal

pub returns-clause-refused : goal.returns-clause-refused
returns-clause-refused c = check_refuses c.args.schema.now c.lemma_known.ensures c.args.query.now c.check.result c.check.ensures.exact

pub returns-clause-sound : goal.returns-clause-sound
returns-clause-sound c = check_passes c.args.schema.now c.lemma_known.ensures c.args.query.now c.check.result c.check.ensures.exact
