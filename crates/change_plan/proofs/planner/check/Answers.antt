use Rattle.change_plan.proofs.BatchChecks.{plannable_by, refused_by, room_by}
use Rattle.change_plan.proofs.planner.check.Goals as goal

pub returns-clause-clear : goal.returns-clause-clear
returns-clause-clear c = plannable_by c.args.schema.now c.args.changes.now c.check_batch.result c.check_batch.ensures

pub returns-clause-refused : goal.returns-clause-refused
returns-clause-refused c = refused_by c.args.schema.now c.args.changes.now c.check_batch.result c.check_batch.ensures

pub returns-clause-room : goal.returns-clause-room
returns-clause-room c = room_by c.args.schema.now c.args.changes.now c.lemma_known.ensures.few_elements c.check_batch.result c.check_batch.ensures
