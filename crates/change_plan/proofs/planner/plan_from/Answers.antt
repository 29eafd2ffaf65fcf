use Rattle.std.proofs.Common.{◌∙◌, sym, subst}
use Rattle.change_plan.specs.Plans.{IsLeast}
use Rattle.change_plan.proofs.Room.{planned_least}
use Rattle.change_plan.proofs.planner.plan_from.Goals as goal

pub returns-clause-least : goal.returns-clause-least
returns-clause-least c =
    subst (IsLeast c.args.schema.now c.args.changes.now) (sym (c.new.ensures ∙ c.in_ok-steps.ensures))
    (planned_least c.args.schema.now c.lemma_known.ensures c.args.changes.now c.in_ok-check.ensures.clear)
