use Rattle.std.proofs.Common.{Ok, Err, ◌∙◌, ap, refl}
use mathlib.Core.List.{map as each}
use Rattle.change_plan.specs.declared.least_plan.PlanStep.{PlanStep}
use Rattle.script_replies.specs.Plans.{steps_text}
use Rattle.script_session.proofs.Plans.{planned}
use Rattle.script_session.proofs.plan.plan.Goals as goal

pub returns-in-Ok : goal.returns-in-Ok
returns-in-Ok c =
    planned c.args.opened.now c.args.changes c.get-schema.result.now c.as_slice.result.now (Ok c.in-Ok.found) _ _ _
    (c.get-schema.ensures ∙ c.newest.ensures) (c.as_slice.ensures.value ∙ c.in_ok-changes.ensures) (c.in-Ok.ensures.clear, c.in-Ok.ensures.planned_steps)
    (c.reply.ensures.text ∙ c.in_ok-text-in-Ok.ensures ∙ ap (steps_text c.get-schema.result.now) c.as_slice-in-Ok.ensures) c.reply.ensures.good
    (ap (λ plan. record c.args.opened.now { plan = plan }) (c.new.ensures ∙ c.in_ok-moves-in-Ok.ensures ∙ ap (λ steps. each (λ (step : PlanStep). step.step) steps) c.into_vec.ensures))

pub returns : goal.returns
returns c =
    planned c.args.opened.now c.args.changes c.get-schema.result.now c.as_slice.result.now (Err c.in-Err.fault) _ _ _
    (c.get-schema.ensures ∙ c.newest.ensures) (c.as_slice.ensures.value ∙ c.in_ok-changes.ensures) c.in-Err.ensures.refused
    (c.reply-in-Err.ensures.text ∙ c.in_ok-text-in-Err.ensures) c.reply-in-Err.ensures.good refl
