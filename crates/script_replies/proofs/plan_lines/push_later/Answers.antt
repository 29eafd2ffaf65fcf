use Rattle.std.proofs.Common.{◌≡◌, ◌∙◌, ◌+◌, List, ◌∷◌, drop, ap, sym, subst}
use Rattle.std.proofs.lemmas.List.{drop_more}
use Rattle.change_plan.specs.declared.least_plan.PlanStep.{PlanStep}
use Rattle.change_plan.specs.Plans.{AreAllowed}
use Rattle.script_replies.proofs.plan_lines.push_later.Goals as goal

pub after-requires : goal.after-requires
after-requires c =
    let steps : List PlanStep = c.args.steps.now in
    let behind : List PlanStep = drop (c.loop-step.step-index + 1) steps in
    let ahead : drop c.loop-step.step-index steps ≡ c.step-item.result ∷ behind
    = drop_more steps c.loop-step.step-index c.step-item.result c.loop-step-test.true ∙ ap (λ (s : PlanStep). s ∷ behind) (sym c.step-item.is) in
    (subst (λ (l : List PlanStep). AreAllowed c.loop-step.version l) ahead c.loop-step.invariant.allowed).0
