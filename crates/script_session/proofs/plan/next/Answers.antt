use Rattle.std.proofs.Common.{◌∙◌, ap}
use Rattle.script_session.specs.Plan.{left_of}
use Rattle.script_session.proofs.Plans.{next_step}
use Rattle.script_session.proofs.plan.next.Goals as goal

pub returns : goal.returns
returns c =
    next_step c.args.opened.now c.as_slice.result.now c.step-item.result c.args.moment c.publish-published.result c.publish-published.new.self _ _ _
    c.as_slice.ensures c.in-len1-up.len_at_least c.step-item.is c.publish-published.ensures.step (c.reply-answer.ensures.text ∙ c.in_ok-published_line.ensures) c.reply-answer.ensures.good
    (ap (λ plan. record c.args.opened.now { world = c.publish-published.new.self; plan = plan }) (c.left_of.ensures ∙ ap (λ plan. left_of plan c.publish-published.result) c.replace-plan.ensures.value))
