use Rattle.std.proofs.Common.{◌∙◌}
use Rattle.script_session.proofs.Publications.{published}
use Rattle.script_session.proofs.publish.publish.Goals as goal

pub returns : goal.returns
returns c =
    published c.args.opened.now c.args.moment c.args.moves c.get.result.now c.in_ok-step.step c.publish-published.result c.publish-published.new.self _ _
    (c.get.ensures ∙ c.newest.ensures) c.in_ok-step.ensures c.publish-published.ensures.step
    (c.reply.ensures.text ∙ c.in_ok-published_line.ensures) c.reply.ensures.good
