use Rattle.std.proofs.Common.{◌∙◌}
use Rattle.script_session.proofs.Elements.{worked_under}
use Rattle.script_session.proofs.begin_reorg.work.Goals as goal

pub returns : goal.returns
returns c =
    worked_under c.args.opened.now c.args.element.now c.get.result.now c.element_of-number.result c.args.moment c.args.limit c.work_off-worked.result c.work_off-worked.new.world _ _
    (c.get.ensures ∙ c.newest.ensures) c.element_of-number.ensures c.work_off-worked.ensures.step
    (c.reply.ensures.text ∙ c.in_ok-worked_line.ensures) c.reply.ensures.good
