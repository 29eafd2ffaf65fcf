use Rattle.std.proofs.Common.{◌∙◌}
use Rattle.script_session.proofs.Elements.{begun_under}
use Rattle.script_session.proofs.begin_reorg.reorganise.Goals as goal

pub returns : goal.returns
returns c =
    begun_under c.args.opened.now c.args.element.now c.get.result.now c.get-2.result.now c.element_of-number.result c.args.moment c.args.pieces c.begin_reorg-begun.result c.begin_reorg-begun.new.self _ c.work_word-word.result.now _
    (c.get.ensures ∙ c.newest.ensures) c.element_of-number.ensures (c.get-2.ensures ∙ c.newest-2.ensures) c.work_word-word.ensures c.begin_reorg-begun.ensures.step
    (c.reply.ensures.text ∙ c.in_ok-begun_line.ensures) c.reply.ensures.good
