use Rattle.std.proofs.Common.{◌∙◌}
use Rattle.script_session.proofs.Elements.{piece_under}
use Rattle.script_session.proofs.pieces.piece.Goals as goal

pub returns : goal.returns
returns c =
    piece_under c.args.opened.now c.args.name c.args.element.now c.get.result.now c.element_of-number.result c.args.piece c.args.limit c.read_for-how.result _ _ c.keep_read.new.opened
    (c.get.ensures ∙ c.newest.ensures) c.element_of-number.ensures c.read_for-how.ensures
    (c.reply-answer.ensures.text ∙ c.in_ok-read_line.ensures) c.reply-answer.ensures.good c.in_ok-keep_read.ensures
