use Rattle.std.proofs.Common.{[], string_bytes, subst}
use Rattle.prompt.specs.Conversation.{IsTextOf}
use Rattle.prompt.proofs.AnswerKinds.{answered_view, of_found}
use Rattle.prompt.proofs.line_answer.view_line.Goals as goal

pub returns-in-Some : goal.returns-in-Some
returns-in-Some g c =
    let remark = string_bytes c.in-Some.view in
    let text = subst (λ r. IsTextOf c.args.form [] r c.in_ok-answer.answer.text.items) c.as_str.ensures.value c.in_ok-answer.ensures.text in
    answered_view _ _ _ remark _ _ c.requires.foreign c.requires.calm c.requires.no_undo c.requires.no_cut c.requires.no_save (of_found c.in_ok-view.field-0 c.in-Some.view c.in-Some.is c.in_ok-view.ensures) text c.in_ok-answer.ensures.bad

pub reply_line-requires : goal.reply_line-requires
reply_line-requires g c = record { calm = λ _. (c.requires.calm, c.requires.no_undo, c.requires.no_cut, c.requires.no_save) }
