use Rattle.std.proofs.Common.{string_bytes, [], subst}
use Rattle.prompt.specs.Conversation.{IsTextOf}
use Rattle.prompt.proofs.AnswerKinds.{answered_saved}
use Rattle.prompt.proofs.line_answer.save_line.Goals as goal

pub returns : goal.returns
returns g c =
    let remark = string_bytes c.in_ok-remark.remark in
    let text = subst (λ r. IsTextOf c.args.form [] r c.in_ok-answer.answer.text.items) c.as_str.ensures.value c.in_ok-answer.ensures.text in
    answered_saved _ _ _ remark _ _ c.requires.foreign c.requires.asked c.in_ok-remark.ensures text c.in_ok-answer.ensures.bad
