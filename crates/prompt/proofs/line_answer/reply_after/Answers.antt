use Rattle.std.proofs.Common.{string_bytes, subst}
use Rattle.script_json.specs.Replies.{Reply}
use Rattle.prompt.specs.Conversation.{IsTextOf}
use Rattle.prompt.proofs.AnswerKinds.{answered_by}
use Rattle.prompt.proofs.line_answer.reply_after.Goals as goal

pub returns : goal.returns
returns g c =
    let given = string_bytes c.in_ok-given.given in
    let reply = string_bytes c.in_ok-answer.answer.text in
    let remark = string_bytes c.in_ok-hint.hint in
    let text = subst (λ r. IsTextOf c.args.form r remark c.in_ok-answer-2.answer.text.items) c.as_str-reply.ensures.value (subst (λ r. IsTextOf c.args.form c.as_str-reply.result.now r c.in_ok-answer-2.answer.text.items) c.as_str-5.ensures.value c.in_ok-answer-2.ensures.text) in
    answered_by _ _ _ c.reply_to.new.self _ given reply remark _ c.in_ok-answer.answer.is_bad _ c.requires.calm c.in_ok-given.ensures
    (subst (λ x. Reply c.args.state.now.session x reply c.in_ok-answer.answer.is_bad c.reply_to.new.self) c.as_str-2.ensures.value c.in_ok-answer.ensures) c.in_ok-keep_declared.ensures.session
    c.in_ok-keep_declared.ensures.declared text c.in_ok-answer-2.ensures.bad
