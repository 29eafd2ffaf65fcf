use Rattle.std.proofs.Common.{Some, string_bytes, refl, subst, sym}
use Rattle.script_json.specs.SessionVariants.TheVariants.{Running}
use Rattle.prompt.specs.Conversation.{CarriedBy, IsTextOf}
use Rattle.prompt.proofs.AnswerKinds.{answered_carried}
use Rattle.prompt.proofs.line_answer.carry_after.Goals as goal

pub returns : goal.returns
returns g c =
    let reply = string_bytes c.in_ok-text.text in
    let remark = string_bytes c.in_ok-remark.remark in
    let text = subst (λ r. IsTextOf c.args.form r remark c.in_ok-answer.answer.text.items) c.as_str-2.ensures.value (subst (λ r. IsTextOf c.args.form c.as_str-2.result.now r c.in_ok-answer.answer.text.items) c.as_str-3.ensures.value c.in_ok-answer.ensures.text) in
    answered_carried _ _ _ _ reply remark _ c.args.carry _ c.requires.foreign c.requires.asked
    (subst (λ s. CarriedBy s (Some c.args.carry) reply (Running c.carry_on.new.opened)) (sym c.in-Running.is) c.in_ok-text.ensures) refl text c.in_ok-answer.ensures.bad
