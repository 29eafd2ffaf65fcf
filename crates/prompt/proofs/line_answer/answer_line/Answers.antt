use Rattle.std.proofs.Common.{IfOk, subst, sym}
use Rattle.std.specs.Prelude.{codes}
use Rattle.prompt.specs.Conversation.{IsAnswered}
use Rattle.prompt.specs.Moment.{IsForeign}
use Rattle.prompt.proofs.AnswerKinds.{answered_bad}
use Rattle.prompt.proofs.line_answer.answer_line.Goals as goal

pub returns-in_default : goal.returns-in_default
returns-in_default g c = answered_bad _ _ _ (codes "the line is not UTF-8") _ _ c.in_default.ensures.cases.0 c.in_ok-answer.ensures.text c.in_ok-answer.ensures.bad

pub own_line-requires : goal.own_line-requires
own_line-requires g c = record { foreign = subst IsForeign c.as_bytes.ensures.value (c.in_ok-is_foreign.ensures.yes c.if-branch.true) }

pub returns-then-branch : goal.returns-then-branch
returns-then-branch g c = subst (λ l. IfOk c.own_line.result (λ answer. IsAnswered g.F.Files.keeps c.args.form c.args.state.now l answer.text.items answer.is_bad c.own_line.new.state)) c.in-Ok.ensures.cases.0 c.own_line.ensures

pub reply_line-requires : goal.reply_line-requires
reply_line-requires g c = record { calm = λ f. absurd (c.in_ok-is_foreign.ensures.no c.if-branch.false (subst IsForeign (sym c.as_bytes.ensures.value) f)) }

pub returns : goal.returns
returns g c = subst (λ l. IfOk c.reply_line.result (λ answer. IsAnswered g.F.Files.keeps c.args.form c.args.state.now l answer.text.items answer.is_bad c.reply_line.new.state)) c.in-Ok.ensures.cases.0 c.reply_line.ensures
