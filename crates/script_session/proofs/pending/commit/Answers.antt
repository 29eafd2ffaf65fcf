use Rattle.std.proofs.Common.{◌≡◌, Ok, Err, IfOk, false, refl}
use Rattle.std.specs.Prelude.{codes, string_bytes}
use Rattle.script_grammar.specs.declared.command.Command.TheVariants as command
use Rattle.script_session.specs.declared.session.Session.TheVariants.{Running}
use Rattle.script_session.specs.Answer.{Answers}
use Rattle.script_replies.specs.Texts.{line, refused}
use Rattle.script_session.proofs.Spent.{nothing_prepared, commits}
use Rattle.script_session.proofs.pending.commit.Goals as goal

pub returns-in-None : goal.returns-in-None
returns-in-None c =
    elim c.refusal.result as (λ r. IfOk r (λ a. string_bytes a.text ≡ line (refused (codes "NoWork"))) → IfOk r (λ a. a.is_bad ≡ false)
    → IfOk r (λ a. Answers c.args.opened.now (command.Commit c.args.name c.args.moment) (string_bytes a.text) a.is_bad (Running (record c.args.opened.now { pending = c.take.new.self })))) [
      | Ok a ↦ λ reported good. nothing_prepared c.args.opened.now c.take.new.self c.args.name c.as_bytes.result.now c.args.moment _ _ _ c.as_bytes.ensures.value c.in-None.ensures.value c.take.ensures.rest refl reported good
      | Err e ↦ λ reported good. tt
    ] c.refusal.ensures.text c.refusal.ensures.good

pub returns-in_ok-put_back-in-Some : goal.returns-in_ok-put_back-in-Some
returns-in_ok-put_back-in-Some c =
    commits c.args.opened.now c.put_back.new.opened c.take.new.self c.args.name c.as_bytes.result.now c.args.moment c.in-Some.pending _ _ c.in_ok-text-in-Some.left c.commit_pending.new.world _
    c.as_bytes.ensures.value c.in-Some.ensures.value c.take.ensures.rest c.in_ok-text-in-Some.ensures c.reply.ensures.text c.reply.ensures.good c.in_ok-put_back-in-Some.ensures
