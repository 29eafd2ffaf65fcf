use Rattle.std.proofs.Common.{subst}
use Rattle.typed_calls.specs.Session.{Session}
use Rattle.handles.specs.Sessions.{Answers}
use Rattle.handles.proofs.lines.reply_running.Goals as goal

pub returns : goal.returns
returns c =
    subst
    (λ (s : Session). Answers c.args.bounded.furthest s c.args.line.now c.args.out.now c.answer_line.result.0 c.answer_line.new.out c.answer_line.result.1 c.answer_line.new.handle.place.value)
    c.session_with-session.ensures c.answer_line.ensures
