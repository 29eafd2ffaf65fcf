use Rattle.std.proofs.Common.{string_bytes, subst}
use Rattle.script_json.specs.Replies.{Reply}
use Rattle.script_json.specs.Session.{empty}
use Rattle.prompt.proofs.Replays.{replied_at}
use Rattle.prompt.proofs.undo.replayed.Goals as goal

pub loop-line-preserved : goal.loop-line-preserved
loop-line-preserved c =
    let answer = c.in_ok-reply_to.field-0 in
    let replied = subst (λ l. Reply c.loop-line.session l (string_bytes answer.text) answer.is_bad c.reply_to.new.self) c.as_str.ensures.value c.in_ok-reply_to.ensures in
    replied_at empty c.args.lines.now c.loop-line.line-index c.loop-line.session c.reply_to.new.self c.line-item.result (string_bytes answer.text) answer.is_bad c.loop-line-test.true c.line-item.is c.loop-line.invariant replied
