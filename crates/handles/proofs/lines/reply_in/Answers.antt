use Rattle.handles.proofs.LineSteps.{after}
use Rattle.handles.proofs.lines.reply_in.Goals as goal

pub returns : goal.returns
returns c =
    after c.args.names c.args.reply c.args.bounded c.in-Ok-is_line_too_far.far c.args.line.now c.in-Ok.text.now c.args.out.now c.reply_running.new.out c.reply_running.result.0
    c.reply_running.result.1 c.reply_running.new.handle.place.value c.in-Ok-is_line_too_far.ensures c.if-far.false c.in-Ok.ensures.cases c.reply_running.ensures
