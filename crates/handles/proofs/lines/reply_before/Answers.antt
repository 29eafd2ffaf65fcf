use Rattle.handles.proofs.LineSteps.{before}
use Rattle.handles.proofs.lines.reply_before.Goals as goal

pub returns : goal.returns
returns c =
    before c.args.declared c.args.reply c.args.handle.now.place.value c.is_open.result c.args.line.now c.in-Ok.text.now c.args.out.now c.reply_declaring.new.out
    c.reply_declaring.result.0 c.reply_declaring.result.1 c.reply_declaring.new.handle.place.value c.is_open.ensures c.if-is_open.false c.in-Ok.ensures.cases
    c.reply_declaring.ensures
