use Rattle.std.proofs.Common.{ap, ◌∙◌}
use Rattle.handles.specs.Calls.{laid}
use Rattle.handles.proofs.LineSteps.{has_reply}
use Rattle.handles.proofs.lines.answer_line.Goals as goal

pub returns : goal.returns
returns c =
    has_reply c.args.furthest c.args.session c.reply_to.new.self c.args.line.now c.args.out.now c.lay.new.out c.as_str-text.result.now c.in-Ok.answer.text c.in-Ok.answer.is_bad
    c.answered-outcome.result c.keep_parts-script.result c.keep_parts-script.new.handle.place.value c.in-Ok.ensures c.as_str-text.ensures.value c.answered-outcome.ensures (c.lay.ensures ∙ ap (laid c.args.out.now) c.as_bytes.ensures.value) c.keep_parts-script.ensures.script
    c.keep_parts-script.ensures.world
