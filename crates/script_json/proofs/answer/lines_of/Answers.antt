use Rattle.std.proofs.Common.{Some, None, lit<, sym, subst}
use mathlib.Core.List.{map}
use Rattle.std.specs.Str.{IsCharBoundary}
use Rattle.std.proofs.lemmas.Str.{IsUtf8-drop}
use Rattle.std.proofs.lemmas.Str.Pattern.{split_parts}
use Rattle.serde_json.specs.Data.{string}
use Rattle.serde_json.specs.View.{view}
use Rattle.script_json.specs.Answer.{lines_of}
use Rattle.script_json.proofs.Lines.{goes_on, ends}
use Rattle.script_json.proofs.answer.lines_of.Goals as goal

pub loop-line-preserved : goal.loop-line-preserved
loop-line-preserved c =
    let k = c.in-Some.ensures.cases in
    record {
      is_text = rw k.4 (IsUtf8-drop c.loop-line.rest.now k.1 c.loop-line.invariant.is_text (subst (IsCharBoundary c.loop-line.rest.now) (sym k.2.1.ends) k.2.1.after));
      so_far = goes_on (map view c.loop-line.lines.items) c.loop-line.rest.now c.in-Some.line.now c.in-Some.after.now (map string (lines_of c.args.text.now)) (map view c.push_line.new.lines.items)
          (split_parts 10 c.loop-line.rest.now (Some (c.in-Some.line, c.in-Some.after)) c.in-Some.ensures.cases (lit< tt)) c.in_ok-push_line.ensures c.loop-line.invariant.so_far;
    }

pub returns : goal.returns
returns c =
    ends (map view c.loop-line.lines.items) c.loop-line.rest.now (map string (lines_of c.args.text.now)) (map view c.push_last.new.lines.items)
    (split_parts 10 c.loop-line.rest.now None c.in_default.ensures.cases (lit< tt)) c.in_ok-push_last.ensures c.loop-line.invariant.so_far
