use Rattle.std.proofs.Common.{◌++◌, Some, None, lit<, sym, subst}
use Rattle.std.specs.Str.{IsCharBoundary}
use Rattle.std.proofs.lemmas.Str.{encode_ascii, IsUtf8-drop}
use Rattle.std.proofs.lemmas.Str.Pattern.{split_once_first}
use Rattle.std.specs.String.{string_bytes}
use Rattle.script_grammar.specs.Print.{quoted}
use Rattle.script_grammar.proofs.Doubling.{quotes_on, quotes_end}
use Rattle.script_grammar.proofs.print.push_quoted.Goals as goal

pub loop-before-preserved : goal.loop-before-preserved
loop-before-preserved c =
    let h = split_once_first 39 c.loop-before.rest.now (Some (c.in-Some.before, c.in-Some.after)) c.in-Some.ensures.cases (lit< tt) in
    let k = c.in-Some.ensures.cases in
    record {
      is_text = rw k.4 (IsUtf8-drop c.loop-before.rest.now k.1 c.loop-before.invariant.is_text (subst (IsCharBoundary c.loop-before.rest.now) (sym k.2.1.ends) k.2.1.after));
      so_far = rw (c.in_ok-push_str-2.ensures.bytes, c.in_ok-push_str.ensures.bytes) (quotes_on (string_bytes c.loop-before.out) c.in-Some.before.now c.in-Some.after.now c.loop-before.rest.now (string_bytes c.args.out.now ++ quoted c.args.text.now) h.0 h.1 h.2 c.loop-before.invariant.so_far);
    }

pub returns : goal.returns
returns c =
    let h = split_once_first 39 c.loop-before.rest.now None c.in_default.ensures.cases (lit< tt) in
    rw (c.in_ok-push-2.ensures.bytes, c.in_ok-push_str-3.ensures.bytes, encode_ascii 39 (lit< tt)) (quotes_end (string_bytes c.loop-before.out) c.loop-before.rest.now (string_bytes c.args.out.now ++ quoted c.args.text.now) h c.loop-before.invariant.so_far)
