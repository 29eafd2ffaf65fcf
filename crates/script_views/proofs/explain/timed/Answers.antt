use Rattle.std.proofs.Common.{Some, None, lit<, string_bytes}
use Rattle.std.proofs.lemmas.Str.Pattern.{split_parts}
use Rattle.script_views.proofs.Explained.{timed_split, timed_whole}
use Rattle.script_views.proofs.explain.timed.Goals as goal

pub returns-in-Some : goal.returns-in-Some
returns-in-Some c =
    timed_split string_bytes c.format.result c.args.line.now c.in-Some.front.now c.in-Some.back.now (split_parts 58 c.args.line.now (Some (c.in-Some.front, c.in-Some.back)) c.in-Some.ensures.cases (lit< tt)) c.format.ensures.ok

pub returns-in-None : goal.returns-in-None
returns-in-None c = timed_whole string_bytes c.to_string.result c.args.line.now (split_parts 58 c.args.line.now None c.in-None.ensures.cases (lit< tt)) c.to_string.ensures.ok
