use Rattle.std.proofs.Common.{lit<}
use Rattle.std.proofs.lemmas.Str.Pattern.{NoCharPasses-char, contains_char}
use Rattle.script_views.proofs.Explained.{bare_by}
use Rattle.script_views.proofs.views.is_bare.Goals as goal

pub returns-then-not-contains : goal.returns-then-not-contains
returns-then-not-contains c =
    bare_by c.args.name.now c.contains-then-not-contains.result (λ i. NoCharPasses-char 32 c.args.name.now i c.if-not-contains.ensures.cases (lit< tt)) (contains_char 9 c.args.name.now c.contains-then-not-contains.result c.contains-then-not-contains.ensures.cases (lit< tt))
