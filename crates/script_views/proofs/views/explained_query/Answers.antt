use Rattle.std.proofs.Common.{codes}
use Rattle.std.proofs.lemmas.Str.Pattern.{starts_text}
use Rattle.script_views.proofs.Explained.{begins}
use Rattle.script_views.proofs.views.explained_query.Goals as goal

pub returns-then-not-starts_with-clause-query : goal.returns-then-not-starts_with-clause-query
returns-then-not-starts_with-clause-query c =
    λ rest same. absurd (begins c.starts_with.result c.args.line.now rest (starts_text c.starts_with.result (codes "explain query") c.args.line.now c.starts_with.ensures.cases) same c.if-not-starts_with.true)
