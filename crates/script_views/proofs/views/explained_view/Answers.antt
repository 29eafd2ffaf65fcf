use Rattle.std.proofs.Common.{◌++◌, codes, string_bytes, List, ℕ}
use Rattle.script_views.specs.Explain.{Explains, explained, query_of}
use Rattle.script_views.proofs.Explained.{shown_of, not_begun}
use Rattle.script_views.proofs.views.explained_view.Goals as goal

pub returns-in_ok-explanation-in-Some-clause-path : goal.returns-in_ok-explanation-in-Some-clause-path
returns-in_ok-explanation-in-Some-clause-path c =
    λ rest same. shown_of (λ (q : List ℕ). Explains c.args.opened.now (query_of (explained q)) (string_bytes c.in_ok-explanation-in-Some.field-0)) c.in-Some.query.now (codes "query" ++ rest) (c.in_ok-explanation-in-Some.ensures) (c.in-Some.ensures.query rest same)

pub returns-in-None-clause-path : goal.returns-in-None-clause-path
returns-in-None-clause-path c = not_begun c.args.opened.now c.args.line.now (λ rest same. c.in-None.ensures.query rest same)
