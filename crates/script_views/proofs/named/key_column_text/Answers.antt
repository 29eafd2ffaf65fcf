use Rattle.std.proofs.Common.{◌++◌, ◌∙◌, ℕ, List, ap, codes, inr}
use Rattle.script_views.proofs.named.key_column_text.Goals as goal

pub returns : goal.returns
returns c =
    let begun = c.in_ok-push_str.ensures.bytes ∙ ap (λ (t : List ℕ). t ++ codes " is a key column of ") c.in_ok-out.ensures.ok in
    let named = c.in_ok-push_str-2.ensures.bytes ∙ ap (λ (t : List ℕ). t ++ c.args.table.now) begun in
    let rest = codes ": rows show it, and key = (..) or the tuple after the table gives it" in
    inr (rest, c.in_ok-push_str-3.ensures.bytes ∙ ap (λ (t : List ℕ). t ++ rest) named)
