use Rattle.std.proofs.Common.{◌≡◌, ◌∙◌, sym, subst, List, ℕ, Some, true, false}
use Rattle.byte_map.proofs.Order.{told_same}
use Rattle.row_keys.specs.inner.After.{IsAfter}
use Rattle.row_keys.proofs.Codes.{same_start, other_start}
use Rattle.row_keys.proofs.after.Goals as goal

pub returns-then-is_same : goal.returns-then-is_same
returns-then-is_same c =
    let same = (told_same _ _ c.is_same.result c.is_same.ensures).0 c.if-is_same.true in
    subst (λ (l : List ℕ). IsAfter c.args.first.now c.args.bytes.now (Some l)) (sym c.split_at.ensures.back) (same_start c.args.first.now c.args.bytes.now (sym c.split_at.ensures.front ∙ same))

pub returns-else-is_same : goal.returns-else-is_same
returns-else-is_same c = other_start c.args.first.now c.args.bytes.now (λ same. absurd (let yes = (told_same _ _ c.is_same.result c.is_same.ensures).1 (c.split_at.ensures.front ∙ same) in let wrong : true ≡ false = sym yes ∙ c.if-is_same.false in cc))
