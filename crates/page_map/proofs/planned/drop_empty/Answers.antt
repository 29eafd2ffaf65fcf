use Rattle.std.proofs.Common.{◌≡◌, ◌∙◌, ◌<◌, [], List, ℕ, length, get_or, take, refl, subst, sym, ap, arith}
use Rattle.page_map.specs.Pages.{joined, AllFull}
use Rattle.page_map.proofs.Full.{joined_remove, taken_remove, full_more}
use Rattle.page_map.proofs.planned.drop_empty.Goals as goal

pub loop-at-preserved-then-is_empty : goal.loop-at-preserved-then-is_empty
loop-at-preserved-then-is_empty c =
    let ps = c.loop-at.chunks.items in
    let at = c.loop-at.at in
    let d = c.index.result.now in
    let none : get_or ps at d ≡ [] = sym c.index.ensures ∙ c.if-is_empty.ensures.none refl in
    record {
      in_range = omega (arith, c.remove.ensures.len);
      kept = ap joined c.remove.ensures.items ∙ joined_remove ps at d (omega arith) none ∙ c.loop-at.invariant.kept;
      full = subst AllFull (ap (take at) (sym c.remove.ensures.items)) (subst AllFull (sym (taken_remove ps at (omega arith))) c.loop-at.invariant.full);
    }

pub loop-at-preserved : goal.loop-at-preserved
loop-at-preserved c =
    let ps = c.loop-at.chunks.items in
    let at = c.loop-at.at in
    let d = c.index.result.now in
    record {
      in_range = omega (arith, c.loop-at-test.true);
      kept = c.loop-at.invariant.kept;
      full = full_more ps at d (omega arith) c.loop-at.invariant.full (subst (λ (p : List (List ℕ × List ℕ)). 0 < length p) c.index.ensures (c.if-is_empty.ensures.some refl));
    }
