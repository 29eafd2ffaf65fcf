use Rattle.std.proofs.Common.{◌≡◌, ◌∙◌, ◌-◌, T, List, ℕ, drop, take, ap, sym, subst, arith}
use Rattle.std.specs.FinMap.Entries.{below_all}
use Rattle.std.proofs.lemmas.List.{drop-take}
use Rattle.byte_map.specs.Order.{bytes_cmp}
use Rattle.byte_map.specs.Sorted.{IsSorted, all_below}
use Rattle.page_map.specs.Pages.{joined}
use Rattle.page_map.proofs.Changes.{sorted_from, below_next}
use Rattle.page_map.proofs.rewrite.place_of.Goals as goal

pub count_up_to-count-requires-clause-sorted : goal.count_up_to-count-requires-clause-sorted
count_up_to-count-requires-clause-sorted c = subst (λ (l : List (List (List ℕ × List ℕ))). IsSorted (joined l)) (sym c.split_at.ensures.back) (sorted_from c.args.pages.now c.args.from c.requires.sorted)

pub returns-then-count-eq0-clause-after : goal.returns-then-count-eq0-clause-after
returns-then-count-eq0-clause-after c =
    let none : c.count_up_to-count.result ≡ 0 = omega (arith, c.if-count-eq0.true) in
    let rest = subst (λ (n : ℕ). T (below_all bytes_cmp c.args.key.now (joined (drop n c.split_at.result.1.now)))) none c.count_up_to-count.ensures.after in
    below_next c.args.pages.now c.args.from c.args.key.now (subst (λ (l : List (List (List ℕ × List ℕ))). T (below_all bytes_cmp c.args.key.now (joined l))) c.split_at.ensures.back rest)

pub returns-else-count-eq0-clause-before : goal.returns-else-count-eq0-clause-before
returns-else-count-eq0-clause-before c =
    subst (λ (l : List (List (List ℕ × List ℕ))). T (all_below (joined l) c.args.key.now))
    (ap (take (c.count_up_to-count.result - 1)) c.split_at.ensures.back ∙ sym (drop-take c.args.from (c.count_up_to-count.result - 1) c.args.pages.now))
    c.count_up_to-count.ensures.before
