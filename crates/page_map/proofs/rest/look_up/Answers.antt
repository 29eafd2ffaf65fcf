use Rattle.std.proofs.Common.{◌∙◌, ◌-◌, Bool, cond, Some, None, List, ℕ, ap, sym, subst, arith, length}
use Rattle.byte_map.specs.Sorted.{IsSorted, IsFirstFrom}
use Rattle.page_map.specs.Pages.{Stands}
use Rattle.page_map.proofs.Cuts.{sorted_one}
use Rattle.page_map.proofs.Found.{none_found, found_in, none_in, found_at}
use Rattle.page_map.proofs.rest.look_up.Goals as goal

pub returns-then-count-eq0 : goal.returns-then-count-eq0
returns-then-count-eq0 c = sym (none_found c.args.pages.now c.args.key.now c.count_up_to-count.result (omega arith) c.count_up_to-count.ensures)

pub first_from-at-requires-clause-sorted : goal.first_from-at-requires-clause-sorted
first_from-at-requires-clause-sorted c =
    subst IsSorted (sym (c.pairs-pairs.ensures.all ∙ c.index-pages-count.is))
    (sorted_one c.args.pages.now (c.count_up_to-count.result - 1) c.index-pages-count.result c.requires.sorted (omega (arith, c.count_up_to-count.ensures.in_range)))

pub returns-then-at-len : goal.returns-then-at-len
returns-then-at-len c =
    let page = c.index-pages-count.result in
    let key = c.args.key.now in
    let first : IsFirstFrom page key c.first_from-at.result = subst (λ (p : List (List ℕ × List ℕ)). IsFirstFrom p key c.first_from-at.result) c.pairs-pairs.ensures.all c.first_from-at.ensures in
    sym (found_in c.args.pages.now key c.count_up_to-count.result page (omega arith) c.count_up_to-count.ensures c.index-pages-count.is
    ∙ none_in page key c.first_from-at.result first (omega (arith, c.if-at-len.true, c.len.ensures, ap length c.pairs-pairs.ensures.all)))

pub returns-then-is_same : goal.returns-then-is_same
returns-then-is_same c =
    let page = c.index-pages-count.result in
    let key = c.args.key.now in
    let at = c.first_from-at.result in
    let e : List ℕ × List ℕ = (c.pair.result.0.now, c.pair.result.1.now) in
    let first : IsFirstFrom page key at = subst (λ (p : List (List ℕ × List ℕ)). IsFirstFrom p key at) c.pairs-pairs.ensures.all c.first_from-at.ensures in
    let sorted : IsSorted page = subst IsSorted (sym c.index-pages-count.is) (sorted_one c.args.pages.now (c.count_up_to-count.result - 1) page c.requires.sorted (omega (arith, c.count_up_to-count.ensures.in_range))) in
    let here : Stands page at e = subst (λ (p : List (List ℕ × List ℕ)). Stands p at e) c.pairs-pairs.ensures.all c.pair.ensures in
    sym (found_in c.args.pages.now key c.count_up_to-count.result page (omega arith) c.count_up_to-count.ensures c.index-pages-count.is
    ∙ found_at page key at e sorted first here
    ∙ ap (λ (b : Bool). cond b (Some e.1) None) (sym c.is_same.ensures ∙ c.if-is_same.true))

pub returns-else-is_same : goal.returns-else-is_same
returns-else-is_same c =
    let page = c.index-pages-count.result in
    let key = c.args.key.now in
    let at = c.first_from-at.result in
    let e : List ℕ × List ℕ = (c.pair.result.0.now, c.pair.result.1.now) in
    let first : IsFirstFrom page key at = subst (λ (p : List (List ℕ × List ℕ)). IsFirstFrom p key at) c.pairs-pairs.ensures.all c.first_from-at.ensures in
    let sorted : IsSorted page = subst IsSorted (sym c.index-pages-count.is) (sorted_one c.args.pages.now (c.count_up_to-count.result - 1) page c.requires.sorted (omega (arith, c.count_up_to-count.ensures.in_range))) in
    let here : Stands page at e = subst (λ (p : List (List ℕ × List ℕ)). Stands p at e) c.pairs-pairs.ensures.all c.pair.ensures in
    sym (found_in c.args.pages.now key c.count_up_to-count.result page (omega arith) c.count_up_to-count.ensures c.index-pages-count.is
    ∙ found_at page key at e sorted first here
    ∙ ap (λ (b : Bool). cond b (Some e.1) None) (sym c.is_same.ensures ∙ c.if-is_same.false))
