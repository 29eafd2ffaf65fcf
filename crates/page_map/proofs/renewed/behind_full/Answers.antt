use Rattle.std.proofs.Common.{◌≡◌, ◌∙◌, ◌<◌, ◌++◌, length, take, drop, sym, subst, ap, refl, arith}
use Rattle.byte_map.specs.Sorted.{IsSorted, IsFirstFrom, changed_all}
use Rattle.page_map.specs.Pages.{joined, Stands}
use Rattle.page_map.proofs.Cuts.{sorted_one}
use Rattle.page_map.proofs.InPlace.{one_page}
use Rattle.page_map.proofs.Placing.{first_left}
use Rattle.page_map.proofs.Appends.{behind}
use Rattle.page_map.proofs.renewed.behind_full.Goals as goal

pub first_from-requires-clause-sorted : goal.first_from-requires-clause-sorted
first_from-requires-clause-sorted c = subst IsSorted (sym (c.pairs-pairs.ensures.all ∙ c.index-pages-at.is)) (sorted_one c.args.pages.now c.args.at c.index-pages-at.result c.requires.sorted (omega (arith, c.if-at-pages.false)))

pub returns-clause-behind : goal.returns-clause-behind
returns-clause-behind c =
    let ps = c.args.pages.now in
    let ws = c.args.writes.now in
    let page = c.index-pages-at.result in
    let lt : c.args.at < length ps = omega (arith, c.if-at-pages.false) in
    let one : joined (take 1 (drop c.args.at ps)) ≡ page = one_page ps c.args.at page lt c.index-pages-at.is in
    let held : c.pairs-pairs.result.now.pairs ≡ page = c.pairs-pairs.ensures.all in
    let w = c.index-writes-0.result in
    let here : Stands ws 0 w = first_left ws ws 0 w (omega (arith, c.in-len1-up.len_at_least)) c.index-writes-0.is refl in
    let from : IsFirstFrom page c.as_slice-key.result.now c.first_from.result = subst (λ l. IsFirstFrom l c.as_slice-key.result.now c.first_from.result) held c.first_from.ensures in
    subst (λ l. changed_all l ws ≡ l ++ c.in_ok-write_all.field-0.pairs) (sym one)
    (behind page ws w c.as_slice-key.result.now c.first_from.result c.in_ok-more.more.pairs c.in_ok-write_all.field-0.pairs c.requires.writes here (c.as_slice-key.ensures ∙ ap (λ v. v.0) (sym c.index-writes-0.is)) from
    (omega (arith, c.if-first_from-len.false, c.len-else-saturating_add-le-PAGE_LIMIT.ensures, ap length held)) c.in_ok-more.ensures c.in_ok-write_all.ensures)
