use Rattle.std.proofs.Common.{◌≡◌, ◌∙◌, ◌+◌, ◌-◌, ◌<◌, ◌++◌, T, List, ℕ, Option, length, get_or, take, drop, set, ap, sym, subst, refl, arith}
use Rattle.std.specs.Vec.{with_items}
use Rattle.std.specs.FinMap.Entries.{below_all}
use Rattle.std.proofs.lemmas.List.{get_or-take, length-drop, length-take-le, take-append-drop, with_items_is}
use Rattle.byte_map.specs.Order.{bytes_cmp}
use Rattle.byte_map.specs.Sorted.{IsSorted, all_below, changed_all}
use Rattle.byte_map.proofs.Ranges.{sorted_drop}
use Rattle.page_map.specs.Empties.{empties}
use Rattle.page_map.specs.inner.Prefix.{IsPrefix, HasPrefix}
use Rattle.page_map.specs.Pages.{joined, AllFull, Stands}
use Rattle.page_map.proofs.Changes.{sorted_from}
use Rattle.page_map.proofs.Cuts.{sorted_one, sorted_prefix}
use Rattle.page_map.proofs.Placing.{first_left}
use Rattle.page_map.proofs.Empties.{few_empties}
use Rattle.page_map.proofs.Full.{full_at, full_drop, full_take, full_append, full_set, some_parts, some_joined, has_prefix}
use Rattle.page_map.proofs.InPlace.{IsNear, near_all, all_length, set_length, all_empties, set_empties, all_written}
use Rattle.page_map.proofs.in_place.+writing.Goals as goal

pub write_pages-write_pages-requires : goal.write_pages-write_pages-requires
write_pages-write_pages-requires t c =
    let ps = c.args.pages.now in
    let ws = c.args.here.now in
    let at = c.place_of-at.result in
    let n = c.count_before-count.result in
    let page = c.index-prefix-at.result in
    let lt : at < length ps = omega (arith, c.if-at-pages.false) in
    let is : page ≡ get_or ps at page = c.index-prefix-at.is ∙ ap (λ l. get_or l at page) c.split_at_mut-prefix.ensures.front ∙ get_or-take (at + 1) ps at page (omega arith) in
    let back : c.split_at_mut-prefix.result.1.now ≡ drop (at + 1) ps = c.split_at_mut-prefix.ensures.back in
    let w = c.index-here-0.result in
    let first : Stands ws 0 w = first_left ws ws 0 w (omega (arith, c.in-len1-up.len_at_least)) c.index-here-0.is refl in
    let key : c.as_slice.result.now ≡ w.0 = c.as_slice.ensures ∙ ap (λ (v : List ℕ × Option (List ℕ)). v.0) (sym c.index-here-0.is) in
    let some : 0 < n = c.count_before-count.ensures.some w first (subst (λ k. T (below_all bytes_cmp k (joined (drop (at + 1) ps)))) key c.place_of-at.ensures.after) in
    let prefix_len : length c.split_at.result.0.now ≡ n = ap length c.split_at.ensures.front ∙ length-take-le n ws c.count_before-count.ensures.in_range in
    let back_len : length c.split_at.result.1.now ≡ length ws - n = ap length c.split_at.ensures.back ∙ length-drop n ws in (
      omega (arith, c.decreases, some, prefix_len, back_len, c.count_before-count.ensures.in_range),
      (
        subst (λ l. IsSorted (joined l)) (sym back) (sorted_from ps (at + 1) c.requires.sorted),
        (
          c.requires.behind,
          (
            c.requires.full,
            (
              sorted_drop ws _ n c.requires.here c.split_at.ensures.back,
              (
                c.requires.later,
                (
                  omega (arith, c.requires.counted, all_length ps at page lt is, ap (λ l. length (joined l)) back),
                  (
                    omega (arith, c.requires.few, back_len),
                    (
                      omega (arith, c.requires.empties, all_empties ps at page lt is, ap (λ l. length (empties (joined l))) back),
                      omega (arith, c.requires.few_empties, back_len),
                    ),
                  ),
                ),
              ),
            ),
          ),
        ),
      ),
    )

pub write_pages-write_all_reserved-new_count-requires-clause-sorted : goal.write_pages-write_all_reserved-new_count-requires-clause-sorted
write_pages-write_all_reserved-new_count-requires-clause-sorted t c =
    let ps = c.args.pages.now in
    let ws = c.args.here.now in
    let at = c.place_of-at.result in
    let n = c.count_before-count.result in
    let page = c.index-prefix-at.result in
    let lt : at < length ps = omega (arith, c.if-at-pages.false) in
    let is : page ≡ get_or ps at page = c.index-prefix-at.is ∙ ap (λ l. get_or l at page) c.split_at_mut-prefix.ensures.front ∙ get_or-take (at + 1) ps at page (omega arith) in
    let back : c.split_at_mut-prefix.result.1.now ≡ drop (at + 1) ps = c.split_at_mut-prefix.ensures.back in
    let held : c.is_ready.new.pairs.pairs ≡ page = c.if-not-is_ready.ensures.kept ∙ ap (λ f. f.pairs) c.in-Some.ensures.value ∙ c.page.view_is ∙ sym c.index-prefix-at.is in
    subst IsSorted (sym held) (subst IsSorted (sym is) (sorted_one ps at page c.requires.sorted lt))

pub write_pages-is_ready-requires : goal.write_pages-is_ready-requires
write_pages-is_ready-requires t c =
    let ps = c.args.pages.now in
    let at = c.place_of-at.result in
    let page = c.index-prefix-at.result in
    let lt : at < length ps = omega (arith, c.if-at-pages.false) in
    let is : page ≡ get_or ps at page = c.index-prefix-at.is ∙ ap (λ l. get_or l at page) c.split_at_mut-prefix.ensures.front ∙ get_or-take (at + 1) ps at page (omega arith) in
    let held : c.in-Some.pairs.now.pairs ≡ page = ap (λ f. f.pairs) c.in-Some.ensures.value ∙ c.page.view_is ∙ sym c.index-prefix-at.is in
    subst IsSorted (sym held) (subst IsSorted (sym is) (sorted_one ps at page c.requires.sorted lt))

pub write_pages-pair-requires : goal.write_pages-pair-requires
write_pages-pair-requires t c =
    let ps = c.args.pages.now in
    let ws = c.args.here.now in
    let at = c.place_of-at.result in
    let n = c.count_before-count.result in
    let page = c.index-prefix-at.result in
    let lt : at < length ps = omega (arith, c.if-at-pages.false) in
    let is : page ≡ get_or ps at page = c.index-prefix-at.is ∙ ap (λ l. get_or l at page) c.split_at_mut-prefix.ensures.front ∙ get_or-take (at + 1) ps at page (omega arith) in
    let back : c.split_at_mut-prefix.result.1.now ≡ drop (at + 1) ps = c.split_at_mut-prefix.ensures.back in
    let held : c.is_ready.new.pairs.pairs ≡ page = c.if-not-is_ready.ensures.kept ∙ ap (λ f. f.pairs) c.in-Some.ensures.value ∙ c.page.view_is ∙ sym c.index-prefix-at.is in
    let sorted : IsSorted page = subst IsSorted (sym is) (sorted_one ps at page c.requires.sorted lt) in
    let new : c.write_all_reserved-new_count.new.self.pairs ≡ changed_all page (take n ws) = c.write_all_reserved-new_count.ensures.written ∙ (λ i. changed_all (held i) (c.split_at.ensures.front i)) in
    let near : IsNear (length page) (length (changed_all page (take n ws))) (length (take n ws)) = near_all page (take n ws) sorted in
    let now : length c.write_all_reserved-new_count.new.self.pairs ≡ length (changed_all page (take n ws)) = ap length new in
    let here : length c.split_at.result.0.now ≡ length (take n ws) = ap length c.split_at.ensures.front in
    let size : length c.is_ready.new.pairs.pairs ≡ length page = ap length held in
    let kept : length c.is_ready.new.pairs.pairs ≡ length c.in-Some.pairs.now.pairs = ap length c.if-not-is_ready.ensures.kept in
    let some = c.if-not-is_ready.ensures.some refl in
    let written : length c.write_all_reserved-new_count.new.self.pairs ≡ length (changed_all c.in-Some.pairs.now.pairs c.split_at.result.0.now) =
    ap length (c.write_all_reserved-new_count.ensures.written ∙ ap (λ l. changed_all l c.split_at.result.0.now) c.if-not-is_ready.ensures.kept) in
    omega (arith, written, some)

pub write_pages-overflow_sub-result : goal.write_pages-overflow_sub-result
write_pages-overflow_sub-result t c =
    let ps = c.args.pages.now in
    let ws = c.args.here.now in
    let at = c.place_of-at.result in
    let n = c.count_before-count.result in
    let page = c.index-prefix-at.result in
    let lt : at < length ps = omega (arith, c.if-at-pages.false) in
    let is : page ≡ get_or ps at page = c.index-prefix-at.is ∙ ap (λ l. get_or l at page) c.split_at_mut-prefix.ensures.front ∙ get_or-take (at + 1) ps at page (omega arith) in
    let back : c.split_at_mut-prefix.result.1.now ≡ drop (at + 1) ps = c.split_at_mut-prefix.ensures.back in
    let held : c.is_ready.new.pairs.pairs ≡ page = c.if-not-is_ready.ensures.kept ∙ ap (λ f. f.pairs) c.in-Some.ensures.value ∙ c.page.view_is ∙ sym c.index-prefix-at.is in
    let sorted : IsSorted page = subst IsSorted (sym is) (sorted_one ps at page c.requires.sorted lt) in
    let new : c.write_all_reserved-new_count.new.self.pairs ≡ changed_all page (take n ws) = c.write_all_reserved-new_count.ensures.written ∙ (λ i. changed_all (held i) (c.split_at.ensures.front i)) in
    let near : IsNear (length page) (length (changed_all page (take n ws))) (length (take n ws)) = near_all page (take n ws) sorted in
    let now : length c.write_all_reserved-new_count.new.self.pairs ≡ length (changed_all page (take n ws)) = ap length new in
    let here : length c.split_at.result.0.now ≡ length (take n ws) = ap length c.split_at.ensures.front in
    let size : length c.is_ready.new.pairs.pairs ≡ length page = ap length held in
    let kept : length c.is_ready.new.pairs.pairs ≡ length c.in-Some.pairs.now.pairs = ap length c.if-not-is_ready.ensures.kept in
    let total = c.in-Some-write_pages.ensures.counted in
    let old : length (joined c.split_at_mut-prefix.result.1.now) ≡ length (joined (drop (at + 1) ps)) = ap (λ l. length (joined l)) back in
    let all = all_length ps at page lt is in
    omega (arith, c.len-before.ensures, size, kept, total, old, all, c.requires.counted)

pub write_pages-invariant_of-page-2 : goal.write_pages-invariant_of-page-2
write_pages-invariant_of-page-2 t c =
    let ps = c.args.pages.now in
    let ws = c.args.here.now in
    let at = c.place_of-at.result in
    let n = c.count_before-count.result in
    let page = c.index-prefix-at.result in
    let lt : at < length ps = omega (arith, c.if-at-pages.false) in
    let is : page ≡ get_or ps at page = c.index-prefix-at.is ∙ ap (λ l. get_or l at page) c.split_at_mut-prefix.ensures.front ∙ get_or-take (at + 1) ps at page (omega arith) in
    let back : c.split_at_mut-prefix.result.1.now ≡ drop (at + 1) ps = c.split_at_mut-prefix.ensures.back in
    let held : c.is_ready.new.pairs.pairs ≡ page = c.if-not-is_ready.ensures.kept ∙ ap (λ f. f.pairs) c.in-Some.ensures.value ∙ c.page.view_is ∙ sym c.index-prefix-at.is in
    let sorted : IsSorted page = subst IsSorted (sym is) (sorted_one ps at page c.requires.sorted lt) in
    let new : c.write_all_reserved-new_count.new.self.pairs ≡ changed_all page (take n ws) = c.write_all_reserved-new_count.ensures.written ∙ (λ i. changed_all (held i) (c.split_at.ensures.front i)) in
    let near : IsNear (length page) (length (changed_all page (take n ws))) (length (take n ws)) = near_all page (take n ws) sorted in
    let now : length c.write_all_reserved-new_count.new.self.pairs ≡ length (changed_all page (take n ws)) = ap length new in
    let here : length c.split_at.result.0.now ≡ length (take n ws) = ap length c.split_at.ensures.front in
    let size : length c.is_ready.new.pairs.pairs ≡ length page = ap length held in
    let kept : length c.is_ready.new.pairs.pairs ≡ length c.in-Some.pairs.now.pairs = ap length c.if-not-is_ready.ensures.kept in
    let some = c.if-not-is_ready.ensures.some refl in
    let written : length c.write_all_reserved-new_count.new.self.pairs ≡ length (changed_all c.in-Some.pairs.now.pairs c.split_at.result.0.now) =
    ap length (c.write_all_reserved-new_count.ensures.written ∙ ap (λ l. changed_all l c.split_at.result.0.now) c.if-not-is_ready.ensures.kept) in
    let few = c.if-not-is_ready.ensures.few refl in
    record {
      page = (omega (arith, written, some), omega (arith, near.0, now, here, size, kept, few));
      counted = c.write_all_reserved-new_count.ensures.counted;
      prefix = λ first stands. subst (λ (l : List (List ℕ × List ℕ)). IsPrefix c.prefix_of-page-inside.result (get_or l 0 first).0) (sym c.pair.ensures ∙ stands) c.prefix_of-page-inside.ensures;
    }

pub write_pages-overflow_add-result : goal.write_pages-overflow_add-result
write_pages-overflow_add-result t c =
    let ps = c.args.pages.now in
    let ws = c.args.here.now in
    let at = c.place_of-at.result in
    let n = c.count_before-count.result in
    let page = c.index-prefix-at.result in
    let lt : at < length ps = omega (arith, c.if-at-pages.false) in
    let is : page ≡ get_or ps at page = c.index-prefix-at.is ∙ ap (λ l. get_or l at page) c.split_at_mut-prefix.ensures.front ∙ get_or-take (at + 1) ps at page (omega arith) in
    let back : c.split_at_mut-prefix.result.1.now ≡ drop (at + 1) ps = c.split_at_mut-prefix.ensures.back in
    let held : c.is_ready.new.pairs.pairs ≡ page = c.if-not-is_ready.ensures.kept ∙ ap (λ f. f.pairs) c.in-Some.ensures.value ∙ c.page.view_is ∙ sym c.index-prefix-at.is in
    let sorted : IsSorted page = subst IsSorted (sym is) (sorted_one ps at page c.requires.sorted lt) in
    let new : c.write_all_reserved-new_count.new.self.pairs ≡ changed_all page (take n ws) = c.write_all_reserved-new_count.ensures.written ∙ (λ i. changed_all (held i) (c.split_at.ensures.front i)) in
    let near : IsNear (length page) (length (changed_all page (take n ws))) (length (take n ws)) = near_all page (take n ws) sorted in
    let now : length c.write_all_reserved-new_count.new.self.pairs ≡ length (changed_all page (take n ws)) = ap length new in
    let here : length c.split_at.result.0.now ≡ length (take n ws) = ap length c.split_at.ensures.front in
    let size : length c.is_ready.new.pairs.pairs ≡ length page = ap length held in
    let kept : length c.is_ready.new.pairs.pairs ≡ length c.in-Some.pairs.now.pairs = ap length c.if-not-is_ready.ensures.kept in
    let total = c.in-Some-write_pages.ensures.counted in
    let old : length (joined c.split_at_mut-prefix.result.1.now) ≡ length (joined (drop (at + 1) ps)) = ap (λ l. length (joined l)) back in
    let all = all_length ps at page lt is in
    let prefix_len : length c.split_at.result.0.now ≡ n = ap length c.split_at.ensures.front ∙ length-take-le n ws c.count_before-count.ensures.in_range in
    let back_len : length c.split_at.result.1.now ≡ length ws - n = ap length c.split_at.ensures.back ∙ length-drop n ws in
    let rest : IsNear (length (joined c.split_at_mut-prefix.result.1.now)) (length (changed_all (joined c.split_at_mut-prefix.result.1.now) c.split_at.result.1.now)) (length c.split_at.result.1.now) =
    near_all (joined c.split_at_mut-prefix.result.1.now) c.split_at.result.1.now (subst (λ l. IsSorted (joined l)) (sym back) (sorted_from ps (at + 1) c.requires.sorted)) in
    let rest_len : length (joined c.write_pages.new.pages) ≡ length (changed_all (joined c.split_at_mut-prefix.result.1.now) c.split_at.result.1.now) = ap length c.in-Some-write_pages.ensures.written in
    let last : IsNear (length (joined c.args.behind.now)) (length (changed_all (joined c.args.behind.now) c.args.later.now)) (length c.args.later.now) = near_all (joined c.args.behind.now) c.args.later.now c.requires.behind in
    let last_len : length (joined c.write_pages.new.behind) ≡ length (changed_all (joined c.args.behind.now) c.args.later.now) = ap length c.in-Some-write_pages.ensures.behind in
    omega (arith, c.len-before.ensures, c.len.ensures, size, kept, total, near.0, now, here, rest.0, rest_len, last.0, last_len, c.requires.few, prefix_len, back_len, c.count_before-count.ensures.in_range)

pub write_pages-returns-clause-written : goal.write_pages-returns-clause-written
write_pages-returns-clause-written t c =
    let ps = c.args.pages.now in
    let ws = c.args.here.now in
    let at = c.place_of-at.result in
    let n = c.count_before-count.result in
    let page = c.index-prefix-at.result in
    let lt : at < length ps = omega (arith, c.if-at-pages.false) in
    let is : page ≡ get_or ps at page = c.index-prefix-at.is ∙ ap (λ l. get_or l at page) c.split_at_mut-prefix.ensures.front ∙ get_or-take (at + 1) ps at page (omega arith) in
    let back : c.split_at_mut-prefix.result.1.now ≡ drop (at + 1) ps = c.split_at_mut-prefix.ensures.back in
    let held : c.is_ready.new.pairs.pairs ≡ page = c.if-not-is_ready.ensures.kept ∙ ap (λ f. f.pairs) c.in-Some.ensures.value ∙ c.page.view_is ∙ sym c.index-prefix-at.is in
    let w = c.index-here-0.result in
    let new : c.write_all_reserved-new_count.new.self.pairs ≡ changed_all page (take n ws) = c.write_all_reserved-new_count.ensures.written ∙ (λ i. changed_all (held i) (c.split_at.ensures.front i)) in
    let rest : joined c.write_pages.new.pages ≡ changed_all (joined (drop (at + 1) ps)) (drop n ws) = c.in-Some-write_pages.ensures.written ∙ (λ i. changed_all (joined (back i)) (c.split_at.ensures.back i)) in
    let here : Stands ws 0 w = first_left ws ws 0 w (omega (arith, c.in-len1-up.len_at_least)) c.index-here-0.is refl in
    ap (λ l. joined (set l at c.write_all_reserved-new_count.new.self.pairs ++ c.write_pages.new.pages)) c.split_at_mut-prefix.ensures.front
    ∙ all_written ps at page lt is ws n w c.requires.sorted c.requires.here here
    (subst (λ k. T (all_below (joined (take at ps)) k)) (c.as_slice.ensures ∙ ap (λ (v : List ℕ × Option (List ℕ)). v.0) (sym c.index-here-0.is)) c.place_of-at.ensures.before)
    c.count_before-count.ensures.parted c.write_all_reserved-new_count.new.self.pairs c.write_pages.new.pages new rest

pub write_pages-returns-clause-counted : goal.write_pages-returns-clause-counted
write_pages-returns-clause-counted t c =
    let ps = c.args.pages.now in
    let ws = c.args.here.now in
    let at = c.place_of-at.result in
    let n = c.count_before-count.result in
    let page = c.index-prefix-at.result in
    let lt : at < length ps = omega (arith, c.if-at-pages.false) in
    let is : page ≡ get_or ps at page = c.index-prefix-at.is ∙ ap (λ l. get_or l at page) c.split_at_mut-prefix.ensures.front ∙ get_or-take (at + 1) ps at page (omega arith) in
    let back : c.split_at_mut-prefix.result.1.now ≡ drop (at + 1) ps = c.split_at_mut-prefix.ensures.back in
    let held : c.is_ready.new.pairs.pairs ≡ page = c.if-not-is_ready.ensures.kept ∙ ap (λ f. f.pairs) c.in-Some.ensures.value ∙ c.page.view_is ∙ sym c.index-prefix-at.is in
    let sorted : IsSorted page = subst IsSorted (sym is) (sorted_one ps at page c.requires.sorted lt) in
    let new : c.write_all_reserved-new_count.new.self.pairs ≡ changed_all page (take n ws) = c.write_all_reserved-new_count.ensures.written ∙ (λ i. changed_all (held i) (c.split_at.ensures.front i)) in
    let near : IsNear (length page) (length (changed_all page (take n ws))) (length (take n ws)) = near_all page (take n ws) sorted in
    let now : length c.write_all_reserved-new_count.new.self.pairs ≡ length (changed_all page (take n ws)) = ap length new in
    let here : length c.split_at.result.0.now ≡ length (take n ws) = ap length c.split_at.ensures.front in
    let size : length c.is_ready.new.pairs.pairs ≡ length page = ap length held in
    let kept : length c.is_ready.new.pairs.pairs ≡ length c.in-Some.pairs.now.pairs = ap length c.if-not-is_ready.ensures.kept in
    let total = c.in-Some-write_pages.ensures.counted in
    let old : length (joined c.split_at_mut-prefix.result.1.now) ≡ length (joined (drop (at + 1) ps)) = ap (λ l. length (joined l)) back in
    let all = all_length ps at page lt is in
    let whole : length (joined (set c.split_at_mut-prefix.result.0.now at c.write_all_reserved-new_count.new.self.pairs ++ c.write_pages.new.pages)) ≡ (length (joined (take at ps)) + length c.write_all_reserved-new_count.new.self.pairs) + length (joined c.write_pages.new.pages) =
    ap (λ l. length (joined (set l at c.write_all_reserved-new_count.new.self.pairs ++ c.write_pages.new.pages))) c.split_at_mut-prefix.ensures.front ∙ set_length ps at page lt is c.write_all_reserved-new_count.new.self.pairs c.write_pages.new.pages in
    omega (arith, c.len-before.ensures, c.len.ensures, size, kept, total, old, all, whole, c.requires.counted)

pub write_pages-write_all_reserved-new_count-requires-clause-counted : goal.write_pages-write_all_reserved-new_count-requires-clause-counted
write_pages-write_all_reserved-new_count-requires-clause-counted t c =
    let ps = c.args.pages.now in
    let ws = c.args.here.now in
    let at = c.place_of-at.result in
    let n = c.count_before-count.result in
    let page = c.index-prefix-at.result in
    let lt : at < length ps = omega (arith, c.if-at-pages.false) in
    let is : page ≡ get_or ps at page = c.index-prefix-at.is ∙ ap (λ l. get_or l at page) c.split_at_mut-prefix.ensures.front ∙ get_or-take (at + 1) ps at page (omega arith) in
    let back : c.split_at_mut-prefix.result.1.now ≡ drop (at + 1) ps = c.split_at_mut-prefix.ensures.back in
    let held : c.is_ready.new.pairs.pairs ≡ page = c.if-not-is_ready.ensures.kept ∙ ap (λ f. f.pairs) c.in-Some.ensures.value ∙ c.page.view_is ∙ sym c.index-prefix-at.is in
    c.empties-old_count.ensures ∙ ap (λ (l : List (List ℕ × List ℕ)). length (empties l)) (sym c.index-prefix-at.is ∙ sym held)

pub write_pages-write_all_reserved-new_count-requires-clause-few : goal.write_pages-write_all_reserved-new_count-requires-clause-few
write_pages-write_all_reserved-new_count-requires-clause-few t c =
    let ps = c.args.pages.now in
    let ws = c.args.here.now in
    let at = c.place_of-at.result in
    let n = c.count_before-count.result in
    let page = c.index-prefix-at.result in
    let lt : at < length ps = omega (arith, c.if-at-pages.false) in
    let is : page ≡ get_or ps at page = c.index-prefix-at.is ∙ ap (λ l. get_or l at page) c.split_at_mut-prefix.ensures.front ∙ get_or-take (at + 1) ps at page (omega arith) in
    let back : c.split_at_mut-prefix.result.1.now ≡ drop (at + 1) ps = c.split_at_mut-prefix.ensures.back in
    let held : c.is_ready.new.pairs.pairs ≡ page = c.if-not-is_ready.ensures.kept ∙ ap (λ f. f.pairs) c.in-Some.ensures.value ∙ c.page.view_is ∙ sym c.index-prefix-at.is in
    let few = c.if-not-is_ready.ensures.few refl in
    let kept : length c.is_ready.new.pairs.pairs ≡ length c.in-Some.pairs.now.pairs = ap length c.if-not-is_ready.ensures.kept in
    omega (arith, c.empties-old_count.ensures, ap (λ (l : List (List ℕ × List ℕ)). length (empties l)) c.index-prefix-at.is, few_empties page, ap length held, kept, few)

pub write_pages-returns-clause-empties : goal.write_pages-returns-clause-empties
write_pages-returns-clause-empties t c =
    let ps = c.args.pages.now in
    let ws = c.args.here.now in
    let at = c.place_of-at.result in
    let n = c.count_before-count.result in
    let page = c.index-prefix-at.result in
    let lt : at < length ps = omega (arith, c.if-at-pages.false) in
    let is : page ≡ get_or ps at page = c.index-prefix-at.is ∙ ap (λ l. get_or l at page) c.split_at_mut-prefix.ensures.front ∙ get_or-take (at + 1) ps at page (omega arith) in
    let back : c.split_at_mut-prefix.result.1.now ≡ drop (at + 1) ps = c.split_at_mut-prefix.ensures.back in
    let held : c.is_ready.new.pairs.pairs ≡ page = c.if-not-is_ready.ensures.kept ∙ ap (λ f. f.pairs) c.in-Some.ensures.value ∙ c.page.view_is ∙ sym c.index-prefix-at.is in
    let whole : length (empties (joined (set c.split_at_mut-prefix.result.0.now at c.write_all_reserved-new_count.new.self.pairs ++ c.write_pages.new.pages))) ≡ (length (empties (joined (take at ps))) + length (empties c.write_all_reserved-new_count.new.self.pairs)) + length (empties (joined c.write_pages.new.pages)) =
    ap (λ l. length (empties (joined (set l at c.write_all_reserved-new_count.new.self.pairs ++ c.write_pages.new.pages)))) c.split_at_mut-prefix.ensures.front ∙ set_empties ps at page lt is c.write_all_reserved-new_count.new.self.pairs c.write_pages.new.pages in
    omega (
      arith,
      whole,
      c.in-Some-write_pages.ensures.empties,
      c.empties-old_count.ensures,
      ap (λ (l : List (List ℕ × List ℕ)). length (empties l)) c.index-prefix-at.is,
      c.write_all_reserved-new_count.ensures.counted,
      all_empties ps at page lt is,
      ap (λ l. length (empties (joined l))) back,
      c.requires.empties,
    )

pub write_pages-overflow_sub-result-2 : goal.write_pages-overflow_sub-result-2
write_pages-overflow_sub-result-2 t c =
    let ps = c.args.pages.now in
    let ws = c.args.here.now in
    let at = c.place_of-at.result in
    let n = c.count_before-count.result in
    let page = c.index-prefix-at.result in
    let lt : at < length ps = omega (arith, c.if-at-pages.false) in
    let is : page ≡ get_or ps at page = c.index-prefix-at.is ∙ ap (λ l. get_or l at page) c.split_at_mut-prefix.ensures.front ∙ get_or-take (at + 1) ps at page (omega arith) in
    let back : c.split_at_mut-prefix.result.1.now ≡ drop (at + 1) ps = c.split_at_mut-prefix.ensures.back in
    omega (
      arith,
      c.in-Some-write_pages.ensures.empties,
      c.empties-old_count.ensures,
      ap (λ (l : List (List ℕ × List ℕ)). length (empties l)) c.index-prefix-at.is,
      all_empties ps at page lt is,
      ap (λ l. length (empties (joined l))) back,
      c.requires.empties,
    )

pub write_pages-returns-clause-few_empties : goal.write_pages-returns-clause-few_empties
write_pages-returns-clause-few_empties t c =
    let ps = c.args.pages.now in
    let ws = c.args.here.now in
    let at = c.place_of-at.result in
    let n = c.count_before-count.result in
    let page = c.index-prefix-at.result in
    let lt : at < length ps = omega (arith, c.if-at-pages.false) in
    let is : page ≡ get_or ps at page = c.index-prefix-at.is ∙ ap (λ l. get_or l at page) c.split_at_mut-prefix.ensures.front ∙ get_or-take (at + 1) ps at page (omega arith) in
    let back : c.split_at_mut-prefix.result.1.now ≡ drop (at + 1) ps = c.split_at_mut-prefix.ensures.back in
    let prefix_len : length c.split_at.result.0.now ≡ n = ap length c.split_at.ensures.front ∙ length-take-le n ws c.count_before-count.ensures.in_range in
    let back_len : length c.split_at.result.1.now ≡ length ws - n = ap length c.split_at.ensures.back ∙ length-drop n ws in
    omega (
      arith,
      c.in-Some-write_pages.ensures.empties,
      c.empties-old_count.ensures,
      ap (λ (l : List (List ℕ × List ℕ)). length (empties l)) c.index-prefix-at.is,
      all_empties ps at page lt is,
      ap (λ l. length (empties (joined l))) back,
      c.requires.empties,
      c.in-Some-write_pages.ensures.few_empties,
      c.write_all_reserved-new_count.ensures.few,
      prefix_len,
      back_len,
      c.count_before-count.ensures.in_range,
    )

pub write_chunks-write_pages-requires : goal.write_chunks-write_pages-requires
write_chunks-write_pages-requires t c =
    let ps = c.args.chunks.now in
    let ws = c.args.writes.now in
    let at = c.place_of-at.result in
    let n = c.count_before-count.result in
    let chunk = c.index-prefix-at.result in
    let lt : at < length ps = omega (arith, c.if-at-chunks.false) in
    let is : chunk ≡ get_or ps at chunk = c.index-prefix-at.is ∙ ap (λ l. get_or l at chunk) c.split_at_mut-prefix.ensures.front ∙ get_or-take (at + 1) ps at chunk (omega arith) in
    let back : c.split_at_mut-prefix.result.1.now ≡ drop (at + 1) ps = c.split_at_mut-prefix.ensures.back in
    let pages = c.as_mut_slice-pages.result.now in
    let held : joined pages ≡ chunk = ap joined c.as_mut_slice-pages.ensures.value ∙ ap (λ v. joined v.items) c.in-Some.ensures.value ∙ c.chunk.view_is ∙ sym c.index-prefix-at.is in
    let sorted : IsSorted chunk = subst IsSorted (sym is) (sorted_one ps at chunk c.requires.sorted lt) in
    let full : 0 < length chunk = subst (λ (p : List (List ℕ × List ℕ)). 0 < length p) (sym is) (full_at ps at chunk c.requires.full lt) in
    let prefix_len : length c.split_at.result.0.now ≡ n = ap length c.split_at.ensures.front ∙ length-take-le n ws c.count_before-count.ensures.in_range in
    let back_len : length c.split_at.result.1.now ≡ length ws - n = ap length c.split_at.ensures.back ∙ length-drop n ws in (
      omega (arith, c.decreases, prefix_len, back_len, c.split_at_mut-prefix.ensures.back_len, c.count_before-count.ensures.in_range),
      (
        subst IsSorted (sym held) sorted,
        (
          subst (λ l. IsSorted (joined l)) (sym back) (sorted_from ps (at + 1) c.requires.sorted),
          (
            subst AllFull (sym back) (full_drop ps (at + 1) c.requires.full),
            (
              subst IsSorted (sym c.split_at.ensures.front) (sorted_prefix (take n ws) (drop n ws) (subst IsSorted (sym (take-append-drop n ws)) c.requires.writes)),
              (
                sorted_drop ws _ n c.requires.writes c.split_at.ensures.back,
                (
                  omega (arith, c.requires.counted, all_length ps at chunk lt is, ap (λ l. length (joined l)) back, ap length held),
                  (
                    omega (arith, c.requires.few, prefix_len, back_len, c.count_before-count.ensures.in_range),
                    (
                      omega (arith, c.empties-before.ensures, ap (λ (l : List (List ℕ × List ℕ)). length (empties l)) c.index-prefix-at.is, ap (λ (l : List (List ℕ × List ℕ)). length (empties l)) held),
                      omega (
                        arith,
                        c.empties-before.ensures,
                        ap (λ (l : List (List ℕ × List ℕ)). length (empties l)) c.index-prefix-at.is,
                        few_empties chunk,
                        c.requires.counted,
                        all_length ps at chunk lt is,
                        c.requires.few,
                        prefix_len,
                        c.count_before-count.ensures.in_range,
                      ),
                    ),
                  ),
                ),
              ),
            ),
          ),
        ),
      ),
    )

pub write_chunks-bounds-first-0 : goal.write_chunks-bounds-first-0
write_chunks-bounds-first-0 t c =
    let ps = c.args.chunks.now in
    let ws = c.args.writes.now in
    let at = c.place_of-at.result in
    let n = c.count_before-count.result in
    let chunk = c.index-prefix-at.result in
    let lt : at < length ps = omega (arith, c.if-at-chunks.false) in
    let is : chunk ≡ get_or ps at chunk = c.index-prefix-at.is ∙ ap (λ l. get_or l at chunk) c.split_at_mut-prefix.ensures.front ∙ get_or-take (at + 1) ps at chunk (omega arith) in
    let back : c.split_at_mut-prefix.result.1.now ≡ drop (at + 1) ps = c.split_at_mut-prefix.ensures.back in
    let pages = c.as_mut_slice-pages.result.now in
    let held : joined pages ≡ chunk = ap joined c.as_mut_slice-pages.ensures.value ∙ ap (λ v. joined v.items) c.in-Some.ensures.value ∙ c.chunk.view_is ∙ sym c.index-prefix-at.is in
    let sorted : IsSorted chunk = subst IsSorted (sym is) (sorted_one ps at chunk c.requires.sorted lt) in
    let full : 0 < length chunk = subst (λ (p : List (List ℕ × List ℕ)). 0 < length p) (sym is) (full_at ps at chunk c.requires.full lt) in
    let parts : 0 < length pages = some_parts pages (omega (arith, full, ap length held)) in
    omega (arith, parts, c.write_pages.ensures.len)

pub write_chunks-returns-clause-written : goal.write_chunks-returns-clause-written
write_chunks-returns-clause-written t c =
    let ps = c.args.chunks.now in
    let ws = c.args.writes.now in
    let at = c.place_of-at.result in
    let n = c.count_before-count.result in
    let chunk = c.index-prefix-at.result in
    let lt : at < length ps = omega (arith, c.if-at-chunks.false) in
    let is : chunk ≡ get_or ps at chunk = c.index-prefix-at.is ∙ ap (λ l. get_or l at chunk) c.split_at_mut-prefix.ensures.front ∙ get_or-take (at + 1) ps at chunk (omega arith) in
    let back : c.split_at_mut-prefix.result.1.now ≡ drop (at + 1) ps = c.split_at_mut-prefix.ensures.back in
    let pages = c.as_mut_slice-pages.result.now in
    let held : joined pages ≡ chunk = ap joined c.as_mut_slice-pages.ensures.value ∙ ap (λ v. joined v.items) c.in-Some.ensures.value ∙ c.chunk.view_is ∙ sym c.index-prefix-at.is in
    let sorted : IsSorted chunk = subst IsSorted (sym is) (sorted_one ps at chunk c.requires.sorted lt) in
    let full : 0 < length chunk = subst (λ (p : List (List ℕ × List ℕ)). 0 < length p) (sym is) (full_at ps at chunk c.requires.full lt) in
    let new = c.write_pages.new.pages in
    let now : (with_items c.in-Some.held.now new).items ≡ new = with_items_is c.in-Some.held.now new (c.write_pages.ensures.len ∙ c.as_mut_slice-pages.ensures.len) in
    let w = c.index-writes-0.result in
    let one : joined new ≡ changed_all chunk (take n ws) = c.in-Some-write_pages.ensures.written ∙ (λ i. changed_all (held i) (c.split_at.ensures.front i)) in
    let rest : joined c.write_pages.new.behind ≡ changed_all (joined (drop (at + 1) ps)) (drop n ws) = c.in-Some-write_pages.ensures.behind ∙ (λ i. changed_all (joined (back i)) (c.split_at.ensures.back i)) in
    let here : Stands ws 0 w = first_left ws ws 0 w (omega (arith, c.in-len1-up.len_at_least)) c.index-writes-0.is refl in
    (λ i. joined (set (c.split_at_mut-prefix.ensures.front i) at (joined (now i)) ++ c.write_pages.new.behind))
    ∙ all_written ps at chunk lt is ws n w c.requires.sorted c.requires.writes here
    (subst (λ k. T (all_below (joined (take at ps)) k)) (c.as_slice.ensures ∙ ap (λ (v : List ℕ × Option (List ℕ)). v.0) (sym c.index-writes-0.is)) c.place_of-at.ensures.before)
    c.count_before-count.ensures.parted (joined new) c.write_pages.new.behind one rest

pub write_chunks-returns-clause-counted : goal.write_chunks-returns-clause-counted
write_chunks-returns-clause-counted t c =
    let ps = c.args.chunks.now in
    let ws = c.args.writes.now in
    let at = c.place_of-at.result in
    let n = c.count_before-count.result in
    let chunk = c.index-prefix-at.result in
    let lt : at < length ps = omega (arith, c.if-at-chunks.false) in
    let is : chunk ≡ get_or ps at chunk = c.index-prefix-at.is ∙ ap (λ l. get_or l at chunk) c.split_at_mut-prefix.ensures.front ∙ get_or-take (at + 1) ps at chunk (omega arith) in
    let back : c.split_at_mut-prefix.result.1.now ≡ drop (at + 1) ps = c.split_at_mut-prefix.ensures.back in
    let pages = c.as_mut_slice-pages.result.now in
    let held : joined pages ≡ chunk = ap joined c.as_mut_slice-pages.ensures.value ∙ ap (λ v. joined v.items) c.in-Some.ensures.value ∙ c.chunk.view_is ∙ sym c.index-prefix-at.is in
    let sorted : IsSorted chunk = subst IsSorted (sym is) (sorted_one ps at chunk c.requires.sorted lt) in
    let full : 0 < length chunk = subst (λ (p : List (List ℕ × List ℕ)). 0 < length p) (sym is) (full_at ps at chunk c.requires.full lt) in
    let new = c.write_pages.new.pages in
    let now : (with_items c.in-Some.held.now new).items ≡ new = with_items_is c.in-Some.held.now new (c.write_pages.ensures.len ∙ c.as_mut_slice-pages.ensures.len) in
    let total = c.in-Some-write_pages.ensures.counted in
    let whole : length (joined (set c.split_at_mut-prefix.result.0.now at (joined (with_items c.in-Some.held.now new).items) ++ c.write_pages.new.behind)) ≡ (length (joined (take at ps)) + length (joined new)) + length (joined c.write_pages.new.behind) =
    (λ i. length (joined (set (c.split_at_mut-prefix.ensures.front i) at (joined (now i)) ++ c.write_pages.new.behind))) ∙ set_length ps at chunk lt is (joined new) c.write_pages.new.behind in
    omega (arith, total, whole, all_length ps at chunk lt is, ap (λ l. length (joined l)) back, ap length held)

pub write_chunks-returns-clause-full : goal.write_chunks-returns-clause-full
write_chunks-returns-clause-full t c =
    let ps = c.args.chunks.now in
    let ws = c.args.writes.now in
    let at = c.place_of-at.result in
    let n = c.count_before-count.result in
    let chunk = c.index-prefix-at.result in
    let lt : at < length ps = omega (arith, c.if-at-chunks.false) in
    let is : chunk ≡ get_or ps at chunk = c.index-prefix-at.is ∙ ap (λ l. get_or l at chunk) c.split_at_mut-prefix.ensures.front ∙ get_or-take (at + 1) ps at chunk (omega arith) in
    let back : c.split_at_mut-prefix.result.1.now ≡ drop (at + 1) ps = c.split_at_mut-prefix.ensures.back in
    let pages = c.as_mut_slice-pages.result.now in
    let held : joined pages ≡ chunk = ap joined c.as_mut_slice-pages.ensures.value ∙ ap (λ v. joined v.items) c.in-Some.ensures.value ∙ c.chunk.view_is ∙ sym c.index-prefix-at.is in
    let sorted : IsSorted chunk = subst IsSorted (sym is) (sorted_one ps at chunk c.requires.sorted lt) in
    let full : 0 < length chunk = subst (λ (p : List (List ℕ × List ℕ)). 0 < length p) (sym is) (full_at ps at chunk c.requires.full lt) in
    let new = c.write_pages.new.pages in
    let now : (with_items c.in-Some.held.now new).items ≡ new = with_items_is c.in-Some.held.now new (c.write_pages.ensures.len ∙ c.as_mut_slice-pages.ensures.len) in
    let parts : 0 < length pages = some_parts pages (omega (arith, full, ap length held)) in
    let some : 0 < length (joined new) = some_joined new c.index-first-0.result (omega (arith, parts, c.write_pages.ensures.len)) (subst (λ (p : List (List ℕ × List ℕ)). 0 < length p) c.index-first-0.is c.first_prefix.ensures.page.0) in
    full_append (set c.split_at_mut-prefix.result.0.now at (joined (with_items c.in-Some.held.now new).items)) c.write_pages.new.behind
    (full_set c.split_at_mut-prefix.result.0.now at _ (subst AllFull (sym c.split_at_mut-prefix.ensures.front) (full_take ps (at + 1) c.requires.full)) (subst (λ l. 0 < length (joined l)) (sym now) some))
    c.write_pages.ensures.full

pub write_chunks-invariant_of-chunk-2 : goal.write_chunks-invariant_of-chunk-2
write_chunks-invariant_of-chunk-2 t c =
    let ps = c.args.chunks.now in
    let at = c.place_of-at.result in
    let chunk = c.index-prefix-at.result in
    let pages = c.as_mut_slice-pages.result.now in
    let held : joined pages ≡ chunk = ap joined c.as_mut_slice-pages.ensures.value ∙ ap (λ v. joined v.items) c.in-Some.ensures.value ∙ c.chunk.view_is ∙ sym c.index-prefix-at.is in
    let new = c.write_pages.new.pages in
    let now : (with_items c.in-Some.held.now new).items ≡ new = with_items_is c.in-Some.held.now new (c.write_pages.ensures.len ∙ c.as_mut_slice-pages.ensures.len) in
    record {
      prefix = subst (λ l. HasPrefix (joined l) c.first_prefix.result.now) (sym now) (has_prefix new c.index-first-0.result c.first_prefix.result.now c.index-first-0.is c.first_prefix.ensures.page.0 c.first_prefix.ensures.prefix);
      counted = omega (
        arith,
        c.in-Some-write_pages.ensures.empties,
        c.empties-before.ensures,
        ap (λ (l : List (List ℕ × List ℕ)). length (empties l)) c.index-prefix-at.is,
        ap (λ (l : List (List ℕ × List ℕ)). length (empties l)) held,
        ap (λ l. length (empties (joined l))) now,
      );
    }
