use Rattle.std.proofs.Common.{◌≡◌, ◌∙◌, ◌+◌, ◌<◌, ◌++◌, T, List, ℕ, Option, length, reverse, get_or, take, drop, set, ap, sym, subst, refl, arith}
use Rattle.std.proofs.lemmas.List.{get_or-take, take-append-drop}
use Rattle.byte_map.specs.Sorted.{IsSorted, all_below, changed_all}
use Rattle.byte_map.proofs.Ranges.{sorted_drop}
use Rattle.page_map.specs.Empties.{empties}
use Rattle.page_map.specs.Pages.{joined, AllFull, Stands}
use Rattle.page_map.proofs.Changes.{sorted_from}
use Rattle.page_map.proofs.Cuts.{sorted_one, sorted_prefix}
use Rattle.page_map.proofs.Placing.{first_left}
use Rattle.page_map.proofs.Empties.{few_empties}
use Rattle.page_map.proofs.Full.{full_drop, full_take, full_append, full_set, some_joined, has_prefix}
use Rattle.page_map.proofs.InPlace.{all_length, set_length, all_written}
use Rattle.page_map.specs.inner.Plan.{placed}
use Rattle.page_map.proofs.planned.+write_planned.Goals as goal

pub new-requires-clause-pages : goal.new-requires-clause-pages
new-requires-clause-pages t c =
    let ps = c.args.chunks.now in
    let ws = c.args.writes.now in
    let at = c.place_of-at.result in
    let n = c.count_before-count.result in
    let chunk = c.index-prefix-at.result in
    let lt : at < length ps = omega (arith, c.if-at-chunks.false) in
    let is : chunk ≡ get_or ps at chunk = c.index-prefix-at.is ∙ ap (λ l. get_or l at chunk) c.split_at_mut-prefix.ensures.front ∙ get_or-take (at + 1) ps at chunk (omega arith) in
    let back : c.split_at_mut-prefix.result.1.now ≡ drop (at + 1) ps = c.split_at_mut-prefix.ensures.back in
    let pages = c.as_slice-2.result.now in
    let held : joined pages ≡ chunk = ap joined c.as_slice-2.ensures.value ∙ ap (λ v. joined v.items) c.in-Some.ensures.value ∙ c.chunk.view_is ∙ c.part_from_others.ensures ∙ sym c.index-prefix-at.is in
    let sorted : IsSorted chunk = subst IsSorted (sym is) (sorted_one ps at chunk c.requires.sorted lt) in
    subst IsSorted (sym held) sorted

pub new-requires-clause-counted : goal.new-requires-clause-counted
new-requires-clause-counted t c =
    let ps = c.args.chunks.now in
    let ws = c.args.writes.now in
    let at = c.place_of-at.result in
    let n = c.count_before-count.result in
    let chunk = c.index-prefix-at.result in
    let lt : at < length ps = omega (arith, c.if-at-chunks.false) in
    let is : chunk ≡ get_or ps at chunk = c.index-prefix-at.is ∙ ap (λ l. get_or l at chunk) c.split_at_mut-prefix.ensures.front ∙ get_or-take (at + 1) ps at chunk (omega arith) in
    let back : c.split_at_mut-prefix.result.1.now ≡ drop (at + 1) ps = c.split_at_mut-prefix.ensures.back in
    let pages = c.as_slice-2.result.now in
    let held : joined pages ≡ chunk = ap joined c.as_slice-2.ensures.value ∙ ap (λ v. joined v.items) c.in-Some.ensures.value ∙ c.chunk.view_is ∙ c.part_from_others.ensures ∙ sym c.index-prefix-at.is in
    let sorted : IsSorted chunk = subst IsSorted (sym is) (sorted_one ps at chunk c.requires.sorted lt) in
    omega (arith, c.requires.counted, all_length ps at chunk lt is, ap length held)

pub new-requires-clause-writes : goal.new-requires-clause-writes
new-requires-clause-writes t c =
    let ps = c.args.chunks.now in
    let ws = c.args.writes.now in
    let at = c.place_of-at.result in
    let n = c.count_before-count.result in
    let chunk = c.index-prefix-at.result in
    let lt : at < length ps = omega (arith, c.if-at-chunks.false) in
    let is : chunk ≡ get_or ps at chunk = c.index-prefix-at.is ∙ ap (λ l. get_or l at chunk) c.split_at_mut-prefix.ensures.front ∙ get_or-take (at + 1) ps at chunk (omega arith) in
    let back : c.split_at_mut-prefix.result.1.now ≡ drop (at + 1) ps = c.split_at_mut-prefix.ensures.back in
    let pages = c.as_slice-2.result.now in
    let held : joined pages ≡ chunk = ap joined c.as_slice-2.ensures.value ∙ ap (λ v. joined v.items) c.in-Some.ensures.value ∙ c.chunk.view_is ∙ c.part_from_others.ensures ∙ sym c.index-prefix-at.is in
    let sorted : IsSorted chunk = subst IsSorted (sym is) (sorted_one ps at chunk c.requires.sorted lt) in
    subst IsSorted (sym c.split_at.ensures.front) (sorted_prefix (take n ws) (drop n ws) (subst IsSorted (sym (take-append-drop n ws)) c.requires.writes))

pub write_planned-requires : goal.write_planned-requires
write_planned-requires t c =
    let ps = c.args.chunks.now in
    let ws = c.args.writes.now in
    let at = c.place_of-at.result in
    let n = c.count_before-count.result in
    let chunk = c.index-prefix-at.result in
    let lt : at < length ps = omega (arith, c.if-at-chunks.false) in
    let is : chunk ≡ get_or ps at chunk = c.index-prefix-at.is ∙ ap (λ l. get_or l at chunk) c.split_at_mut-prefix.ensures.front ∙ get_or-take (at + 1) ps at chunk (omega arith) in
    let back : c.split_at_mut-prefix.result.1.now ≡ drop (at + 1) ps = c.split_at_mut-prefix.ensures.back in
    let pages = c.as_slice-2.result.now in
    let held : joined pages ≡ chunk = ap joined c.as_slice-2.ensures.value ∙ ap (λ v. joined v.items) c.in-Some.ensures.value ∙ c.chunk.view_is ∙ c.part_from_others.ensures ∙ sym c.index-prefix-at.is in
    let sorted : IsSorted chunk = subst IsSorted (sym is) (sorted_one ps at chunk c.requires.sorted lt) in
    let len = c.in_ok-plan.ensures.plan.len in (
      omega (arith, c.decreases, c.split_at_mut-prefix.ensures.back_len),
      (
        subst (λ l. IsSorted (joined l)) (sym back) (sorted_from ps (at + 1) c.requires.sorted),
        (
          subst AllFull (sym back) (full_drop ps (at + 1) c.requires.full),
          (
            sorted_drop ws _ n c.requires.writes c.split_at.ensures.back,
            omega (arith, len, c.in_ok-plan.ensures.base, c.requires.counted, all_length ps at chunk lt is, ap length held, ap (λ l. length (joined l)) back),
          ),
        ),
      ),
    )

pub returns-then-size-eq0-clause-written : goal.returns-then-size-eq0-clause-written
returns-then-size-eq0-clause-written t c =
    let ps = c.args.chunks.now in
    let ws = c.args.writes.now in
    let at = c.place_of-at.result in
    let n = c.count_before-count.result in
    let chunk = c.index-prefix-at.result in
    let lt : at < length ps = omega (arith, c.if-at-chunks.false) in
    let is : chunk ≡ get_or ps at chunk = c.index-prefix-at.is ∙ ap (λ l. get_or l at chunk) c.split_at_mut-prefix.ensures.front ∙ get_or-take (at + 1) ps at chunk (omega arith) in
    let back : c.split_at_mut-prefix.result.1.now ≡ drop (at + 1) ps = c.split_at_mut-prefix.ensures.back in
    let pages = c.as_slice-2.result.now in
    let held : joined pages ≡ chunk = ap joined c.as_slice-2.ensures.value ∙ ap (λ v. joined v.items) c.in-Some.ensures.value ∙ c.chunk.view_is ∙ c.part_from_others.ensures ∙ sym c.index-prefix-at.is in
    let sorted : IsSorted chunk = subst IsSorted (sym is) (sorted_one ps at chunk c.requires.sorted lt) in
    let made = reverse c.in_ok-plan.plan.pieces.items in
    let new = c.place.new.pages.items in
    let put : new ≡ placed pages made = c.place.ensures ∙ ap (λ p. placed p made) (c.in_ok-reserve.ensures.items ∙ sym c.as_slice-2.ensures.value) in
    let w = c.index-writes-0.result in
    let one : joined new ≡ changed_all chunk (take n ws) = ap joined put ∙ c.in_ok-plan.ensures.all ∙ (λ i. changed_all (held i) (c.split_at.ensures.front i)) in
    let rest : joined c.write_planned.new.chunks ≡ changed_all (joined (drop (at + 1) ps)) (drop n ws) = c.in_ok-rest.ensures.written ∙ (λ i. changed_all (joined (back i)) (c.split_at.ensures.back i)) in
    let here : Stands ws 0 w = first_left ws ws 0 w (omega (arith, c.in-len1-up.len_at_least)) c.index-writes-0.is refl in
    ap (λ l. joined (set l at (joined new) ++ c.write_planned.new.chunks)) c.split_at_mut-prefix.ensures.front
    ∙ all_written ps at chunk lt is ws n w c.requires.sorted c.requires.writes here
    (subst (λ k. T (all_below (joined (take at ps)) k)) (c.as_slice.ensures ∙ ap (λ (v : List ℕ × Option (List ℕ)). v.0) (sym c.index-writes-0.is)) c.place_of-at.ensures.before)
    c.count_before-count.ensures.parted (joined new) c.write_planned.new.chunks one rest

pub returns-then-size-eq0-clause-counted : goal.returns-then-size-eq0-clause-counted
returns-then-size-eq0-clause-counted t c =
    let ps = c.args.chunks.now in
    let ws = c.args.writes.now in
    let at = c.place_of-at.result in
    let n = c.count_before-count.result in
    let chunk = c.index-prefix-at.result in
    let lt : at < length ps = omega (arith, c.if-at-chunks.false) in
    let is : chunk ≡ get_or ps at chunk = c.index-prefix-at.is ∙ ap (λ l. get_or l at chunk) c.split_at_mut-prefix.ensures.front ∙ get_or-take (at + 1) ps at chunk (omega arith) in
    let back : c.split_at_mut-prefix.result.1.now ≡ drop (at + 1) ps = c.split_at_mut-prefix.ensures.back in
    let pages = c.as_slice-2.result.now in
    let held : joined pages ≡ chunk = ap joined c.as_slice-2.ensures.value ∙ ap (λ v. joined v.items) c.in-Some.ensures.value ∙ c.chunk.view_is ∙ c.part_from_others.ensures ∙ sym c.index-prefix-at.is in
    let sorted : IsSorted chunk = subst IsSorted (sym is) (sorted_one ps at chunk c.requires.sorted lt) in
    let made = reverse c.in_ok-plan.plan.pieces.items in
    let new = c.place.new.pages.items in
    let put : new ≡ placed pages made = c.place.ensures ∙ ap (λ p. placed p made) (c.in_ok-reserve.ensures.items ∙ sym c.as_slice-2.ensures.value) in
    let whole : length (joined (set c.split_at_mut-prefix.result.0.now at (joined new) ++ c.write_planned.new.chunks)) ≡ (length (joined (take at ps)) + length (joined new)) + length (joined c.write_planned.new.chunks) =
    ap (λ l. length (joined (set l at (joined new) ++ c.write_planned.new.chunks))) c.split_at_mut-prefix.ensures.front ∙ set_length ps at chunk lt is (joined new) c.write_planned.new.chunks in
    omega (arith, c.in_ok-rest.ensures.counted, c.in_ok-plan.ensures.plan.len, c.in_ok-plan.ensures.base, ap (λ p. length (joined p)) put, whole, all_length ps at chunk lt is, ap (λ l. length (joined l)) back, ap length held)

pub returns-clause-written : goal.returns-clause-written
returns-clause-written t c =
    let ps = c.args.chunks.now in
    let ws = c.args.writes.now in
    let at = c.place_of-at.result in
    let n = c.count_before-count.result in
    let chunk = c.index-prefix-at.result in
    let lt : at < length ps = omega (arith, c.if-at-chunks.false) in
    let is : chunk ≡ get_or ps at chunk = c.index-prefix-at.is ∙ ap (λ l. get_or l at chunk) c.split_at_mut-prefix.ensures.front ∙ get_or-take (at + 1) ps at chunk (omega arith) in
    let back : c.split_at_mut-prefix.result.1.now ≡ drop (at + 1) ps = c.split_at_mut-prefix.ensures.back in
    let pages = c.as_slice-2.result.now in
    let held : joined pages ≡ chunk = ap joined c.as_slice-2.ensures.value ∙ ap (λ v. joined v.items) c.in-Some.ensures.value ∙ c.chunk.view_is ∙ c.part_from_others.ensures ∙ sym c.index-prefix-at.is in
    let sorted : IsSorted chunk = subst IsSorted (sym is) (sorted_one ps at chunk c.requires.sorted lt) in
    let made = reverse c.in_ok-plan.plan.pieces.items in
    let new = c.place.new.pages.items in
    let put : new ≡ placed pages made = c.place.ensures ∙ ap (λ p. placed p made) (c.in_ok-reserve.ensures.items ∙ sym c.as_slice-2.ensures.value) in
    let w = c.index-writes-0.result in
    let one : joined new ≡ changed_all chunk (take n ws) = ap joined put ∙ c.in_ok-plan.ensures.all ∙ (λ i. changed_all (held i) (c.split_at.ensures.front i)) in
    let rest : joined c.write_planned.new.chunks ≡ changed_all (joined (drop (at + 1) ps)) (drop n ws) = c.in_ok-rest.ensures.written ∙ (λ i. changed_all (joined (back i)) (c.split_at.ensures.back i)) in
    let here : Stands ws 0 w = first_left ws ws 0 w (omega (arith, c.in-len1-up.len_at_least)) c.index-writes-0.is refl in
    ap (λ l. joined (set l at (joined new) ++ c.write_planned.new.chunks)) c.split_at_mut-prefix.ensures.front
    ∙ all_written ps at chunk lt is ws n w c.requires.sorted c.requires.writes here
    (subst (λ k. T (all_below (joined (take at ps)) k)) (c.as_slice.ensures ∙ ap (λ (v : List ℕ × Option (List ℕ)). v.0) (sym c.index-writes-0.is)) c.place_of-at.ensures.before)
    c.count_before-count.ensures.parted (joined new) c.write_planned.new.chunks one rest

pub returns-clause-counted : goal.returns-clause-counted
returns-clause-counted t c =
    let ps = c.args.chunks.now in
    let ws = c.args.writes.now in
    let at = c.place_of-at.result in
    let n = c.count_before-count.result in
    let chunk = c.index-prefix-at.result in
    let lt : at < length ps = omega (arith, c.if-at-chunks.false) in
    let is : chunk ≡ get_or ps at chunk = c.index-prefix-at.is ∙ ap (λ l. get_or l at chunk) c.split_at_mut-prefix.ensures.front ∙ get_or-take (at + 1) ps at chunk (omega arith) in
    let back : c.split_at_mut-prefix.result.1.now ≡ drop (at + 1) ps = c.split_at_mut-prefix.ensures.back in
    let pages = c.as_slice-2.result.now in
    let held : joined pages ≡ chunk = ap joined c.as_slice-2.ensures.value ∙ ap (λ v. joined v.items) c.in-Some.ensures.value ∙ c.chunk.view_is ∙ c.part_from_others.ensures ∙ sym c.index-prefix-at.is in
    let sorted : IsSorted chunk = subst IsSorted (sym is) (sorted_one ps at chunk c.requires.sorted lt) in
    let made = reverse c.in_ok-plan.plan.pieces.items in
    let new = c.place.new.pages.items in
    let put : new ≡ placed pages made = c.place.ensures ∙ ap (λ p. placed p made) (c.in_ok-reserve.ensures.items ∙ sym c.as_slice-2.ensures.value) in
    let whole : length (joined (set c.split_at_mut-prefix.result.0.now at (joined new) ++ c.write_planned.new.chunks)) ≡ (length (joined (take at ps)) + length (joined new)) + length (joined c.write_planned.new.chunks) =
    ap (λ l. length (joined (set l at (joined new) ++ c.write_planned.new.chunks))) c.split_at_mut-prefix.ensures.front ∙ set_length ps at chunk lt is (joined new) c.write_planned.new.chunks in
    omega (arith, c.in_ok-rest.ensures.counted, c.in_ok-plan.ensures.plan.len, c.in_ok-plan.ensures.base, ap (λ p. length (joined p)) put, whole, all_length ps at chunk lt is, ap (λ l. length (joined l)) back, ap length held)

pub invariant_of-chunk-2 : goal.invariant_of-chunk-2
invariant_of-chunk-2 t c = record { counted = c.count_pages-chunk-inside.ensures ∙ ap (λ l. length (empties (joined l))) c.as_slice-first.ensures.value; prefix = has_prefix c.place.new.pages.items c.index-first-0.result _ (c.index-first-0.is ∙ ap (λ l. get_or l 0 c.index-first-0.result) c.as_slice-first.ensures.value) c.first_prefix.ensures.page.0 c.first_prefix.ensures.prefix }

pub returns-clause-full : goal.returns-clause-full
returns-clause-full t c = λ kept.
    let ps = c.args.chunks.now in
    let ws = c.args.writes.now in
    let at = c.place_of-at.result in
    let n = c.count_before-count.result in
    let chunk = c.index-prefix-at.result in
    let lt : at < length ps = omega (arith, c.if-at-chunks.false) in
    let is : chunk ≡ get_or ps at chunk = c.index-prefix-at.is ∙ ap (λ l. get_or l at chunk) c.split_at_mut-prefix.ensures.front ∙ get_or-take (at + 1) ps at chunk (omega arith) in
    let back : c.split_at_mut-prefix.result.1.now ≡ drop (at + 1) ps = c.split_at_mut-prefix.ensures.back in
    let pages = c.as_slice-2.result.now in
    let held : joined pages ≡ chunk = ap joined c.as_slice-2.ensures.value ∙ ap (λ v. joined v.items) c.in-Some.ensures.value ∙ c.chunk.view_is ∙ c.part_from_others.ensures ∙ sym c.index-prefix-at.is in
    let sorted : IsSorted chunk = subst IsSorted (sym is) (sorted_one ps at chunk c.requires.sorted lt) in
    let made = reverse c.in_ok-plan.plan.pieces.items in
    let new = c.place.new.pages.items in
    let put : new ≡ placed pages made = c.place.ensures ∙ ap (λ p. placed p made) (c.in_ok-reserve.ensures.items ∙ sym c.as_slice-2.ensures.value) in
    let some : 0 < length (joined new) = some_joined new c.index-first-0.result (omega (arith, c.if-size-eq0.false)) (subst (λ (p : List (List ℕ × List ℕ)). 0 < length p) (c.index-first-0.is ∙ ap (λ l. get_or l 0 c.index-first-0.result) c.as_slice-first.ensures.value) c.first_prefix.ensures.page.0) in
    full_append (set c.split_at_mut-prefix.result.0.now at (joined new)) c.write_planned.new.chunks
    (full_set c.split_at_mut-prefix.result.0.now at _ (subst AllFull (sym c.split_at_mut-prefix.ensures.front) (full_take ps (at + 1) c.requires.full)) some)
    (c.in_ok-rest.ensures.full kept)

pub count_pages-chunk-inside-requires : goal.count_pages-chunk-inside-requires
count_pages-chunk-inside-requires t c =
    let ps = c.args.chunks.now in
    let at = c.place_of-at.result in
    let chunk = c.index-prefix-at.result in
    let lt : at < length ps = omega (arith, c.if-at-chunks.false) in
    let is : chunk ≡ get_or ps at chunk = c.index-prefix-at.is ∙ ap (λ l. get_or l at chunk) c.split_at_mut-prefix.ensures.front ∙ get_or-take (at + 1) ps at chunk (omega arith) in
    let back : c.split_at_mut-prefix.result.1.now ≡ drop (at + 1) ps = c.split_at_mut-prefix.ensures.back in
    let pages = c.as_slice-2.result.now in
    let held : joined pages ≡ chunk = ap joined c.as_slice-2.ensures.value ∙ ap (λ v. joined v.items) c.in-Some.ensures.value ∙ c.chunk.view_is ∙ c.part_from_others.ensures ∙ sym c.index-prefix-at.is in
    let made = reverse c.in_ok-plan.plan.pieces.items in
    let new = c.place.new.pages.items in
    let put : new ≡ placed pages made = c.place.ensures ∙ ap (λ p. placed p made) (c.in_ok-reserve.ensures.items ∙ sym c.as_slice-2.ensures.value) in
    omega (
      arith,
      few_empties (joined new),
      ap (λ l. length (empties (joined l))) c.as_slice-first.ensures.value,
      c.total-total.ensures,
      c.total-total.type_inv,
      c.in_ok-plan.ensures.plan.len,
      c.in_ok-plan.ensures.base,
      ap (λ p. length (joined p)) put,
      c.requires.counted,
      all_length ps at chunk lt is,
      ap (λ l. length (joined l)) back,
      ap length held,
    )
