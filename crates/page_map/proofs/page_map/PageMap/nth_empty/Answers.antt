use Rattle.std.proofs.Common.{◌∙◌, ◌≡◌, sym, ap, subst, arith}
use Rattle.std.specs.Option.{option_map}
use Rattle.std.specs.List.{slice_get}
use Rattle.std.specs.Ordering.{is_lt}
use Rattle.std.specs.FinMap as map
use Rattle.byte_map.specs.Sorted.{until}
use Rattle.byte_map.specs.Walk.{within}
use Rattle.byte_map.proofs.Maps.{entries_map, len_map}
use Rattle.page_map.specs.Empties.{empties}
use Rattle.page_map.specs.Pages.{joined, IsRestFrom}
use Rattle.page_map.proofs.Rests.{range_rest}
use Rattle.page_map.proofs.Empties.{few_empties, nth_none, nth_some, rest_fits, sorted_from}
use Rattle.page_map.proofs.page_map.PageMap.nth_empty.Goals as goal

pub returns-in-None : goal.returns-in-None
returns-in-None c =
    let es = joined c.self.inside.chunks.items in
    let low = c.args.low.now in
    let high = c.args.high.now in
    let place : IsRestFrom es low c.from-rest.result = subst (λ l. IsRestFrom (joined l) low c.from-rest.result) c.as_slice.ensures.value c.from-rest.ensures in
    let range : within low high (map.entries c.args.self.now) ≡ until high c.from-rest.result
    = ap (within low high) (ap map.entries (sym c.self.view_is) ∙ entries_map es c.self.invariant.sorted) ∙ range_rest es c.self.invariant.sorted low _ place high in
    nth_none high c.from-rest.result c.args.n (sorted_from es low c.from-rest.result c.self.invariant.sorted place) (ap (option_map (λ k. k.now)) (sym c.in-None.is) ∙ c.nth_empty.ensures)
    ∙ sym (ap (λ l. slice_get (empties l) c.args.n) range)

pub returns-then-is_lt : goal.returns-then-is_lt
returns-then-is_lt c =
    let es = joined c.self.inside.chunks.items in
    let low = c.args.low.now in
    let high = c.args.high.now in
    let place : IsRestFrom es low c.from-rest.result = subst (λ l. IsRestFrom (joined l) low c.from-rest.result) c.as_slice.ensures.value c.from-rest.ensures in
    let range : within low high (map.entries c.args.self.now) ≡ until high c.from-rest.result
    = ap (within low high) (ap map.entries (sym c.self.view_is) ∙ entries_map es c.self.invariant.sorted) ∙ range_rest es c.self.invariant.sorted low _ place high in
    let found = ap (option_map (λ k. k.now)) (sym c.in-Some.is) ∙ c.nth_empty.ensures in
    nth_some high c.from-rest.result c.args.n c.in-Some.key.now _ (sorted_from es low c.from-rest.result c.self.invariant.sorted place) found (ap is_lt (sym c.cmp.ensures) ∙ sym c.is_lt.ensures ∙ c.if-is_lt.true)
    ∙ sym (ap (λ l. slice_get (empties l) c.args.n) range)

pub returns-else-is_lt : goal.returns-else-is_lt
returns-else-is_lt c =
    let es = joined c.self.inside.chunks.items in
    let low = c.args.low.now in
    let high = c.args.high.now in
    let place : IsRestFrom es low c.from-rest.result = subst (λ l. IsRestFrom (joined l) low c.from-rest.result) c.as_slice.ensures.value c.from-rest.ensures in
    let range : within low high (map.entries c.args.self.now) ≡ until high c.from-rest.result
    = ap (within low high) (ap map.entries (sym c.self.view_is) ∙ entries_map es c.self.invariant.sorted) ∙ range_rest es c.self.invariant.sorted low _ place high in
    let found = ap (option_map (λ k. k.now)) (sym c.in-Some.is) ∙ c.nth_empty.ensures in
    nth_some high c.from-rest.result c.args.n c.in-Some.key.now _ (sorted_from es low c.from-rest.result c.self.invariant.sorted place) found (ap is_lt (sym c.cmp.ensures) ∙ sym c.is_lt.ensures ∙ c.if-is_lt.false)
    ∙ sym (ap (λ l. slice_get (empties l) c.args.n) range)

pub nth_empty-requires : goal.nth_empty-requires
nth_empty-requires c =
    let es = joined c.self.inside.chunks.items in
    let low = c.args.low.now in
    let place : IsRestFrom es low c.from-rest.result = subst (λ l. IsRestFrom (joined l) low c.from-rest.result) c.as_slice.ensures.value c.from-rest.ensures in
    omega (arith, few_empties c.from-rest.result, rest_fits es low c.from-rest.result place, c.len-len.type_inv, c.len-len.ensures ∙ ap map.len (sym c.self.view_is) ∙ len_map es c.self.invariant.sorted)
