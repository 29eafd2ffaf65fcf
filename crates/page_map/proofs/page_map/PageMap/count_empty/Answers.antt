use Rattle.std.proofs.Common.{◌∙◌, ◌≡◌, ◌≢◌, refl, sym, ap, subst, arith, length}
use Rattle.std.specs.declared.cmp.Ordering.TheVariants.{Less}
use Rattle.std.specs.Ordering.{is_lt}
use Rattle.std.specs.FinMap as map
use Rattle.byte_map.specs.Order.{bytes_cmp}
use Rattle.byte_map.specs.Sorted.{until}
use Rattle.byte_map.specs.Walk.{within}
use Rattle.byte_map.proofs.Maps.{entries_map, len_map}
use Rattle.page_map.specs.Empties.{empties}
use Rattle.page_map.specs.Pages.{joined, IsRestFrom}
use Rattle.page_map.proofs.Cuts.{is_less, is_not}
use Rattle.page_map.proofs.Rests.{range_rest}
use Rattle.page_map.proofs.Empties.{count_between, few_empties, no_until, rest_fits}
use Rattle.page_map.proofs.page_map.PageMap.count_empty.Goals as goal

pub returns-then-is_lt : goal.returns-then-is_lt
returns-then-is_lt c =
    let es = joined c.self.inside.chunks.items in
    let low = c.args.low.now in
    let high = c.args.high.now in
    let place : IsRestFrom es low c.from-rest.result = subst (λ l. IsRestFrom (joined l) low c.from-rest.result) c.as_slice.ensures.value c.from-rest.ensures in
    let range : within low high (map.entries c.args.self.now) ≡ until high c.from-rest.result
    = ap (within low high) (ap map.entries (sym c.self.view_is) ∙ entries_map es c.self.invariant.sorted) ∙ range_rest es c.self.invariant.sorted low _ place high in
    let less : bytes_cmp high low ≡ Less = is_less (bytes_cmp high low) (ap is_lt (sym c.cmp.ensures) ∙ sym c.is_lt.ensures ∙ c.if-is_lt.true) in
    sym (ap (λ l. length (empties l)) (range ∙ no_until low high c.from-rest.result less place.after))

pub count_empty-requires : goal.count_empty-requires
count_empty-requires c =
    let es = joined c.self.inside.chunks.items in
    let low = c.args.low.now in
    let place : IsRestFrom es low c.from-rest.result = subst (λ l. IsRestFrom (joined l) low c.from-rest.result) c.as_slice.ensures.value c.from-rest.ensures in
    omega (arith, few_empties c.from-rest.result, rest_fits es low c.from-rest.result place, c.len-len.type_inv, c.len-len.ensures ∙ ap map.len (sym c.self.view_is) ∙ len_map es c.self.invariant.sorted)

pub count_empty-requires-2 : goal.count_empty-requires-2
count_empty-requires-2 c =
    let es = joined c.self.inside.chunks.items in
    let high = c.args.high.now in
    let place : IsRestFrom es high c.from-behind.result = subst (λ l. IsRestFrom (joined l) high c.from-behind.result) c.as_slice-2.ensures.value c.from-behind.ensures in
    omega (arith, few_empties c.from-behind.result, rest_fits es high c.from-behind.result place, c.len-len.type_inv, c.len-len.ensures ∙ ap map.len (sym c.self.view_is) ∙ len_map es c.self.invariant.sorted)

pub overflow_sub-result : goal.overflow_sub-result
overflow_sub-result c =
    let es = joined c.self.inside.chunks.items in
    let low = c.args.low.now in
    let high = c.args.high.now in
    let place : IsRestFrom es low c.from-rest.result = subst (λ l. IsRestFrom (joined l) low c.from-rest.result) c.as_slice.ensures.value c.from-rest.ensures in
    let end : IsRestFrom es high c.from-behind.result = subst (λ l. IsRestFrom (joined l) high c.from-behind.result) c.as_slice-2.ensures.value c.from-behind.ensures in
    let not_less : bytes_cmp high low ≢ Less = is_not is_lt (bytes_cmp high low) Less refl (ap is_lt (sym c.cmp.ensures) ∙ sym c.is_lt.ensures ∙ c.if-is_lt.false) in
    omega (arith, count_between es c.self.invariant.sorted low high c.from-rest.result c.from-behind.result place end not_less, c.count_empty.ensures, c.count_empty-2.ensures)

pub returns : goal.returns
returns c =
    let es = joined c.self.inside.chunks.items in
    let low = c.args.low.now in
    let high = c.args.high.now in
    let place : IsRestFrom es low c.from-rest.result = subst (λ l. IsRestFrom (joined l) low c.from-rest.result) c.as_slice.ensures.value c.from-rest.ensures in
    let end : IsRestFrom es high c.from-behind.result = subst (λ l. IsRestFrom (joined l) high c.from-behind.result) c.as_slice-2.ensures.value c.from-behind.ensures in
    let range : within low high (map.entries c.args.self.now) ≡ until high c.from-rest.result
    = ap (within low high) (ap map.entries (sym c.self.view_is) ∙ entries_map es c.self.invariant.sorted) ∙ range_rest es c.self.invariant.sorted low _ place high in
    let not_less : bytes_cmp high low ≢ Less = is_not is_lt (bytes_cmp high low) Less refl (ap is_lt (sym c.cmp.ensures) ∙ sym c.is_lt.ensures ∙ c.if-is_lt.false) in
    omega (
      arith,
      count_between es c.self.invariant.sorted low high c.from-rest.result c.from-behind.result place end not_less,
      c.count_empty.ensures,
      c.count_empty-2.ensures,
      ap (λ l. length (empties l)) range,
    )
