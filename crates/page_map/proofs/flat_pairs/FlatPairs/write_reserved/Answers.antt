use Rattle.std.proofs.Common.{◌≡◌, ◌∙◌, List, ℕ, length, ap, arith}
use Rattle.byte_map.specs.Sorted.{changed}
use Rattle.page_map.specs.Empties.{empties}
use Rattle.page_map.specs.inner.Counts.{empties_at}
use Rattle.page_map.specs.inner.FlatPairs.{encoded}
use Rattle.page_map.proofs.Counts.{changed_count, counted_at, from_ok}
use Rattle.page_map.proofs.flat_pairs.FlatPairs.write_reserved.Goals as goal

pub overflow_sub-left : goal.overflow_sub-left
overflow_sub-left c =
    let es = encoded c.self.inside.bytes.items c.self.inside.slots.items in
    omega (arith, counted_at es c.place-place.result, c.count_at.ensures, c.requires.counted, ap (λ f. length (empties f.pairs)) c.self.view_is)

pub returns-clause-counted : goal.returns-clause-counted
returns-clause-counted c =
    let es = c.args.self.now.pairs in
    let view : encoded c.self.inside.bytes.items c.self.inside.slots.items ≡ es = ap (λ f. f.pairs) c.self.view_is in
    let written : encoded c.edit.new.bytes.items c.edit.new.slots.items ≡ changed es c.args.key.now c.args.change.now =
    from_ok c.edit.result _ c.edit.ensures.written c.if-is_err.ensures.value ∙ ap (λ (l : List (List ℕ × List ℕ)). changed l c.args.key.now c.args.change.now) view in
    omega (
      arith,
      changed_count es c.args.key.now c.place-place.result c.args.change.now c.place-place.ensures.found c.place-place.ensures.absent,
      counted_at es c.place-place.result,
      ap (λ (l : List (List ℕ × List ℕ)). length (empties l)) written,
      c.count_at.ensures,
      ap (λ (l : List (List ℕ × List ℕ)). empties_at l c.place-place.result) view,
      c.count_put.ensures.counted,
      c.requires.counted,
    )
