use Rattle.std.proofs.Common.{List, ℕ, sym, ap, ap₂, ◌∙◌}
use Rattle.std.specs.Ordering.{is_le}
use Rattle.row_map.specs.Walk.{key_range}
use Rattle.row_query.specs.inner.Bounds.{gathered}
use Rattle.row_ask.proofs.Gathers.{whole_range, part_of_range}
use Rattle.row_ask.proofs.index_page.gather_page.Goals as goal

pub returns-then-is_le-clause-keys : goal.returns-then-is_le-clause-keys
returns-then-is_le-clause-keys g c = λ store from is.
    let range = c.args.range.now in
    let read = g.V.PairView.pairs c.args.view.now in
    ap₂ (λ keys low. gathered range.number range.width keys (key_range store low range.high))
    (c.in_ok-gather.ensures ∙ ap₂ (λ (low high : List ℕ). gathered range.number range.width c.args.keys.now.keys (key_range read low high)) c.as_slice.ensures c.as_slice-then-is_le.ensures)
    (c.in_ok-range.ensures ∙ c.as_slice-then-is_le-2.ensures)
    ∙ whole_range store read range c.args.keys.now.keys c.args.to.now from is (ap is_le (sym c.compare.ensures) ∙ sym c.is_le.ensures ∙ c.if-is_le.true)

pub returns-clause-keys : goal.returns-clause-keys
returns-clause-keys g c = λ store from is.
    let range = c.args.range.now in
    let read = g.V.PairView.pairs c.args.view.now in
    ap₂ (λ keys low. gathered range.number range.width keys (key_range store low range.high))
    (c.in_ok-gather-2.ensures ∙ ap (λ (low : List ℕ). gathered range.number range.width c.args.keys.now.keys (key_range read low c.args.to.now)) c.as_slice-2.ensures)
    c.in_ok-range-2.ensures
    ∙ part_of_range store read range c.args.keys.now.keys c.args.to.now from is (ap is_le (sym c.compare.ensures) ∙ sym c.is_le.ensures ∙ c.if-is_le.false)
