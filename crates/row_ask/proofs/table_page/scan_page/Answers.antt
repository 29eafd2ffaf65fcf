use Rattle.std.proofs.Common.{◌≡◌, List, ℕ, [], ◌++◌, sym, ap, ap₂, subst, ◌∙◌}
use Rattle.std.specs.declared.cmp.Ordering.TheVariants.{Less}
use Rattle.std.specs.Ordering.{is_le}
use Rattle.keycode.specs.Order.{bytes_cmp}
use Rattle.row_map.specs.Walk.{key_range}
use Rattle.row_query.specs.inner.Bounds.{table_end}
use Rattle.row_query.specs.inner.Checks.{public_numbers}
use Rattle.row_query.specs.inner.Found.{rows_at}
use Rattle.row_ask.specs.Remaining.{rows_between}
use Rattle.row_ask.proofs.Forward.{goes_on}
use Rattle.row_ask.proofs.Page.{page_ends, page_goes_on, fewer_at_end, fewer_after}
use Rattle.row_ask.proofs.table_page.scan_page.Goals as goal

pub returns-then-is_le-clause-rows : goal.returns-then-is_le-clause-rows
returns-then-is_le-clause-rows g c = λ rows store agree is.
    let columns_are = c.as_slice-columns.ensures.value ∙ c.in_ok-public.ensures ∙ ap (λ elements. public_numbers elements c.args.query.now.table) c.elements.ensures in
    let end_is = c.as_slice.ensures ∙ c.in_ok-end.ensures in
    ap (λ rows. rows ++ []) (c.new.ensures ∙ c.in_ok-rows.ensures
    ∙ ap₂ (λ (columns end : List ℕ). rows_at (g.V.PairView.pairs c.args.view.now) columns c.args.query.now (key_range (g.V.PairView.pairs c.args.view.now) c.args.low.now end)) columns_are end_is)
    ∙ page_ends store agree.forms (g.V.PairView.pairs c.args.view.now) c.args.schema.now c.lemma_known.ensures c.args.query.now c.args.low.now c.args.to.now is
    (ap (λ end. is_le (bytes_cmp end c.args.to.now)) (sym c.in_ok-end.ensures) ∙ ap is_le (sym c.compare.ensures) ∙ sym c.is_le.ensures ∙ c.if-is_le.true)

pub returns-clause-rows : goal.returns-clause-rows
returns-clause-rows g c = λ rows store agree is.
    let columns_are = c.as_slice-columns.ensures.value ∙ c.in_ok-public.ensures ∙ ap (λ elements. public_numbers elements c.args.query.now.table) c.elements.ensures in
    ap (λ rows. rows ++ rows_between c.args.schema.now store c.args.query.now c.in_ok-cut.cut (table_end c.args.query.now.table)) (c.new-2.ensures ∙ c.in_ok-rows-2.ensures
    ∙ ap₂ (λ (columns cut : List ℕ). rows_at (g.V.PairView.pairs c.args.view.now) columns c.args.query.now (key_range (g.V.PairView.pairs c.args.view.now) c.args.low.now cut)) columns_are c.as_slice-2.ensures)
    ∙ page_goes_on store agree.forms (g.V.PairView.pairs c.args.view.now) c.args.schema.now c.lemma_known.ensures c.args.query.now c.args.low.now c.args.to.now is c.in_ok-cut.cut c.in_ok-cut.ensures

pub returns-clause-goes_on : goal.returns-clause-goes_on
returns-clause-goes_on g c = λ two. subst (λ cut. bytes_cmp c.args.low.now cut ≡ Less) (sym c.in_ok-cut.ensures) (goes_on c.args.query.now.table (g.V.PairView.pairs c.args.view.now) c.args.low.now c.args.to.now two)

pub returns-then-is_le-clause-fewer : goal.returns-then-is_le-clause-fewer
returns-then-is_le-clause-fewer g c = λ rows store agree is two.
    fewer_at_end store agree.forms (g.V.PairView.pairs c.args.view.now) c.args.schema.now c.lemma_known.ensures c.args.query.now c.args.low.now c.args.to.now is
    (ap (λ end. is_le (bytes_cmp end c.args.to.now)) (sym c.in_ok-end.ensures) ∙ ap is_le (sym c.compare.ensures) ∙ sym c.is_le.ensures ∙ c.if-is_le.true) two

pub returns-clause-fewer : goal.returns-clause-fewer
returns-clause-fewer g c = λ rows store agree is two.
    fewer_after store agree.forms (g.V.PairView.pairs c.args.view.now) c.args.schema.now c.lemma_known.ensures c.args.query.now c.args.low.now c.args.to.now is c.in_ok-cut.cut c.in_ok-cut.ensures two
