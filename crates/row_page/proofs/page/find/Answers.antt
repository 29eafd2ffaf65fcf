use Rattle.std.proofs.Common.{List, ℕ, ap, ap₂, ◌∙◌}
use Rattle.row_map.specs.Walk.{key_range}
use Rattle.row_query.specs.inner.Checks.{public_numbers}
use Rattle.row_query.specs.inner.Found.{rows_at}
use Rattle.row_query.proofs.Tested.{ok_then}
use Rattle.schema_version.specs.Version.{live}
use Rattle.row_page.specs.Page.{page_of}
use Rattle.row_page.proofs.Found.{page_found}
use Rattle.row_page.proofs.page.find.Goals as goal

pub returns : goal.returns
returns g c = λ rows agree sound.
    let v = c.args.schema.now in
    let q = c.args.query.now in
    let pairs = g.V.PairView.pairs c.args.view.now in
    let columns_are = c.as_slice-columns.ensures.value ∙ c.in_ok-public.ensures ∙ ap (λ elements. public_numbers elements q.table) c.elements.ensures in
    let low_is = c.as_slice-low.ensures ∙ c.in_ok-low.ensures in
    let high_is = c.as_slice-high.ensures ∙ c.in_ok-high.ensures in
    ok_then c.scan_page.result _ _ (λ page is.
    is
    ∙ ap (λ (columns : List ℕ). page_of c.args.limit (rows_at pairs columns q (key_range pairs c.as_slice-low.result.now c.as_slice-high.result.now))) columns_are
    ∙ ap₂ (λ (low high : List ℕ). page_of c.args.limit (rows_at pairs (public_numbers (live v) q.table) q (key_range pairs low high))) low_is high_is
    ∙ ap (page_of c.args.limit) (page_found v c.lemma_known.ensures rows pairs agree q sound c.args.range.now c.known_range.ensures)) c.scan_page.ensures
