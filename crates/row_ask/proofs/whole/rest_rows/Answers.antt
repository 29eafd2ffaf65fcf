use Rattle.std.proofs.Common.{sym, ap, subst, ◌∙◌}
use Rattle.row_ask.specs.Remaining.{remaining_rows}
use Rattle.row_ask.specs.Whole.{IsRestRead}
use Rattle.row_ask.proofs.AllRead.{whole_table}
use Rattle.row_ask.proofs.whole.rest_rows.Goals as goal

pub returns-in_ok-page-in-Scan : goal.returns-in_ok-page-in-Scan
returns-in_ok-page-in-Scan g c = λ rows store agree is.
    let read = g.V.PairView.pairs c.args.view.now in
    let q = c.args.query.now in
    whole_table c.args.schema.now store read q c.in-Scan.low c.as_slice-in-Scan.result.now c.as_slice-in-Scan-2.result.now c.in_ok-page-in-Scan.page c.as_slice-in-Scan.ensures
    (c.as_slice-in-Scan-2.ensures ∙ c.in_ok-end-in-Scan.ensures) (subst (IsRestRead store read q) c.in-Scan.is is) c.in_ok-page-in-Scan.ensures.next (c.in_ok-page-in-Scan.ensures.rows rows store agree)
    ∙ sym (ap (remaining_rows c.args.schema.now store q) c.in-Scan.is)
