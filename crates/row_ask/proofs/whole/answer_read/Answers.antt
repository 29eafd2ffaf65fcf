use Rattle.std.proofs.Common.{sym, ap, subst, ◌∙◌}
use Rattle.row_ask.specs.Remaining.{remaining_rows}
use Rattle.row_ask.specs.Whole.{with_index, IsRestRead, IsAllRead}
use Rattle.row_ask.proofs.AllRead.{rest_read, rest_is}
use Rattle.row_ask.proofs.whole.answer_read.Goals as goal

pub returns-clause-rows : goal.returns-clause-rows
returns-clause-rows g c = λ rows store agree all.
    let read = g.V.PairView.pairs c.args.view.now in
    let v = c.args.schema.now in
    let q = c.args.query.now in
    let own = subst (IsAllRead store read q) (sym c.in_ok-remaining.ensures.exact) all in
    c.in_ok-rest_rows.ensures rows store agree (subst (IsRestRead store read q) (sym c.in_ok-rest.ensures) (rest_read store read q c.in_ok-remaining.remaining own))
    ∙ ap (remaining_rows v store q) c.in_ok-rest.ensures ∙ rest_is v store read q c.in_ok-remaining.remaining own ∙ c.in_ok-remaining.ensures.rows rows store agree
