use Rattle.std.proofs.Common.{◌++◌, sym, ap, ◌∙◌, arith}
use Rattle.std.specs.List.{cons_option}
use Rattle.row_query.specs.inner.Found.{rows_at}
use Rattle.row_page.proofs.Limits.{full, ended}
use Rattle.row_page.proofs.scan.scan_page.Goals as goal

pub returns-then-len-limit : goal.returns-then-len-limit
returns-then-len-limit g c =
    let rest = rows_at (g.V.PairView.pairs c.args.view.now) c.args.columns.now c.args.query.now c.next.new.self in
    let found = sym c.in_ok-row.ensures ∙ c.in-Some-2.is in
    c.new.ensures
    ∙ full c.args.limit c.loop-key.rows.items c.in-Some-2.row rest _
    (ap (λ row. c.loop-key.rows.items ++ cons_option row rest) (sym found)
    ∙ ap (λ walk. c.loop-key.rows.items ++ rows_at (g.V.PairView.pairs c.args.view.now) c.args.columns.now c.args.query.now walk) (sym c.in-Some.ensures.found)
    ∙ c.loop-key.invariant.all)
    c.loop-key.invariant.few
    (omega (arith, c.if-len-limit.true, c.len.ensures))

pub returns : goal.returns
returns g c =
    c.new-2.ensures
    ∙ ended c.args.limit c.loop-key.rows.items _
    (ap (λ walk. c.loop-key.rows.items ++ rows_at (g.V.PairView.pairs c.args.view.now) c.args.columns.now c.args.query.now walk) (sym c.in_default.ensures.none)
    ∙ c.loop-key.invariant.all)
    c.loop-key.invariant.few
