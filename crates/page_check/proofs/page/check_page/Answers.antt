use Rattle.std.proofs.Common.{option_map, subst, sym}
use Rattle.page_check.specs.Page.{page_of, IsPageAudit}
use Rattle.page_check.proofs.Counts.{counted_is, page_done}
use Rattle.page_check.proofs.page.check_page.Goals as goal

pub returns : goal.returns
returns g c =
    let pairs = g.V.PairView.pairs c.args.view.now in
    let page = page_of pairs c.args.low.now (option_map (λ b. b.now) c.args.to) in
    subst (IsPageAudit c.args.schema.now pairs page)
    (sym (page_done c.args.schema.now pairs c.args.low.now (option_map (λ b. b.now) c.args.to) _ _ _ c.in_default.ensures.none c.loop-pair.invariant))
    (counted_is c.args.schema.now pairs page)
