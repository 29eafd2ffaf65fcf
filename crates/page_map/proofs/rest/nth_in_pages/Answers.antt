use Rattle.std.proofs.Common.{◌∙◌, ◌-◌, ◌+◌, sym, ap, arith, drop}
use Rattle.std.specs.List.{slice_get}
use Rattle.page_map.specs.Empties.{empties}
use Rattle.page_map.specs.Pages.{joined}
use Rattle.page_map.proofs.Empties.{nth_here, nth_past}
use Rattle.page_map.proofs.rest.nth_in_pages.Goals as goal

pub returns-then-left-here : goal.returns-then-left-here
returns-then-left-here c =
    c.nth_empty.ensures
    ∙ ap (λ l. slice_get (empties l) c.loop-page.left) c.pairs.ensures.all
    ∙ sym (nth_here c.args.pages.now c.loop-page.page-index c.page-item.result c.loop-page.left (omega arith) c.page-item.is (omega (arith, c.if-left-here.true, c.empties-here.ensures)))
    ∙ c.loop-page.invariant

pub loop-page-preserved : goal.loop-page-preserved
loop-page-preserved c =
    ap (λ n. slice_get (empties (joined (drop (c.loop-page.page-index + 1) c.args.pages.now))) (c.loop-page.left - n)) c.empties-here.ensures
    ∙ sym (nth_past c.args.pages.now c.loop-page.page-index c.page-item.result c.loop-page.left (omega arith) c.page-item.is (omega (arith, c.if-left-here.false, c.empties-here.ensures)))
    ∙ c.loop-page.invariant
