use Rattle.std.proofs.Common.{arith}
use Rattle.page_map.proofs.Empties.{count_page, empties_fit}
use Rattle.page_map.proofs.rest.count_pages.Goals as goal

pub overflow_add-count : goal.overflow_add-count
overflow_add-count c = omega (arith, c.requires, c.loop-page.invariant, c.empties-count.ensures, empties_fit c.args.pages.now c.loop-page.page-index c.page-item.result (omega arith) c.page-item.is)

pub loop-page-preserved : goal.loop-page-preserved
loop-page-preserved c = omega (arith, c.loop-page.invariant, c.empties-count.ensures, count_page c.args.pages.now c.loop-page.page-index c.page-item.result (omega arith) c.page-item.is)
