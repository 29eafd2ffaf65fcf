use Rattle.std.proofs.Common.{ap, arith, length, take}
use Rattle.page_map.specs.Empties.{empties}
use Rattle.page_map.proofs.Empties.{empties_cut}
use Rattle.page_map.proofs.page.Page.count_from.Goals as goal

pub overflow_sub-result : goal.overflow_sub-result
overflow_sub-result c = omega (arith, c.empties.ensures, c.count_empty.ensures, ap (λ l. length (empties (take c.args.at l))) c.pairs.ensures.all, empties_cut c.args.self.now c.args.at)

pub returns : goal.returns
returns c = omega (arith, c.empties.ensures, c.count_empty.ensures, ap (λ l. length (empties (take c.args.at l))) c.pairs.ensures.all, empties_cut c.args.self.now c.args.at)
