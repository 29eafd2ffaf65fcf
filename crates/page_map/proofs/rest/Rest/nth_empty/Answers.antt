use Rattle.std.proofs.Common.{◌<◌, ◌-◌, ◌∙◌, ap, arith, length, drop, take}
use Rattle.std.specs.List.{slice_get}
use Rattle.page_map.specs.Empties.{empties}
use Rattle.page_map.specs.Pages.{joined}
use Rattle.page_map.proofs.Empties.{place_fits, nth_first, nth_behind}
use Rattle.page_map.proofs.rest.Rest.nth_empty.Goals as goal

pub count_from-here-requires : goal.count_from-here-requires
count_from-here-requires c = place_fits c.self.inside.pages.now c.self.inside.at c.page-item.result (omega (arith, c.in-len1-up.len_at_least)) c.page-item.is c.self.invariant

pub returns-then-n-here : goal.returns-then-n-here
returns-then-n-here c =
    let some : 0 < length c.self.inside.pages.now = omega (arith, c.in-len1-up.len_at_least) in
    c.nth_empty.ensures
    ∙ ap (λ l. slice_get (empties (drop c.self.inside.at l)) c.args.n) c.pairs.ensures.all
    ∙ nth_first c.self.inside.pages.now c.self.inside.at c.page-item.result c.args.self.now some c.page-item.is c.self.invariant c.self.view_is c.args.n (omega (arith, c.if-n-here.true, c.count_from-here.ensures))

pub returns-else-n-here : goal.returns-else-n-here
returns-else-n-here c =
    let some : 0 < length c.self.inside.pages.now = omega (arith, c.in-len1-up.len_at_least) in
    c.nth_in_pages.ensures
    ∙ ap (λ m. slice_get (empties (joined (take (length c.self.inside.pages.now - 1) (drop 1 c.self.inside.pages.now)))) (c.args.n - m)) c.count_from-here.ensures
    ∙ nth_behind c.self.inside.pages.now c.self.inside.at c.page-item.result c.args.self.now some c.page-item.is c.self.invariant c.self.view_is c.args.n (omega (arith, c.if-n-here.false, c.count_from-here.ensures))
