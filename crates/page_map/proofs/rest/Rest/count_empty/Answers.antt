use Rattle.std.proofs.Common.{◌<◌, arith, length}
use Rattle.page_map.proofs.Empties.{place_fits, rest_count}
use Rattle.page_map.proofs.rest.Rest.count_empty.Goals as goal

pub count_from-here-requires : goal.count_from-here-requires
count_from-here-requires c = place_fits c.self.inside.pages.now c.self.inside.at c.page-item.result (omega (arith, c.in-len1-up.len_at_least)) c.page-item.is c.self.invariant

pub count_pages-requires : goal.count_pages-requires
count_pages-requires c =
    let some : 0 < length c.self.inside.pages.now = omega (arith, c.in-len1-up.len_at_least) in
    omega (arith, c.requires, rest_count c.self.inside.pages.now c.self.inside.at c.page-item.result c.args.self.now some c.page-item.is c.self.invariant c.self.view_is)

pub overflow_add-result : goal.overflow_add-result
overflow_add-result c =
    let some : 0 < length c.self.inside.pages.now = omega (arith, c.in-len1-up.len_at_least) in
    let count = rest_count c.self.inside.pages.now c.self.inside.at c.page-item.result c.args.self.now some c.page-item.is c.self.invariant c.self.view_is in
    omega (arith, c.requires, count, c.count_from-here.ensures, c.count_pages.ensures)

pub returns : goal.returns
returns c =
    let some : 0 < length c.self.inside.pages.now = omega (arith, c.in-len1-up.len_at_least) in
    let count = rest_count c.self.inside.pages.now c.self.inside.at c.page-item.result c.args.self.now some c.page-item.is c.self.invariant c.self.view_is in
    omega (arith, count, c.count_from-here.ensures, c.count_pages.ensures)
