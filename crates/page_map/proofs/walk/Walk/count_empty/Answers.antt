use Rattle.std.proofs.Common.{arith}
use Rattle.page_map.specs.Pages.{joined}
use Rattle.page_map.proofs.Empties.{walk_count}
use Rattle.page_map.proofs.walk.Walk.count_empty.Goals as goal

pub count_empty-here-requires : goal.count_empty-here-requires
count_empty-here-requires c = omega (arith, c.requires, walk_count c.self.inside.pages (joined c.self.inside.behind.now) c.args.self.now c.self.view_is)

pub count_chunks-requires : goal.count_chunks-requires
count_chunks-requires c = omega (arith, c.requires, walk_count c.self.inside.pages (joined c.self.inside.behind.now) c.args.self.now c.self.view_is)

pub overflow_add-result : goal.overflow_add-result
overflow_add-result c =
    omega (arith, c.requires, walk_count c.self.inside.pages (joined c.self.inside.behind.now) c.args.self.now c.self.view_is, c.count_empty-here.ensures, c.count_chunks.ensures)

pub returns : goal.returns
returns c = omega (arith, walk_count c.self.inside.pages (joined c.self.inside.behind.now) c.args.self.now c.self.view_is, c.count_empty-here.ensures, c.count_chunks.ensures)
