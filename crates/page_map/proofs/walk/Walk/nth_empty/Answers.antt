use Rattle.std.proofs.Common.{◌∙◌, ◌-◌, ap, arith}
use Rattle.std.specs.List.{slice_get}
use Rattle.page_map.specs.Empties.{empties}
use Rattle.page_map.specs.Pages.{joined}
use Rattle.page_map.proofs.Empties.{walk_count, walk_here, walk_past}
use Rattle.page_map.proofs.walk.Walk.nth_empty.Goals as goal

pub count_empty-here-requires : goal.count_empty-here-requires
count_empty-here-requires c = omega (arith, c.requires, walk_count c.self.inside.pages (joined c.self.inside.behind.now) c.args.self.now c.self.view_is)

pub returns-then-n-here : goal.returns-then-n-here
returns-then-n-here c =
    c.nth_empty.ensures
    ∙ walk_here c.self.inside.pages (joined c.self.inside.behind.now) c.args.self.now c.self.view_is c.args.n (omega (arith, c.if-n-here.true, c.count_empty-here.ensures))

pub returns-else-n-here : goal.returns-else-n-here
returns-else-n-here c =
    c.nth_in_chunks.ensures
    ∙ ap (λ m. slice_get (empties (joined c.self.inside.behind.now)) (c.args.n - m)) c.count_empty-here.ensures
    ∙ walk_past c.self.inside.pages (joined c.self.inside.behind.now) c.args.self.now c.self.view_is c.args.n (omega (arith, c.if-n-here.false, c.count_empty-here.ensures))
