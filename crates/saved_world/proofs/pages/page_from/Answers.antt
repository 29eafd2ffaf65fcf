use Rattle.std.proofs.Common.{rules, ◌≡◌, ◌≢◌, [], ap, ◌∙◌, take, map as each}
use Rattle.saved_world.specs.Taken.{plain}
use Rattle.saved_world.proofs.Filled.{next_page}
use Rattle.saved_world.proofs.pages.page_from.Goals as goal

pub returns-clause-page : goal.returns-clause-page
returns-clause-page c =
    let some : c.fill.new.taken.items ≢ [] = λ none. (search rules) in
    let copied : c.in_ok-page.page.items ≡ each plain (take c.size_of-size.result c.fill.new.taken.items) =
    c.in_ok-page.ensures ∙ ap (each plain) (c.first_of.ensures ∙ ap (take c.size_of-size.result) c.as_slice.ensures.value) in
    next_page c.args.limit c.size_of-size.result c.args.taken.now.items c.fill.new.taken.items c.let_go.new.taken.items c.args.left.now c.fill.new.left c.in_ok-page.page.items c.in_ok-bytes.bytes.items
    c.size_of-size.ensures.size c.fill.ensures.kept c.in_ok-fill.ensures.filled some copied (search rules) (search rules) c.let_go.ensures
