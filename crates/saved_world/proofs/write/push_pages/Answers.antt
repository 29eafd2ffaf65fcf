use Rattle.std.proofs.Common.{rules, ℕ, List, ◌++◌, ap, subst, ◌∙◌}
use Rattle.std.specs.FinMap as map
use Rattle.entry_code.specs.Code.{bytes_code}
use Rattle.entry_code.specs.Known.{IsByteString}
use Rattle.saved_world.specs.Pages.{IsNextPage}
use Rattle.saved_world.proofs.Joins.{push_more, fewer_left}
use Rattle.saved_world.proofs.write.push_pages.Goals as goal

pub loop-pages-smaller : goal.loop-pages-smaller
loop-pages-smaller c =
    let next : IsNextPage 1000 c.loop-pages.pages c.in-Some.page.items c.next_page.new.self = (search rules) in
    fewer_left c.loop-pages.pages c.next_page.new.self c.in-Some.page.items next

pub loop-pages-preserved : goal.loop-pages-preserved
loop-pages-preserved c =
    let next : IsNextPage 1000 c.loop-pages.pages c.in-Some.page.items c.next_page.new.self = (search rules) in
    push_more c.args.out.now.items c.loop-pages.out.items c.push_part.new.out.items c.in-Some.page.items (map.entries c.args.checkpoint.now.pairs) c.loop-pages.pages c.next_page.new.self c.loop-pages.invariant next
    (c.in_ok-push_part.ensures.code ∙ ap (λ (b : List ℕ). c.loop-pages.out.items ++ bytes_code b) c.as_slice.ensures.value)
    (subst IsByteString c.as_slice.ensures.value c.in_ok-push_part.ensures.known)
