use Rattle.std.proofs.Common.{◌≡◌, ◌∙◌, ◌++◌, get_or, subst, sym, ap, arith}
use Rattle.page_map.specs.Pages.{joined, AllFull}
use Rattle.page_map.proofs.Full.{joined_cut, full_cut}
use Rattle.page_map.proofs.planned.cut_off.Goals as goal

pub returns-clause-kept : goal.returns-clause-kept
returns-clause-kept c =
    let ps = c.reserve.new.self.items in
    let at = c.args.at in
    let cut = c.cut_off.new.self in
    let chunk = c.index_mut-chunk.result.now in
    let is : get_or ps at chunk ≡ cut ++ c.in-Some.tail = sym c.index_mut-chunk.ensures.value ∙ c.in-Some.ensures.some in
    ap joined c.in-Ok.ensures.items
    ∙ joined_cut ps at cut c.in-Some.tail chunk (omega arith) is
    ∙ ap joined c.reserve.ensures.items

pub returns-clause-full : goal.returns-clause-full
returns-clause-full c =
    let ps = c.reserve.new.self.items in
    subst AllFull (sym c.in-Ok.ensures.items)
    (full_cut ps c.args.at c.cut_off.new.self c.in-Some.tail (subst AllFull (sym c.reserve.ensures.items) c.requires.full) c.in-Some.ensures.full.0 c.in-Some.ensures.full.1)
