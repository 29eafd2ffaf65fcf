use Rattle.std.proofs.Common.{◌∙◌, ◌-◌, List, ℕ, sym, subst, arith}
use Rattle.byte_map.specs.Sorted.{IsSorted}
use Rattle.page_map.specs.Pages.{joined, AllFull, IsRestFrom}
use Rattle.page_map.proofs.Cuts.{sorted_one, rest_all}
use Rattle.page_map.proofs.Full.{full_drop, rest_among}
use Rattle.std.proofs.lemmas.List.{take_rest}
use Rattle.page_map.proofs.walk.Walk.near.Goals as goal

pub returns-then-count-eq0 : goal.returns-then-count-eq0
returns-then-count-eq0 c = subst (IsRestFrom (joined c.args.chunks.now) c.args.key.now) (sym c.all.ensures) (rest_all c.args.chunks.now c.count_up_to-count.result c.args.key.now (omega arith) c.count_up_to-count.ensures)

pub near-pages-requires : goal.near-pages-requires
near-pages-requires c =
    subst IsSorted (sym (c.pages.ensures ∙ c.index-chunks-count.is))
    (sorted_one c.args.chunks.now (c.count_up_to-count.result - 1) c.index-chunks-count.result c.requires.sorted (omega (arith, c.count_up_to-count.ensures.in_range)))

pub begun-requires : goal.begun-requires
begun-requires c = subst AllFull (sym (take_rest c.args.chunks.now c.count_up_to-count.result)) (full_drop c.args.chunks.now c.count_up_to-count.result c.requires.full)

pub returns : goal.returns
returns c =
    rest_among c.args.chunks.now c.count_up_to-count.result c.index-chunks-count.result c.args.key.now c.near-pages.result _ c.begun.result (omega arith) c.count_up_to-count.ensures c.index-chunks-count.is
    (subst (λ (p : List (List ℕ × List ℕ)). IsRestFrom p c.args.key.now c.near-pages.result) c.pages.ensures c.near-pages.ensures)
    (take_rest c.args.chunks.now c.count_up_to-count.result) c.begun.ensures
