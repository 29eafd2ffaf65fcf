use Rattle.std.proofs.Common.{◌∙◌, sym, subst, arith}
use Rattle.byte_map.specs.Sorted.{IsSorted}
use Rattle.page_map.proofs.Cuts.{sorted_one}
use Rattle.page_map.proofs.renewed.run_end.Goals as goal

pub first_from-place-requires-clause-sorted : goal.first_from-place-requires-clause-sorted
first_from-place-requires-clause-sorted c = subst IsSorted (sym (c.pairs-pairs.ensures.all ∙ c.index-pages-at.is)) (sorted_one c.args.pages.now c.args.at c.index-pages-at.result c.requires (omega (arith, c.if-at-pages.false)))
