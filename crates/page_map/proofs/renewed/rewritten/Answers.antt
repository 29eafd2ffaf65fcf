use Rattle.std.proofs.Common.{sym, subst}
use Rattle.byte_map.specs.Sorted.{IsSorted}
use Rattle.page_map.proofs.Changes.{sorted_part}
use Rattle.page_map.proofs.renewed.rewritten.Goals as goal

pub write_all-requires : goal.write_all-requires
write_all-requires c = subst IsSorted (sym c.in_ok-pairs.ensures) (sorted_part c.args.pages.now c.args.at c.requires)
