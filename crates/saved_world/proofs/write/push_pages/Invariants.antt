use Rattle.std.proofs.Common.{length}
use Rattle.std.specs.FinMap as map
use Rattle.saved_world.specs.inner.Pushes.{ArePushed}
use Rattle.saved_world.proofs.write.push_pages.Given as goal

abbrev pub invariant-loop-pages : goal.invariant-loop-pages
invariant-loop-pages l = ArePushed 1000 l.fn.out.items l.out.items (map.entries l.fn.checkpoint.pairs) l.pages

abbrev pub decreases-loop-pages : goal.decreases-loop-pages
decreases-loop-pages l = length l.pages
