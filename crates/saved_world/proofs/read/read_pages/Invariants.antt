use Rattle.std.proofs.Common.{ℕ, length}
use Rattle.byte_map.specs.Sorted.{IsSorted}
use Rattle.checkpoint_code.specs.Page.{Page}
use Rattle.saved_world.specs.inner.PagesRead.{AreReadTo, AreLeft}
use Rattle.saved_world.proofs.read.read_pages.Given as goal

abbrev pub invariant-loop-part : goal.invariant-loop-part
invariant-loop-part l = record {
  read : AreReadTo l.fn.loading l.fn.bytes l.loading l.rest;
  left : (limit : ℕ) (all : Page) → IsSorted all → AreLeft limit l.fn.loading l.fn.bytes all → AreLeft limit l.loading l.rest all;
}

abbrev pub decreases-loop-part : goal.decreases-loop-part
decreases-loop-part l = length l.rest
