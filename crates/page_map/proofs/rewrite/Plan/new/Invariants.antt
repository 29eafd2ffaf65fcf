use Rattle.std.proofs.Common.{◌≡◌, ◌++◌, ◌≤◌, ◌<◌, ◌-◌, length, drop, reverse}
use Rattle.byte_map.specs.Sorted.{changed_all}
use Rattle.page_map.specs.Pages.{joined}
use Rattle.page_map.specs.inner.Plan.{made, IsPlan}
use Rattle.page_map.proofs.rewrite.Plan.new.Given as goal

abbrev pub invariant-loop-done : goal.invariant-loop-done
invariant-loop-done l = record {
  plan : IsPlan l.pages l.plan;
  base : l.plan.base ≡ l.len;
  in_range : l.done ≤ length l.writes;
  ahead : l.done < length l.writes → l.plan.reach ≤ length l.pages;
  whole : joined (made l.pages (reverse l.plan.pieces.items)) ++ changed_all (joined (drop l.plan.reach l.pages)) (drop l.done l.writes) ≡ changed_all (joined l.pages) l.writes;
}

abbrev pub decreases-loop-done : goal.decreases-loop-done
decreases-loop-done l = length l.writes - l.done
