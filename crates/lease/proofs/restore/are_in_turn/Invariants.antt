use Rattle.std.proofs.Common.{◌≡◌, ◌≤◌, drop}
use Rattle.lease.specs.Timeline.{max_moment}
use Rattle.lease.specs.Restored.{are_in_turn}
use Rattle.lease.proofs.restore.are_in_turn.Given as goal

abbrev pub invariant-loop-moment : goal.invariant-loop-moment
invariant-loop-moment l =
    record {
      so_far : are_in_turn l.length l.before (drop l.moment-index l.moments) ≡ are_in_turn l.length l.last l.moments;
      within : l.before ≤ max_moment;
    }
