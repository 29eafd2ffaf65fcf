use Rattle.std.proofs.Common.{◌≤◌, ◌<◌}
use Rattle.lease.specs.Timeline.{max_moment}
use Rattle.world.specs.Calls.{effective_moment}
use Rattle.world.specs.State.{facts_of}
use Rattle.rollout.specs.Complete.{IsTooLate}
use Rattle.rollout.specs.Course.{IsCourse}
use Rattle.rollout.specs.Left.{all_left}
use Rattle.rollout.proofs.Carried.{IsCarried}
use Rattle.rollout.proofs.completion.complete.Given as goal

abbrev pub invariant-acts : goal.invariant-acts
invariant-acts l = record {
  course : IsCourse l.fn.pieces l.fn.limit l.fn.world (effective_moment l.fn.world l.fn.moment) l.world l.now;
  carried : IsCarried l.fn.pieces l.fn.limit l.fn.world l.world;
  past : (facts_of l.world).moment ≤ l.now;
  since : effective_moment l.fn.world l.fn.moment ≤ l.now;
  late : max_moment < l.now → IsTooLate l.fn.world l.fn.moment l.world;
}

abbrev pub decreases-acts : goal.decreases-acts
decreases-acts l = all_left (facts_of l.world) l.now
