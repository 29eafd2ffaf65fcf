use Rattle.std.proofs.Common.{◌≡◌, ◌≤◌, length, vec_capacity}
use Rattle.world.specs.Run.{Runs}
use Rattle.world.proofs.world.World.run.Given as goal

abbrev pub invariant-loop-event : goal.invariant-loop-event
invariant-loop-event l = record {
  ran : Runs l.fn.self l.yielded l.replies.items l.self;
  many : length l.replies.items ≡ length l.yielded;
  room : vec_capacity l.initial.replies ≤ vec_capacity l.replies;
}
