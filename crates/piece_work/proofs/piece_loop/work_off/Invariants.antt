use Rattle.std.proofs.Common.{◌-◌, ◌^◌}
use Rattle.piece_work.specs.WorkOff.{Rounds}
use Rattle.piece_work.proofs.piece_loop.work_off.Given as goal

abbrev pub invariant-loop-view : goal.invariant-loop-view
invariant-loop-view l = Rounds l.commits l.fn.world l.element l.moment l.limit l.world

-- a commit is counted
abbrev pub decreases-loop-view : goal.decreases-loop-view
decreases-loop-view l = 2 ^ 64 - l.commits
