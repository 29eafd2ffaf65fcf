use Rattle.std.proofs.Common.{take}
use Rattle.replay.specs.Laws.{AreFinished}
use Rattle.world.specs.State.{facts_of}
use Rattle.world.proofs.world.World.first_unfinished.Given as goal

abbrev pub invariant-loop-change : goal.invariant-loop-change
invariant-loop-change l = AreFinished (facts_of l.self) (take l.change-index l.step)
