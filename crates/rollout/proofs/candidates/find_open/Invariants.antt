use Rattle.std.proofs.Common.{take}
use Rattle.world.specs.State.{facts_of}
use Rattle.rollout.specs.Due.{IsOpen}
use Rattle.rollout.proofs.Searches.{NoneIn}
use Rattle.rollout.proofs.candidates.find_open.Given as goal

abbrev pub invariant-loop-element : goal.invariant-loop-element
invariant-loop-element l = NoneIn (IsOpen (facts_of l.world)) (take l.element-index l.element-items)
