use Rattle.std.proofs.Common.{sym, subst, rules}
use Rattle.std.proofs.lemmas.List.{take_all}
use Rattle.replay.specs.Laws.{AreFinished}
use Rattle.world.specs.State.{facts_of}
use Rattle.world.proofs.Awaited.{first_lacking, one_more}
use Rattle.world.proofs.world.World.first_unfinished.Goals as goal

pub returns-in-Some : goal.returns-in-Some
returns-in-Some c = first_lacking (facts_of c.args.self.now) c.args.step.now c.loop-change.change-index c.change-item.result c.in-Some.number c.loop-change-test.true (sym c.change-item.is) c.loop-change.invariant c.in-Some.ensures

pub loop-change-preserved : goal.loop-change-preserved
loop-change-preserved c = one_more (facts_of c.args.self.now) c.args.step.now c.loop-change.change-index c.change-item.result c.loop-change-test.true (sym c.change-item.is) c.loop-change.invariant (search rules)

pub returns : goal.returns
returns c = subst (AreFinished (facts_of c.args.self.now)) (take_all c.loop-change.change-index c.args.step.now c.loop-change-test.false) c.loop-change.invariant
