use Rattle.checkpoint_check.proofs.Tests.{elements_decided}
use Rattle.checkpoint_check.proofs.Versions.{same_kinds}
use Rattle.checkpoint_check.proofs.parts.are_elements_sound.Goals as goal

pub returns-clause-sound : goal.returns-clause-sound
returns-clause-sound c = elements_decided c.args.before.now c.args.newest.now c.are_beside-beside.result c.lemma_known.ensures c.lemma_known-2.ensures c.are_beside-beside.ensures

pub returns-clause-kinds : goal.returns-clause-kinds
returns-clause-kinds c = λ yes. same_kinds c.args.before.now c.args.newest.now c.lemma_known.ensures c.lemma_known-2.ensures (c.are_beside-beside.ensures.0 yes)
