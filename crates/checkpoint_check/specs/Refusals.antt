-- Cited by the contracts of check.
-- When a checkpoint is refused.
use Rattle.std.specs.Prelude.{ℕ}
use Rattle.checkpoint.specs.Checkpoint.{Checkpoint}
use Rattle.checkpoint.specs.Sound.{AreSoundVersions, AreSoundElements, AreSoundPairs, AreSoundReorganisations, beside}
use Rattle.checkpoint_check.specs.declared.fault.CheckpointFault.{CheckpointFault}
use Rattle.checkpoint_check.specs.declared.fault.CheckpointFault.TheVariants.{BadVersions, BadElements, BadPairs, BadReorganisations, Memory}

-- the order of the refusals; nothing is allocated before the pairs are gone over
abbrev pub rank : CheckpointFault → ℕ
rank BadVersions = 0
rank BadElements = 1
rank BadPairs = 2
rank Memory = 2
rank BadReorganisations = 3

-- when each refusal is due
abbrev pub Condition : Checkpoint → CheckpointFault → Type 0
Condition checkpoint BadVersions = ¬ (AreSoundVersions checkpoint.moment checkpoint.line checkpoint.before)
Condition checkpoint BadElements = ¬ (AreSoundElements (beside checkpoint) checkpoint.newest)
Condition checkpoint BadPairs = ¬ (AreSoundPairs (beside checkpoint) checkpoint.newest checkpoint.pairs)
Condition checkpoint BadReorganisations = ¬ (AreSoundReorganisations (beside checkpoint) checkpoint.newest checkpoint.pairs checkpoint.progress)
Condition checkpoint Memory = ⊥
