-- A sound checkpoint is refused only when out of memory.
use Rattle.std.specs.Prelude.{◌≡◌, List, length, refl}
use Rattle.std.proofs.Common.{inl, inr}
use Rattle.collections.specs.Refusal.{IsRefusal}
use Rattle.replay.specs.Replay.{start}
use Rattle.replay.proofs.Follows.{log_kept}
use Rattle.replay.proofs.Time.{opened_kept}
use Rattle.checkpoint.specs.Checkpoint.{Checkpoint, checkpoint_of}
use Rattle.checkpoint.specs.Sound.{IsSound}
use Rattle.checkpoint.proofs.Sound.{checkpoints_are_sound}
use Rattle.checkpoint_check.specs.declared.fault.CheckpointFault.{CheckpointFault}
use Rattle.checkpoint_check.specs.declared.fault.CheckpointFault.TheVariants.{BadVersions, BadElements, BadPairs, BadReorganisations, Memory}
use Rattle.checkpoint_check.specs.Refusals.{rank, Condition}
use Rattle.checkpoint_check.specs.Accepted.{IsAccepted, KeptIsAccepted, LogsAreAccepted}

none_due : (c : Checkpoint) → IsSound c → (fault : CheckpointFault) → ¬ (Condition c fault)
none_due c s BadVersions bad = bad s.versions
none_due c s BadElements bad = bad s.elements
none_due c s BadPairs bad = bad s.pairs
none_due c s BadReorganisations bad = bad s.reorganisations
none_due c s Memory bad = bad

sound_accepted : (c : Checkpoint) → IsSound c → IsAccepted c
sound_accepted c s fault refusal = elim refusal.0 [
  | inl memory ↦ memory
  | inr due ↦ absurd (none_due c s fault due)
]

pub kept_is_accepted : KeptIsAccepted
kept_is_accepted facts place kept = sound_accepted (checkpoint_of place facts) (checkpoints_are_sound facts place kept)

pub logs_are_accepted : LogsAreAccepted
logs_are_accepted opening log within sound follow = kept_is_accepted _ (length log) (log_kept (start opening) log follow (opened_kept opening within sound))
