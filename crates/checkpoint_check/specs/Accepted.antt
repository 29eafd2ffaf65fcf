-- Cited by the contracts of logs_are_accepted.
-- Which checkpoints are never refused but when out of memory.
use Rattle.std.specs.Prelude.{◌≡◌, ℕ, List}
use Rattle.collections.specs.Refusal.{IsRefusal}
use Rattle.lease.specs.Timeline.{IsLength}
use Rattle.schema_version.specs.Sound.{IsSoundVersion}
use Rattle.replay.specs.declared.entry.Entry.{Entry}
use Rattle.replay.specs.Headline.{AllFollow}
use Rattle.replay.specs.Kept.{IsKept}
use Rattle.replay.specs.Replay.{Opening, Facts, start}
use Rattle.checkpoint.specs.Checkpoint.{Checkpoint, checkpoint_of}
use Rattle.checkpoint.specs.Cut.{cut_after}
use Rattle.checkpoint_check.specs.declared.fault.CheckpointFault.{CheckpointFault}
use Rattle.checkpoint_check.specs.declared.fault.CheckpointFault.TheVariants.{Memory}
use Rattle.checkpoint_check.specs.Refusals.{rank, Condition}

-- a refusal of the checkpoint can only be for memory
abbrev pub IsAccepted : Checkpoint → Type 0
IsAccepted checkpoint = (fault : CheckpointFault) → IsRefusal rank (Condition checkpoint) Memory fault → fault ≡ Memory

-- the checkpoint of whatever a world keeps
abbrev pub KeptIsAccepted : Type 0
KeptIsAccepted = (facts : Facts) (place : ℕ) → IsKept facts → IsAccepted (checkpoint_of place facts)

-- and so that of any log
abbrev pub LogsAreAccepted : Type 0
LogsAreAccepted = (opening : Opening) (log : List Entry) → IsLength opening.length → IsSoundVersion opening.schema → AllFollow (start opening) log → IsAccepted (cut_after opening log)
