-- Cited by the contracts of checkpoint, saved, world_at, open_at and of what they call.
-- The checkpoint of a world, its bytes, and a world that opens there.
use Rattle.std.specs.Prelude.{◌≡◌, ℕ, ℤ, List, Result, Ok, Err}
use Rattle.checkpoint.specs.Checkpoint.{Checkpoint, checkpoint_of}
use Rattle.checkpoint_check.specs.declared.fault.CheckpointFault.TheVariants as of_checkpoint
use Rattle.checkpoint_code.specs.declared.fault.HeadFault.TheVariants as of_head
use Rattle.checkpoint_code.specs.declared.fault.PageFault.TheVariants as of_page
use Rattle.digested_bytes.specs.Whole.{HasMarker}
use Rattle.saved_world.specs.Saved.{IsSaved, IsSavedWhole}
use Rattle.saved_world.specs.Read.{IsRead}
use Rattle.saved_world.specs.declared.fault.LoadFault.TheVariants as of_load
use Rattle.saved_world.specs.declared.fault.LoadedFault.{LoadedFault}
use Rattle.saved_world.specs.declared.fault.LoadedFault.TheVariants as loaded
use Rattle.script_session.specs.State.{State, entry_count, facts_of, opened}
use Rattle.typed_calls.specs.Statuses.{bad_code, out_of_memory}
use Rattle.typed_calls.specs.declared.bounded.BoundedWorld.{BoundedWorld}

-- the checkpoint of the world's log, unless memory ran out
abbrev pub TakesOf : State → Result Checkpoint ℤ → Type 0
TakesOf world (Ok checkpoint) = checkpoint ≡ checkpoint_of (entry_count world) (facts_of world)
TakesOf world (Err status) = status ≡ out_of_memory

-- its bytes, in pages of at most 1,000 pairs, with their digest
abbrev pub Saves : Checkpoint → Result (List ℕ) ℤ → Type 0
Saves checkpoint (Ok bytes) = IsSavedWhole 1000 checkpoint bytes
Saves checkpoint (Err status) = status ≡ out_of_memory

abbrev pub load_status : LoadedFault → ℤ
load_status (loaded.Head of_head.Memory) = out_of_memory
load_status (loaded.Page of_load.Memory) = out_of_memory
load_status (loaded.Page (of_load.Page of_page.Memory)) = out_of_memory
load_status (loaded.Checkpoint of_checkpoint.Memory) = out_of_memory
load_status _ = bad_code

-- a world that opens at the checkpoint, with this furthest jump
abbrev pub bounded_at : Checkpoint → ℕ → BoundedWorld
bounded_at checkpoint furthest = record { world = opened checkpoint; furthest = furthest }

-- at the checkpoint whose bytes these are, or the status of why they are not loaded
abbrev pub OpensAt : List ℕ → ℕ → Result BoundedWorld ℤ → Type 0
OpensAt bytes furthest (Ok bounded) = (checkpoint : Checkpoint) × IsRead bytes (Ok checkpoint) × (bounded ≡ bounded_at checkpoint furthest)
OpensAt bytes furthest (Err status) = (fault : LoadedFault) × IsRead bytes (Err fault) × (status ≡ load_status fault)

-- the bytes of a checkpoint open there, unless memory runs out
abbrev pub OpensBack : Checkpoint → ℕ → Result BoundedWorld ℤ → Type 0
OpensBack checkpoint furthest (Ok bounded) = bounded ≡ bounded_at checkpoint furthest
OpensBack checkpoint furthest (Err status) = status ≡ out_of_memory

-- also those of earlier releases, which have no digest and do not begin with the marker
pub record OpensSaved (bytes : List ℕ) (furthest : ℕ) (answer : Result BoundedWorld ℤ) : Type 0 where
  pub whole : (limit : ℕ) (checkpoint : Checkpoint) → IsSavedWhole limit checkpoint bytes → OpensBack checkpoint furthest answer
  pub plain : (limit : ℕ) (checkpoint : Checkpoint) → (HasMarker bytes → ⊥) → IsSaved limit checkpoint bytes → OpensBack checkpoint furthest answer
