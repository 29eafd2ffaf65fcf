-- The bytes of a checkpoint of a world are refused only when out of memory.
use Rattle.std.proofs.Common.{◌≡◌, refl}
use Rattle.saved_world.specs.Loaded.{IsLoadOutOfMemory}
use Rattle.saved_world.specs.declared.fault.LoadFault.TheVariants as of_load
use Rattle.saved_world.specs.declared.fault.LoadedFault.{LoadedFault}
use Rattle.saved_world.specs.declared.fault.LoadedFault.TheVariants as loaded
use Rattle.typed_calls.specs.Checkpoints.{load_status}
use Rattle.typed_calls.specs.Statuses.{out_of_memory}

pub out_of_memory_alone : (fault : LoadedFault) → IsLoadOutOfMemory fault → load_status fault ≡ out_of_memory
out_of_memory_alone loaded.Damaged h = absurd h
out_of_memory_alone loaded.Cut h = absurd h
out_of_memory_alone loaded.Trailing h = absurd h
out_of_memory_alone (loaded.Head fault) h = rw h refl
out_of_memory_alone (loaded.Page of_load.Unordered) h = absurd h
out_of_memory_alone (loaded.Page of_load.Memory) h = refl
out_of_memory_alone (loaded.Page (of_load.Page fault)) h = rw h refl
out_of_memory_alone (loaded.Checkpoint fault) h = rw h refl
