-- Cited by the contracts of load, by way of Read.
-- What loading a checkpoint from its parts, which stand one after another, answers.
use Rattle.std.specs.Prelude.{◌≡◌, ◌≢◌, ◌⊎◌, ℕ, List, [], ◌++◌, Result, Ok, Err}
use Rattle.checkpoint.specs.Checkpoint.{Checkpoint}
use Rattle.checkpoint.specs.Sound.{IsSound}
use Rattle.checkpoint_check.specs.Refusals.{Condition, rank}
use Rattle.checkpoint_check.specs.declared.fault.CheckpointFault.TheVariants as checkpoint
use Rattle.collections.specs.Refusal.{IsRefusal}
use Rattle.byte_map.specs.Sorted.{IsSorted}
use Rattle.keycode.specs.Valid.{IsStorable}
use Rattle.checkpoint_code.specs.Head.{IsKnown, IsHeadRead}
use Rattle.checkpoint_code.specs.Page.{Page}
use Rattle.checkpoint_code.specs.declared.fault.HeadFault.TheVariants as head
use Rattle.entry_code.specs.Code.{bytes_code}
use Rattle.saved_world.specs.Loading.{Loaded, checkpoint_in, IsAdded, IsOutOfMemory}
use Rattle.saved_world.specs.Parts.{HasNoPart}
use Rattle.saved_world.specs.Saved.{IsSaved, head_part, pages_code, end_part, joined}
use Rattle.saved_world.specs.declared.fault.LoadedFault.{LoadedFault}
use Rattle.saved_world.specs.declared.fault.LoadedFault.TheVariants.{Damaged, Cut, Trailing, Head as OfHead, Page as OfPage, Checkpoint as OfCheckpoint}

-- the bytes begin with a head and pages, which are these and are read, and others follow
pub record IsReadTo (bytes : List ℕ) (loaded : Loaded) (rest : List ℕ) : Type 0 where
  pub pages : List Page
  pub all : loaded.pairs ≡ joined pages
  pub code : bytes ≡ head_part loaded.head ++ (pages_code pages ++ rest)
  pub known : IsKnown IsStorable loaded.head
  pub sorted : IsSorted loaded.pairs

-- a part after those that were read, and what follows it
abbrev pub HasPartAt : List ℕ → Loaded → List ℕ → List ℕ → Type 0
HasPartAt bytes loaded part more = IsReadTo bytes loaded (bytes_code part ++ more)

-- what is loaded has these bytes as a code, and a world may open from it; each refusal has its reason
abbrev pub IsLoaded : List ℕ → Result Checkpoint LoadedFault → Type 0
IsLoaded bytes (Ok c) = (loaded : Loaded) × IsReadTo bytes loaded end_part × (c ≡ checkpoint_in loaded) × IsSound c
IsLoaded bytes (Err Damaged) = ⊥
IsLoaded bytes (Err Cut) = HasNoPart bytes ⊎ ((loaded : Loaded) × (rest : List ℕ) × IsReadTo bytes loaded rest × HasNoPart rest)
IsLoaded bytes (Err Trailing) = (loaded : Loaded) × (more : List ℕ) × HasPartAt bytes loaded [] more × (more ≢ [])
IsLoaded bytes (Err (OfHead fault)) = (part more : List ℕ) × (bytes ≡ bytes_code part ++ more) × IsHeadRead part (Err fault)
IsLoaded bytes (Err (OfPage fault)) = (loaded : Loaded) × (part more : List ℕ) × HasPartAt bytes loaded part more × IsAdded loaded part (Err fault) loaded
IsLoaded bytes (Err (OfCheckpoint fault)) = (loaded : Loaded) × IsReadTo bytes loaded end_part × IsRefusal rank (Condition (checkpoint_in loaded)) checkpoint.Memory fault

abbrev pub IsLoadOutOfMemory : LoadedFault → Type 0
IsLoadOutOfMemory Damaged = ⊥
IsLoadOutOfMemory Cut = ⊥
IsLoadOutOfMemory Trailing = ⊥
IsLoadOutOfMemory (OfHead fault) = fault ≡ head.Memory
IsLoadOutOfMemory (OfPage fault) = IsOutOfMemory fault
IsLoadOutOfMemory (OfCheckpoint fault) = fault ≡ checkpoint.Memory

-- what gives back this checkpoint, unless memory runs out
abbrev pub GivesBack : Checkpoint → Result Checkpoint LoadedFault → Type 0
GivesBack c (Ok d) = d ≡ c
GivesBack c (Err fault) = IsLoadOutOfMemory fault

-- so it is with the bytes of every checkpoint
abbrev pub IsLoadAccepted : List ℕ → Result Checkpoint LoadedFault → Type 0
IsLoadAccepted bytes result = (limit : ℕ) (c : Checkpoint) → IsSaved limit c bytes → GivesBack c result
