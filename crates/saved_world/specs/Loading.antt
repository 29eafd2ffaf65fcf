-- Cited by the contracts of Loading::begin, Loading::add and Loading::end.
-- What has been read of a checkpoint so far, and what one more page adds to it.
use Rattle.std.specs.Prelude.{◌≡◌, ℕ, List, ◌++◌, Result, Ok, Err, ⊤}
use Rattle.std.specs.FinMap as map
use Rattle.byte_map.specs.Sorted.{IsSorted}
use Rattle.checkpoint.specs.Checkpoint.{Checkpoint}
use Rattle.entry_code.specs.Parts.{pairs_code, ArePairs}
use Rattle.checkpoint_code.specs.Page.{Page, IsPageRead}
use Rattle.checkpoint_code.specs.declared.head.Head.{Head}
use Rattle.checkpoint_code.specs.declared.fault.HeadFault.{HeadFault}
use Rattle.checkpoint_code.specs.declared.fault.PageFault.TheVariants as page
use Rattle.saved_world.specs.declared.fault.LoadFault.{LoadFault}
use Rattle.saved_world.specs.declared.fault.LoadFault.TheVariants.{Page as OfPage, Unordered, Memory}

pub record Loaded : Type 0 where
  pub head : Head
  -- by rising keys
  pub pairs : Page

-- its head, if it is read
abbrev pub read_head : Result Loaded HeadFault → Result Head HeadFault
read_head (Ok loaded) = Ok loaded.head
read_head (Err fault) = Err fault

-- with the pairs of one more page
abbrev pub with_page : Loaded → Page → Loaded
with_page loaded page = record { head = loaded.head; pairs = loaded.pairs ++ page }

-- the checkpoint with this head and these pairs
abbrev pub checkpoint_in : Loaded → Checkpoint
checkpoint_in loaded =
    record {
      place = loaded.head.place;
      moment = loaded.head.moment;
      line = loaded.head.line;
      newest = loaded.head.newest;
      before = loaded.head.before;
      progress = loaded.head.begun;
      pairs = map.from_sorted loaded.pairs;
    }

-- what reading the bytes of a page answers, and what has been read then; each refusal has its reason
abbrev pub IsAdded : Loaded → List ℕ → Result (Unit {0}) LoadFault → Loaded → Type 0
IsAdded old bytes (Ok done) new = (page : Page) × IsPageRead bytes (Ok page) × IsSorted (old.pairs ++ page) × (new ≡ with_page old page)
IsAdded old bytes (Err (OfPage fault)) new = IsPageRead bytes (Err fault) × (new ≡ old)
IsAdded old bytes (Err Unordered) new = (page : Page) × IsPageRead bytes (Ok page) × (¬ (IsSorted (old.pairs ++ page))) × (new ≡ old)
IsAdded old bytes (Err Memory) new = (page : Page) × IsPageRead bytes (Ok page) × IsSorted (old.pairs ++ page) × (new ≡ old)

abbrev pub IsOutOfMemory : LoadFault → Type 0
IsOutOfMemory (OfPage fault) = fault ≡ page.Memory
IsOutOfMemory Unordered = ⊥
IsOutOfMemory Memory = ⊤

-- and the code of a page that goes on where the last one ended is read, unless memory runs out
abbrev pub IsAddAccepted : Loaded → List ℕ → Result (Unit {0}) LoadFault → Loaded → Type 0
IsAddAccepted old bytes (Ok done) new = (page : Page) → ArePairs page → IsSorted (old.pairs ++ page) → bytes ≡ pairs_code page → new ≡ with_page old page
IsAddAccepted old bytes (Err fault) new = (page : Page) → ArePairs page → IsSorted (old.pairs ++ page) → bytes ≡ pairs_code page → IsOutOfMemory fault
