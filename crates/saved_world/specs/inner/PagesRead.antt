-- Cited by private functions alone: read_pages.
-- Pages read until the empty part.
use Rattle.std.specs.Prelude.{◌≡◌, ◌≢◌, ℕ, List, [], ◌++◌, Result, Ok, Err}
use Rattle.std.specs.List.{AllByRecursion}
use Rattle.byte_map.specs.Sorted.{IsSorted}
use Rattle.checkpoint_code.specs.Page.{Page}
use Rattle.entry_code.specs.Code.{bytes_code}
use Rattle.saved_world.specs.Loading.{Loaded, with_page, IsAdded}
use Rattle.saved_world.specs.Loaded.{IsLoadOutOfMemory}
use Rattle.saved_world.specs.Parts.{HasNoPart}
use Rattle.saved_world.specs.Saved.{IsPageOf, pages_code, end_part, joined}
use Rattle.saved_world.specs.declared.fault.LoadedFault.{LoadedFault}
use Rattle.saved_world.specs.declared.fault.LoadedFault.TheVariants.{Damaged, Cut, Trailing, Head as OfHead, Page as OfPage, Checkpoint as OfCheckpoint}

abbrev pub with_pages : Loaded → List Page → Loaded
with_pages loaded pages = with_page loaded (joined pages)

-- these pages were read, and bytes are left
pub record AreReadTo (old : Loaded) (bytes : List ℕ) (now : Loaded) (rest : List ℕ) : Type 0 where
  pub pages : List Page
  pub is : now ≡ with_pages old pages
  pub code : bytes ≡ pages_code pages ++ rest
  pub sorted : IsSorted old.pairs → IsSorted now.pairs

-- what reading them answers
abbrev pub ArePagesRead : Loaded → List ℕ → Result (Unit {0}) LoadedFault → Loaded → Type 0
ArePagesRead old bytes (Ok done) new = AreReadTo old bytes new end_part
ArePagesRead old bytes (Err Damaged) new = ⊥
ArePagesRead old bytes (Err Cut) new = (rest : List ℕ) × AreReadTo old bytes new rest × HasNoPart rest
ArePagesRead old bytes (Err Trailing) new = (more : List ℕ) × AreReadTo old bytes new (end_part ++ more) × (more ≢ [])
ArePagesRead old bytes (Err (OfPage fault)) new = (part more : List ℕ) × AreReadTo old bytes new (bytes_code part ++ more) × IsAdded new part (Err fault) new
ArePagesRead old bytes (Err (OfHead fault)) new = ⊥
ArePagesRead old bytes (Err (OfCheckpoint fault)) new = ⊥

-- pages that were written, and what was read
pub record AreLeft (limit : ℕ) (now : Loaded) (rest : List ℕ) (all : Page) : Type 0 where
  pub left : List Page
  pub are_pages : AllByRecursion (IsPageOf limit) left
  pub joins : now.pairs ++ joined left ≡ all
  pub code : rest ≡ pages_code left ++ end_part

abbrev pub GivesAll : Page → Result (Unit {0}) LoadedFault → Loaded → Type 0
GivesAll all (Ok done) new = new.pairs ≡ all
GivesAll all (Err fault) new = IsLoadOutOfMemory fault

-- what was written is read, unless memory runs out
abbrev pub ArePagesAccepted : Loaded → List ℕ → Result (Unit {0}) LoadedFault → Loaded → Type 0
ArePagesAccepted old bytes result new = (limit : ℕ) (all : Page) → IsSorted all → AreLeft limit old bytes all → GivesAll all result new
