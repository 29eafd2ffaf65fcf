-- Cited by the contracts of save and load.
-- A checkpoint as one list of bytes: its parts, each after its length, the head first and an empty part at the end, with a digest.
use Rattle.std.specs.Prelude.{◌≡◌, ℕ, ◌≤◌, List, [], ◌++◌, length}
use Rattle.std.specs.List.{AllByRecursion, flat_map}
use Rattle.std.specs.FinMap as map
use Rattle.keycode.specs.Valid.{IsStorable}
use Rattle.checkpoint.specs.Checkpoint.{Checkpoint, IsWhole}
use Rattle.entry_code.specs.Code.{bytes_code}
use Rattle.entry_code.specs.Known.{IsByteString}
use Rattle.entry_code.specs.Parts.{pairs_code, ArePairs}
use Rattle.checkpoint_code.specs.Head.{head_code, IsKnown}
use Rattle.checkpoint_code.specs.Page.{Page}
use Rattle.checkpoint_code.specs.declared.head.Head.{Head}
use Rattle.digested_bytes.specs.Whole.{IsWithDigest}
use Rattle.saved_world.specs.Head.{head_of}

abbrev pub page_part : Page → List ℕ
page_part page = bytes_code (pairs_code page)

abbrev pub pages_code : List Page → List ℕ
pages_code pages = flat_map page_part pages

abbrev pub head_part : Head → List ℕ
head_part head = bytes_code (head_code head)

-- no page is empty, so an empty part is the end
abbrev pub end_part : List ℕ
end_part = bytes_code []

-- the pairs of all pages
abbrev pub joined : List Page → Page
joined pages = flat_map (λ (page : Page). page) pages

-- a page of 1 to so many pairs
pub record IsPageOf (limit : ℕ) (page : Page) : Type 0 where
  pub some : 1 ≤ length page
  pub few : length page ≤ limit
  pub known : ArePairs page
  pub short : IsByteString (pairs_code page)

-- the parts of a checkpoint, in pages of at most so many pairs
pub record IsSaved (limit : ℕ) (checkpoint : Checkpoint) (bytes : List ℕ) : Type 0 where
  pub pages : List Page
  pub are_pages : AllByRecursion (IsPageOf limit) pages
  pub all : joined pages ≡ map.entries checkpoint.pairs
  pub code : bytes ≡ head_part (head_of checkpoint) ++ (pages_code pages ++ end_part)
  pub head_short : IsByteString (head_code (head_of checkpoint))
  pub head_known : IsKnown IsStorable (head_of checkpoint)
  pub whole : IsWhole checkpoint

-- the same with their digest
abbrev pub IsSavedWhole : ℕ → Checkpoint → List ℕ → Type 0
IsSavedWhole limit checkpoint bytes = (parts : List ℕ) × IsSaved limit checkpoint parts × IsWithDigest parts bytes
