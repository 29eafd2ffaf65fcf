-- Cited by the contracts of world::World::lemma_agrees.
-- What every log of accepted calls keeps, of which the agreement of the pairs with the rows is a part.
use Rattle.std.specs.Prelude.{◌≡◌, ◌≢◌, ℕ, ◌≤◌, List, [], ◌∷◌, length, Some, true, nat_lt, if◌then◌else◌}
use Rattle.std.specs.List.{AllByRecursion}
use mathlib.Core.List.{map as each}
use Rattle.std.specs.FinMap.{FinMap, from_entries}
use Rattle.std.specs.Ordering.{nat_cmp, is_le}
use Rattle.keycode.specs.Order.{bytes_cmp}
use Rattle.lease.specs.Timeline.{IsValid, IsUsable, earliest, last_publication, newest as newest_number}
use Rattle.schema_version.specs.Edges.{wanted_work}
use Rattle.schema_version.specs.Version.{Version, element_at}
use Rattle.schema_version.specs.Sound.{IsSoundVersion}
use Rattle.element_state.specs.Consistent.{IsConsistent, AreLawfulRows}
use Rattle.element_state.specs.Core.{Core, Invariant}
use Rattle.element_state.specs.Core as core
use Rattle.element_state.specs.Versions.{ElementKind, the_kinds, schema_of}
use Rattle.reorganise.specs.declared.work.Span.{Span}
use Rattle.reorganise.specs.declared.work.Progress.{Progress}
use Rattle.reorganise.specs.ScanRanges.{scan_range_of, start, end}
use Rattle.reorganise.specs.Partition.{AreJoined}
use Rattle.reorganise.specs.Laws.{passed_by, HasBounds}
use Rattle.replay.specs.Replay.{Facts, before_of, version_at, progress_of}

-- ---- the core as the elements' laws see it

abbrev pub passed : Progress → core.CoreProgress
passed progress = record { work = progress.kind; spans = passed_by progress.pieces }

abbrev pub all_passed : List Progress → FinMap nat_cmp core.CoreProgress
all_passed begun = from_entries (each (λ (p : Progress). (p.element.number, passed p)) begun)

-- the version before the newest, as long as a lease on it may be in force; then the newest
abbrev pub used_before : Facts → ℕ → Version
used_before facts now = if nat_lt now (earliest facts.line) then before_of facts else facts.newest

abbrev pub core_at : Facts → ℕ → Core ElementKind
core_at facts now =
    record {
      before = schema_of (used_before facts now);
      newest = schema_of facts.newest;
      next = facts.newest.next;
      progress = all_passed facts.progress;
      pairs = facts.pairs;
      rows = facts.rows;
    }

-- ---- what is kept

-- a begun reorganisation is what its element wants, and its pieces share the range
pub record IsBegun (newest : Version) (progress : Progress) : Type 0 where
  pub element : element_at newest progress.element.number ≡ Some progress.element
  pub wanted_so : wanted_work progress.element ≡ Some progress.kind
  pub joined : AreJoined (start (scan_range_of progress.element progress.kind)) (end (scan_range_of progress.element progress.kind)) progress.pieces
  pub bounds : AllByRecursion (HasBounds (scan_range_of progress.element progress.kind)) progress.pieces

-- of another element
abbrev pub IsOfAnother : Progress → Progress → Type 0
IsOfAnother one other = other.element.number ≢ one.element.number

-- no two are of one element
abbrev pub AreOfDifferentElements : List Progress → Type 0
AreOfDifferentElements [] = Unit {0}
AreOfDifferentElements (one ∷ others) = AllByRecursion (IsOfAnother one) others × AreOfDifferentElements others

-- the cursor does not stand past the upper bound
abbrev pub IsInPiece : Span → Type 0
IsInPiece piece = is_le (bytes_cmp piece.cursor piece.high) ≡ true

-- nor before the lower one
abbrev pub IsReached : Span → Type 0
IsReached piece = is_le (bytes_cmp piece.low piece.cursor) ≡ true

pub record IsInPieces (progress : Progress) : Type 0 where
  pub few : length progress.pieces ≤ 64
  pub cursors : AllByRecursion IsInPiece progress.pieces
  pub reached : AllByRecursion IsReached progress.pieces

-- so it is with the begun reorganisation of each element
abbrev pub AreInPieces : List Progress → Type 0
AreInPieces begun = (number : ℕ) (progress : Progress) → progress_of begun number ≡ Some progress → IsInPieces progress

pub record IsKept (facts : Facts) : Type 0 where
  -- a version for each publication
  pub counted : length (facts.newest ∷ facts.older) ≡ newest_number facts.line
  pub valid : IsValid facts.line
  pub since : last_publication facts.line ≤ facts.moment
  -- the usable versions are sound
  pub sound : IsSoundVersion facts.newest
  pub sound_before : IsSoundVersion (used_before facts facts.moment)
  pub tables : (used_before facts facts.moment).tables ≡ facts.newest.tables
  -- each element has the pairs that its state demands, in both
  pub core_kept : Invariant the_kinds (core_at facts facts.moment)
  -- the rows are of their tables and types
  pub rows : AreLawfulRows facts.newest facts.rows
  pub rows_before : AreLawfulRows (used_before facts facts.moment) facts.rows
  pub begun : AllByRecursion (IsBegun facts.newest) facts.progress
  pub different : AreOfDifferentElements facts.progress
  pub in_pieces : AreInPieces facts.progress

-- for every usable version, each element has the pairs that its state demands, by the rows of the log
abbrev pub FactsAgree : Facts → Type 0
FactsAgree facts =
    (number : ℕ) (version : Version) → IsUsable facts.line number facts.moment → version_at facts number ≡ Some version
    → IsConsistent version facts.rows facts.pairs
