-- Cited by the contracts of lemma_sound_is_whole, checkpoint_check::check.
-- What has to be tested of a checkpoint from outside: a world may open from it if and only if it is sound.
use Rattle.std.specs.Prelude.{◌≡◌, ◌≢◌, ℕ, ◌≤◌, List, Option, Some, None, nat_lt, if◌then◌else◌}
use Rattle.std.specs.FinMap as map
use Rattle.std.specs.List.{AllByRecursion}
use Rattle.lease.specs.Timeline.{Timeline, IsValid, earliest, last_publication, newest as newest_number}
use Rattle.row_map.specs.Rows.{Pairs}
use Rattle.schema_version.specs.declared.element.ElementState.TheVariants.{Public}
use Rattle.schema_version.specs.Sound.{IsSoundVersion}
use Rattle.schema_version.specs.Version.{Version}
use Rattle.element_state.specs.Consistent.{IsConsistent}
use Rattle.element_state.specs.Core.{CoreProgress, JoinedAt, NeverPublic, Reached}
use Rattle.element_state.specs.Schemas.{state_of}
use Rattle.element_state.specs.Versions.{the_kinds, schema_of}
use Rattle.reorganise.specs.declared.work.Progress.{Progress}
use Rattle.replay.specs.Replay.{Facts}
use Rattle.replay.specs.Kept.{IsKept, IsBegun, AreOfDifferentElements, AreInPieces, all_passed}
use Rattle.checkpoint.specs.Stored.{stored_rows}
use Rattle.checkpoint.specs.Checkpoint.{Checkpoint, IsWhole, checkpoint_of}

-- ---- the version that counts beside the newest

-- the version before the newest, as long as a lease on it may be in force
abbrev pub usable_before : ℕ → Timeline → Option Version → Option Version
usable_before moment line before = if nat_lt moment (earliest line) then before else None

abbrev pub before_or : Version → Option Version → Version
before_or newest None = newest
before_or newest (Some before) = before

abbrev pub beside : Checkpoint → Version
beside checkpoint = before_or checkpoint.newest (usable_before checkpoint.moment checkpoint.line checkpoint.before)

-- ---- the parts of a checkpoint

-- there is a version before the newest if and only if two were published
abbrev pub IsCounted : Option Version → ℕ → Type 0
IsCounted None published = published ≡ 1
IsCounted (Some before) published = 2 ≤ published

-- the timeline, on which nothing was published after the moment, and as many versions as the checkpoint needs of those
pub record AreSoundVersions (moment : ℕ) (line : Timeline) (before : Option Version) : Type 0 where
  pub valid : IsValid line
  pub past : last_publication line ≤ moment
  pub counted : IsCounted before (newest_number line)

-- the two versions, each by itself and beside the other
pub record AreSoundElements (before newest : Version) : Type 0 where
  pub newest_sound : IsSoundVersion newest
  pub before_sound : IsSoundVersion before
  pub tables : before.tables ≡ newest.tables
  pub joined : (n : ℕ) → JoinedAt the_kinds n (map.get (schema_of before) n) (map.get (schema_of newest) n)
  pub hidden : (n : ℕ) → NeverPublic the_kinds newest.next n (map.get (schema_of newest) n) → state_of (map.get (schema_of before) n) ≢ Public

-- the pairs, by the rows that they store: an audit by each of the two versions
pub record AreSoundPairs (before newest : Version) (pairs : Pairs) : Type 0 where
  pub by_newest : IsConsistent newest (stored_rows newest pairs) pairs
  pub by_before : IsConsistent before (stored_rows newest pairs) pairs

-- the begun reorganisations: one of an element, each what its element wants, and what they have passed is done
pub record AreSoundReorganisations (before newest : Version) (pairs : Pairs) (begun : List Progress) : Type 0 where
  pub are_begun : AllByRecursion (IsBegun newest) begun
  pub different : AreOfDifferentElements begun
  pub in_pieces : AreInPieces begun
  pub passed : (n : ℕ) (p : CoreProgress) → map.get (all_passed begun) n ≡ Some p → Reached the_kinds n p (schema_of before) (schema_of newest) pairs (stored_rows newest pairs)

pub record IsSound (checkpoint : Checkpoint) : Type 0 where
  pub versions : AreSoundVersions checkpoint.moment checkpoint.line checkpoint.before
  pub elements : AreSoundElements (beside checkpoint) checkpoint.newest
  pub pairs : AreSoundPairs (beside checkpoint) checkpoint.newest checkpoint.pairs
  pub reorganisations : AreSoundReorganisations (beside checkpoint) checkpoint.newest checkpoint.pairs checkpoint.progress

-- ---- what that suffices for

abbrev pub SoundIsWhole : Type 0
SoundIsWhole = (checkpoint : Checkpoint) → IsSound checkpoint → IsWhole checkpoint

-- and no less
abbrev pub WholeIsSound : Type 0
WholeIsSound = (checkpoint : Checkpoint) → IsWhole checkpoint → IsSound checkpoint

-- so the checkpoint of any log is sound
abbrev pub CheckpointsAreSound : Type 0
CheckpointsAreSound = (facts : Facts) (place : ℕ) → IsKept facts → IsSound (checkpoint_of place facts)
