-- Cited by the contracts of World::is_settled, World::progress, World::piece_progress, World::run and 11 more.
-- The state of the core: the checkpoint that it was opened at, its log and its pairs; and what the log says of it.
use Rattle.std.specs.Prelude.{◌≡◌, ℕ, ◌+◌, ◌-◌, ◌==◌, ◌||◌, List, [], ◌∷◌, ◌++◌, drop, length, Option, Some, None, if◌then◌else◌}
use Rattle.lease.specs.Timeline.{IsUsable, newest as newest_number}
use Rattle.row_map.specs.Rows.{Pairs}
use Rattle.schema_version.specs.Version.{Version}
use Rattle.element_state.specs.Consistent.{IsConsistent}
use Rattle.replay.specs.declared.entry.Entry.{Entry}
use Rattle.replay.specs.Replay.{Facts, after_all, pairs_by, version_at}
use Rattle.checkpoint_check.specs.Checkpoint.{Checkpoint, said_by}

pub record State : Type 0 where
  pub opening : Checkpoint
  pub log : List Entry
  -- how many of its entries are no longer in memory
  pub cut : ℕ
  pub pairs : Pairs

-- how many entries there were ever, up to here: those before the opening, and those of the log
abbrev pub entry_count : State → ℕ
entry_count state = state.opening.place + length state.log

-- what is read off the log
abbrev pub facts_of : State → Facts
facts_of state = after_all (said_by state.opening) state.log

abbrev pub opened : Checkpoint → State
opened opening = record { opening = opening; log = []; cut = 0; pairs = opening.pairs }

-- the state with one entry more
abbrev pub effect : State → Entry → State
effect state entry = record { opening = state.opening; log = state.log ++ entry ∷ []; cut = state.cut; pairs = pairs_by (facts_of state) state.pairs entry.what }

-- the state when the entries so far are no longer in memory
abbrev pub cut_here : State → State
cut_here state = record { opening = state.opening; log = state.log; cut = length state.log; pairs = state.pairs }

-- how many entries there were ever before those that are still in memory, and these
abbrev pub entries_before : State → ℕ
entries_before state = state.opening.place + state.cut

abbrev pub entries_kept : State → List Entry
entries_kept state = drop state.cut state.log

-- the state when of these all but the last so many are no longer in memory
abbrev pub cut_but : ℕ → State → State
cut_but keep state = record { opening = state.opening; log = state.log; cut = state.cut + (length (entries_kept state) - keep); pairs = state.pairs }

-- the newest version, and the one before it
abbrev pub recent : Facts → ℕ → Option Version
recent facts number = if (number == newest_number facts.line) || (number + 1 == newest_number facts.line) then version_at facts number else None

-- the pairs are those that the log gives
abbrev pub IsReplayed : State → Type 0
IsReplayed state = state.pairs ≡ (facts_of state).pairs

-- the theorem: for every version that a lease may still use, each element has the pairs that its state demands, by the rows of the log
abbrev pub Agrees : State → Type 0
Agrees state =
    (number : ℕ) (version : Version) → IsUsable (facts_of state).line number (facts_of state).moment → version_at (facts_of state) number ≡ Some version
    → IsConsistent version (facts_of state).rows state.pairs
