-- Cited by the contracts of Locked, Shared::close.
-- The states that a world behind the lock may have.
use Rattle.std.specs.Prelude.{◌≡◌, ℕ, ◌≤◌, List, ◌++◌}
use Rattle.replay.specs.Kept.{IsKept}
use Rattle.replay.specs.declared.entry.Entry.{Entry}
use Rattle.rollout.specs.State.{State, entry_count, facts_of, IsReplayed, Agrees}

-- the state that the world had when it was shared, with more entries or none
pub record GrewFrom (start core : State) : Type 0 where
  pub opened : core.opening ≡ start.opening
  pub more : List Entry
  pub log : core.log ≡ start.log ++ more

-- a core of a shared world: its log goes on from the one at the start; its pairs are the replay of its log and agree with the rows for each
-- version that a lease may still use; and all that this rests on is kept
pub record IsCore (start core : State) : Type 0 where
  pub grew : GrewFrom start core
  pub replayed : IsReplayed core
  pub agrees : Agrees core
  pub kept : IsKept (facts_of core)

-- a core that has at least as many entries as a handle of this front has seen
pub record IsCoreSince (start : State) (front : ℕ) (core : State) : Type 0 where
  pub is_core : IsCore start core
  pub since : front ≤ entry_count core

-- some core had this many entries
abbrev pub WasLength : State → ℕ → Type 0
WasLength start seen = (core : State) × IsCore start core × (entry_count core ≡ seen)
