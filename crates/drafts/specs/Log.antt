-- Cited by the definitions of Laws.
-- The log that a store mirrors, in no memory: what `replay` has entries for, and begins in pieces at given keys, for which it has none.
use Rattle.std.specs.Prelude.{ℕ, ◌≤◌, List, [], ◌∷◌}
use Rattle.lease.specs.Timeline.{IsLength}
use Rattle.schema_version.specs.Sound.{IsSoundVersion}
use Rattle.reorganise.specs.declared.work.Progress.{Progress}
use Rattle.replay.specs.declared.entry.Entry.{Entry}
use Rattle.replay.specs.Headline.{MayFollow}
use Rattle.replay.specs.Kept.{FactsAgree}
use Rattle.replay.specs.Replay.{Opening, Facts, start, after}
use Rattle.drafts.specs.Given.{MayBeginAt, begun_at}

pub data LogEntry : Type 0 where
  Logged : Entry → LogEntry
  BegunAt : ℕ → Progress → LogEntry

abbrev pub after_one : Facts → LogEntry → Facts
after_one facts (Logged entry) = after facts entry
after_one facts (BegunAt now begun) = begun_at facts now begun

abbrev pub after_log : Facts → List LogEntry → Facts
after_log facts [] = facts
after_log facts (one ∷ log) = after_log (after_one facts one) log

-- what the theorem on logs accepts, or a begin that may be accepted; moments never fall
abbrev pub MayComeNext : Facts → LogEntry → Type 0
MayComeNext facts (Logged entry) = (facts.moment ≤ entry.moment) × MayFollow facts entry.moment entry.what
MayComeNext facts (BegunAt now begun) = (facts.moment ≤ now) × MayBeginAt facts now begun

abbrev pub AllCome : Facts → List LogEntry → Type 0
AllCome facts [] = Unit {0}
AllCome facts (one ∷ log) = MayComeNext facts one × AllCome (after_one facts one) log

-- the theorem on logs, of these logs too: for every version that a lease may still use, the pairs agree with the rows
abbrev pub LogsAgree : Type 0
LogsAgree = (opening : Opening) (log : List LogEntry) → IsLength opening.length → IsSoundVersion opening.schema → AllCome (start opening) log → FactsAgree (after_log (start opening) log)
