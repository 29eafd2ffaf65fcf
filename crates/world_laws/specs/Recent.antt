-- Cited by the contracts of commits_are_recent.
-- What runs under a lease runs on one of the last two versions.
use Rattle.std.specs.Prelude.{◌≡◌, ℕ, ◌≤◌, ◌∷◌, List, length, Ok}
use Rattle.lease.specs.declared.lease.Lease.{Lease}
use Rattle.lease.specs.Timeline.{IsValid, IsLastTwo, last_publication, newest as newest_number}
use Rattle.row_map.specs.declared.shape.Row.{Row}
use Rattle.row_query.specs.declared.query.Query.{Query}
use Rattle.row_write.specs.Made.{PreparedTxn}
use Rattle.world.specs.declared.committed.Committed.{Committed}
use Rattle.world.specs.Calls.{CommitAt}
use Rattle.world.specs.Query.{QueryAt}
use Rattle.world.specs.State.{State, facts_of}

-- the versions were published in turn, the newest one by this moment
pub record IsPublishedBy (state : State) (now : ℕ) : Type 0 where
  pub valid : IsValid (facts_of state).line
  pub past : last_publication (facts_of state).line ≤ now
  pub counted : length ((facts_of state).newest ∷ (facts_of state).older) ≡ newest_number (facts_of state).line

-- the lease is on the newest version, or on the one before it
abbrev pub IsRecent : State → Lease → Type 0
IsRecent state lease = IsLastTwo (facts_of state).line lease.version

-- an accepted commit, whether its rows accept or refuse it, is one under a recent lease
abbrev pub CommitsAreRecent : Type 0
CommitsAreRecent =
    (old new : State) (now : ℕ) (prepared : PreparedTxn) (done : Committed) → IsPublishedBy old now → CommitAt old now prepared (Ok done) new → IsRecent old prepared.lease

-- and so is an answered query
abbrev pub QueriesAreRecent : Type 0
QueriesAreRecent = (old : State) (now : ℕ) (lease : Lease) (query : Query) (found : List Row) → IsPublishedBy old now → QueryAt old now lease query (Ok found) → IsRecent old lease
