-- Cited by the contracts of checks_are_clean.
-- What an audit of the core finds.
use Rattle.std.specs.Prelude.{◌≡◌, length}
use Rattle.std.specs.FinMap as map
use Rattle.audit.specs.declared.report.CheckReport.{CheckReport}
use Rattle.schema_version.specs.Sound.{IsSoundVersion}
use Rattle.world.specs.Calls.{IsCheck}
use Rattle.world.specs.State.{State, facts_of, Agrees}
use Rattle.world_laws.specs.Recent.{IsPublishedBy}

-- what is true of the state of every World
pub record IsWorldState (state : State) : Type 0 where
  pub published : IsPublishedBy state (facts_of state).moment
  pub sound : IsSoundVersion (facts_of state).newest
  pub agrees : Agrees state

-- nothing is missing, nothing is there without a reason, and the rows are those of the log
pub record IsClean (state : State) (report : CheckReport) : Type 0 where
  pub rows : report.rows ≡ length (map.entries (facts_of state).rows)
  pub missing : report.missing ≡ 0
  pub extra : report.extra ≡ 0

abbrev pub ChecksAreClean : Type 0
ChecksAreClean = (state : State) (report : CheckReport) → IsWorldState state → IsCheck state report → IsClean state report
