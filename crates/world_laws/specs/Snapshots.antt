-- Cited by the contracts of snapshots_answer_their_log.
-- What a snapshot answers: what the core would have answered when it was taken.
use Rattle.std.specs.Prelude.{◌≡◌, ℕ, List, Result, Ok, Err}
use Rattle.audit.specs.declared.report.CheckReport.{CheckReport}
use Rattle.element_state.specs.Visible.{visible_rows}
use Rattle.lease.specs.declared.lease.Lease.{Lease}
use Rattle.row_map.specs.declared.shape.Row.{Row}
use Rattle.row_query.specs.declared.fault.QueryFault.{QueryFault}
use Rattle.row_query.specs.declared.query.Query.{Query}
use Rattle.row_query.specs.Answer.{plain_answer}
use Rattle.world.specs.declared.query.QueryRefusal.{QueryRefusal}
use Rattle.world.specs.declared.query.QueryRefusal.TheVariants as refusal
use Rattle.world.specs.Calls.{IsCheck}
use Rattle.world.specs.Query.{QueryAt}
use Rattle.world.specs.Snapshot.{Taken, SnapshotAt, IsSnapshotAnswer, IsSnapshotCheck}
use Rattle.world.specs.State.{State, facts_of}
use Rattle.world_laws.specs.Recent.{IsPublishedBy, IsRecent}

-- as World::query tells it
abbrev pub as_reported : Result (List Row) QueryFault → Result (List Row) QueryRefusal
as_reported (Ok found) = Ok found
as_reported (Err fault) = Err (refusal.Query fault)

-- the rows that it finds, whenever it is asked, are the plain answer over the rows of the log at which it was taken, as its version sees them
abbrev pub SnapshotsAnswerTheirLog : Type 0
SnapshotsAnswerTheirLog =
    (old : State) (now : ℕ) (lease : Lease) (taken : Taken) (query : Query) (found : List Row) → SnapshotAt old now lease (Ok taken) → IsSnapshotAnswer taken query (Ok found)
    → found ≡ plain_answer (visible_rows taken.version (facts_of old).rows) query

-- and all that it answers, refusals too, is what World::query may answer there, at the moment at which it was taken
abbrev pub SnapshotsAnswerAsQueries : Type 0
SnapshotsAnswerAsQueries =
    (old : State) (now : ℕ) (lease : Lease) (taken : Taken) (query : Query) (answer : Result (List Row) QueryFault) → SnapshotAt old now lease (Ok taken) → IsSnapshotAnswer taken query answer
    → QueryAt old now lease query (as_reported answer)

-- what a check of it counts, whenever it is asked, is what World::check counts there
abbrev pub SnapshotsCheckTheirLog : Type 0
SnapshotsCheckTheirLog = (old : State) (now : ℕ) (lease : Lease) (taken : Taken) (report : CheckReport) → SnapshotAt old now lease (Ok taken) → IsSnapshotCheck taken report → IsCheck old report

-- none is taken under a version older than the one before the newest
abbrev pub SnapshotsAreRecent : Type 0
SnapshotsAreRecent = (old : State) (now : ℕ) (lease : Lease) (taken : Taken) → IsPublishedBy old now → SnapshotAt old now lease (Ok taken) → IsRecent old lease
