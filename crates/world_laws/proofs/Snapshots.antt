-- What stands against no snapshot stands against no query under its lease; and the pairs that were taken agree with the rows.
use Rattle.std.proofs.Common.{ℕ, Ok, Err, refl, subst, arith}
use Rattle.audit.specs.declared.report.CheckReport.{CheckReport}
use Rattle.audit.specs.Audit.{IsAudit}
use Rattle.lease.specs.declared.lease.Lease.{Lease}
use Rattle.collections.specs.Refusal.{IsClear}
use Rattle.row_map.specs.Rows.{Pairs}
use Rattle.row_query.specs.declared.query.Query.{Query}
use Rattle.row_query.proofs.Unique.{sound_clear}
use Rattle.schema_version.specs.Version.{Version}
use Rattle.world.specs.declared.query.QueryRefusal.TheVariants as refusal
use Rattle.world.specs.declared.snapshot.SnapshotFault.TheVariants as snapshot_fault
use Rattle.world.specs.Snapshot.{SnapshotCondition}
use Rattle.world.specs.State.{State, facts_of}
use Rattle.world.proofs.Queries.{NoneBelow, last, clear, faulty_at}
use Rattle.world_laws.specs.Snapshots.{SnapshotsAnswerTheirLog, SnapshotsAnswerAsQueries, SnapshotsCheckTheirLog, SnapshotsAreRecent}
use Rattle.world_laws.proofs.Recent.{lease_recent}

none_below : (s : State) (now : ℕ) (lease : Lease) (query : Query) → IsClear (SnapshotCondition s now lease) → NoneBelow s now lease query
none_below s now lease query clear refusal.MomentTooLarge lt = clear snapshot_fault.MomentTooLarge
none_below s now lease query clear refusal.BadLease lt = clear snapshot_fault.BadLease
none_below s now lease query clear (refusal.LeaseEnded until counted_at) lt = clear (snapshot_fault.LeaseEnded until counted_at)
none_below s now lease query clear (refusal.Query fault) lt = λ c. absurd (omega (arith, lt, last fault))

pub answer_their_log : SnapshotsAnswerTheirLog
answer_their_log old now lease taken query found at is = is.1 (facts_of old).rows at.1.consistent

pub answer_as_queries : SnapshotsAnswerAsQueries
answer_as_queries old now lease taken query (Ok found) at is = (
  clear old now lease query taken.version (none_below old now lease query at.0) at.1.version is.0 sound_clear,
  (taken.version, at.1.version, is.1 (facts_of old).rows at.1.consistent),
)
answer_as_queries old now lease taken query (Err fault) at is = faulty_at old now lease query taken.version fault (none_below old now lease query at.0) at.1.version sound_clear is

pub check_their_log : SnapshotsCheckTheirLog
check_their_log old now lease taken report at is =
    subst (λ (v : Version). IsAudit v old.pairs report) at.1.newest (subst (λ (p : Pairs). IsAudit taken.newest p report) at.1.pairs is)

pub snapshots_recent : SnapshotsAreRecent
snapshots_recent old now lease taken by at = lease_recent old now lease by (λ h. at.0 snapshot_fault.BadLease h) (λ f. at.0 (snapshot_fault.LeaseEnded lease.until now) (refl, refl, f))
