-- Cited by the contracts of Snapshot, Snapshot::query, Snapshot::check, World::snapshot, locked_store::Shared::snapshot.
-- What a snapshot under a lease is of, and what it answers.
use Rattle.std.specs.Prelude.{◌≡◌, ℕ, ◌<◌, List, Some, Result, Ok, Err, ◌⊎◌}
use Rattle.audit.specs.declared.report.CheckReport.{CheckReport}
use Rattle.audit.specs.Audit.{IsAudit}
use Rattle.element_state.specs.Consistent.{IsConsistent}
use Rattle.element_state.specs.Visible.{visible_rows}
use Rattle.lease.specs.declared.lease.Lease.{Lease}
use Rattle.lease.specs.Timeline.{IsHonest, IsInForce, max_moment}
use Rattle.collections.specs.Refusal.{IsRefusal, IsClear}
use Rattle.replay.specs.Replay.{version_at}
use Rattle.row_map.specs.declared.shape.Row.{Row}
use Rattle.row_map.specs.Rows.{Pairs, Rows}
use Rattle.row_query.specs.declared.fault.QueryFault.{QueryFault}
use Rattle.row_query.specs.declared.fault.QueryFault.TheVariants.{Memory}
use Rattle.row_query.specs.declared.query.Query.{Query}
use Rattle.row_query.specs.Answer.{plain_answer}
use Rattle.row_query.specs.Refused.{IsRefused, IsSound}
use Rattle.schema_version.specs.Version.{Version}
use Rattle.world.specs.declared.snapshot.SnapshotFault.{SnapshotFault}
use Rattle.world.specs.declared.snapshot.SnapshotFault.TheVariants as snapshot_fault
use Rattle.world.specs.Calls.{effective_moment}
use Rattle.world.specs.State.{State, facts_of}

-- the version of a lease, the newest version, and the pairs of a store
pub record Taken : Type 0 where
  pub version : Version
  pub newest : Version
  pub pairs : Pairs

-- out of memory comes last
abbrev pub snapshot_rank : SnapshotFault → ℕ
snapshot_rank snapshot_fault.MomentTooLarge = 1
snapshot_rank snapshot_fault.BadLease = 2
snapshot_rank (snapshot_fault.LeaseEnded until now) = 3
snapshot_rank snapshot_fault.Memory = 4

abbrev pub SnapshotCondition : State → ℕ → Lease → SnapshotFault → Type 0
SnapshotCondition old now lease snapshot_fault.MomentTooLarge = max_moment < now
SnapshotCondition old now lease snapshot_fault.BadLease = ¬ (IsHonest (facts_of old).line now lease)
SnapshotCondition old now lease (snapshot_fault.LeaseEnded until effective_moment) = (until ≡ lease.until) × (effective_moment ≡ now) × (¬ (IsInForce lease now))
SnapshotCondition old now lease snapshot_fault.Memory = ⊥

-- the version of the lease, the newest version and the pairs of the state, which agree with the rows of the log
pub record IsTaken (old : State) (lease : Lease) (taken : Taken) : Type 0 where
  pub version : version_at (facts_of old) lease.version ≡ Some taken.version
  pub newest : taken.newest ≡ (facts_of old).newest
  pub pairs : taken.pairs ≡ old.pairs
  pub consistent : IsConsistent taken.version (facts_of old).rows taken.pairs

-- now is the moment that counts
abbrev pub SnapshotAt : State → ℕ → Lease → Result Taken SnapshotFault → Type 0
SnapshotAt old now lease (Ok taken) = IsClear (SnapshotCondition old now lease) × IsTaken old lease taken
SnapshotAt old now lease (Err fault) = IsRefusal snapshot_rank (SnapshotCondition old now lease) snapshot_fault.Memory fault

abbrev pub SnapshotStep : State → ℕ → Lease → Result Taken SnapshotFault → Type 0
SnapshotStep old moment = SnapshotAt old (effective_moment old moment)

-- what a snapshot answers to a query, whenever it is asked: over any rows with which its pairs agree, the plain answer as its version sees
-- them; or the first refusal of a query that the version does not allow; or that there was no memory, for one that it allows
abbrev pub IsSnapshotAnswer : Taken → Query → Result (List Row) QueryFault → Type 0
IsSnapshotAnswer taken query (Ok found) = IsSound taken.version query × ((rows : Rows) → IsConsistent taken.version rows taken.pairs → found ≡ plain_answer (visible_rows taken.version rows) query)
IsSnapshotAnswer taken query (Err fault) = ((fault ≡ Memory) × IsSound taken.version query) ⊎ IsRefused taken.version query fault

-- what a check of a snapshot counts, whenever it is asked: the audit of its pairs by the version that was the newest when it was taken
abbrev pub IsSnapshotCheck : Taken → CheckReport → Type 0
IsSnapshotCheck taken report = IsAudit taken.newest taken.pairs report
