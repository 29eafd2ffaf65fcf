-- Cited by the contracts of snapshot, check, check_snapshot and of what they call.
-- What a world holds: a snapshot of it, and its audit.
use Rattle.std.specs.Prelude.{◌≡◌, ℕ, ℤ, Result, Ok, Err}
use Rattle.audit.specs.declared.report.CheckReport.{CheckReport}
use Rattle.lease.specs.declared.lease.Lease.{Lease}
use Rattle.script_session.specs.State.{State}
use Rattle.script_session.specs.Calls.{IsCheck}
use Rattle.script_session.specs.Snapshot.{Taken, SnapshotStep, IsSnapshotCheck}
use Rattle.script_session.specs.SnapshotFault.{SnapshotFault}
use Rattle.script_session.specs.SnapshotFault.TheVariants.{MomentTooLarge, BadLease, LeaseEnded, Memory}
use Rattle.typed_calls.specs.Bounded.{SeenWithin}
use Rattle.typed_calls.specs.Statuses.{moment_too_large, bad_lease, lease_ended, out_of_memory, too_far}
use Rattle.typed_calls.specs.declared.bounded.BoundedWorld.{BoundedWorld}

abbrev pub snapshot_status : SnapshotFault → ℤ
snapshot_status MomentTooLarge = moment_too_large
snapshot_status BadLease = bad_lease
snapshot_status (LeaseEnded until now) = lease_ended
snapshot_status Memory = out_of_memory

-- what `World::snapshot` gives, or the status of its refusal
abbrev pub SnapshotsWorld : State → ℕ → Lease → Result Taken ℤ → Type 0
SnapshotsWorld world moment lease (Ok taken) = SnapshotStep world moment lease (Ok taken)
SnapshotsWorld world moment lease (Err status) = (fault : SnapshotFault) × SnapshotStep world moment lease (Err fault) × (status ≡ snapshot_status fault)

abbrev pub SnapshotsIn : BoundedWorld → ℕ → Lease → Result Taken ℤ → Type 0
SnapshotsIn bounded moment lease answer = SeenWithin (Err too_far) (λ world a. SnapshotsWorld world moment lease a) bounded moment answer

-- the audit of the world's pairs, unless memory ran out
abbrev pub ChecksWorld : State → Result CheckReport ℤ → Type 0
ChecksWorld world (Ok report) = IsCheck world report
ChecksWorld world (Err status) = status ≡ out_of_memory

-- the same of a snapshot's
abbrev pub ChecksTaken : Taken → Result CheckReport ℤ → Type 0
ChecksTaken taken (Ok report) = IsSnapshotCheck taken report
ChecksTaken taken (Err status) = status ≡ out_of_memory
