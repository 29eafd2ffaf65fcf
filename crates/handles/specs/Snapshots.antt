-- Cited by the contracts of cagzhomul_snapshot, cagzhomul_check, cagzhomul_snapshot_check and of what they call.
-- A snapshot in a handle of its own, and the audits of a world and of a snapshot.
use Rattle.std.specs.Prelude.{◌≡◌, ℕ, ◌⊎◌, ℤ, Option, Some, None, Result, Ok, Err}
use Rattle.audit.specs.declared.report.CheckReport.{CheckReport}
use Rattle.typed_calls.specs.ServerLease.{ServerLease}
use Rattle.typed_calls.specs.Snapshot.{Taken}
use Rattle.typed_calls.specs.Snapshots.{SnapshotsIn, ChecksWorld, ChecksTaken}
use Rattle.typed_calls.specs.Statuses.{ok, closed, already_open}
use Rattle.typed_calls.specs.declared.bounded.BoundedWorld.{BoundedWorld}
use Rattle.handles.specs.declared.engine.Engine.{Engine}
use Rattle.handles.specs.declared.engine.Engine.TheVariants as engine
use Rattle.handles.specs.declared.snapshot_calls.CheckOutcome.{CheckOutcome}
use Rattle.handles.specs.Handles.{Fills}

-- ---- snapshot

-- what the world holds, or the status of its refusal
abbrev pub SnapshotsInto : BoundedWorld → ℕ → ServerLease → ℤ → Option Engine → Type 0
SnapshotsInto bounded moment held status snapshot =
    ((taken : Taken) × SnapshotsIn bounded moment held.lease (Ok taken) × Fills (engine.Snapshot taken) status snapshot)
    ⊎ (SnapshotsIn bounded moment held.lease (Err status) × (snapshot ≡ None))

-- under the lease of a handle
abbrev pub SnapshotsUnder : BoundedWorld → ℕ → Option Engine → ℤ → Option Engine → Type 0
SnapshotsUnder bounded moment None status snapshot = (status ≡ closed) × (snapshot ≡ None)
SnapshotsUnder bounded moment (Some (engine.Lease held)) status snapshot = SnapshotsInto bounded moment held status snapshot
SnapshotsUnder bounded moment (Some other) status snapshot = (status ≡ closed) × (snapshot ≡ None)

abbrev pub SnapshotsOf : Option Engine → ℕ → Option Engine → ℤ → Option Engine → Type 0
SnapshotsOf None moment lease status snapshot = (status ≡ closed) × (snapshot ≡ None)
SnapshotsOf (Some (engine.World bounded)) moment lease status snapshot = SnapshotsUnder bounded moment lease status snapshot
SnapshotsOf (Some other) moment lease status snapshot = (status ≡ closed) × (snapshot ≡ None)

-- into a closed handle
abbrev pub Snapshots : Option Engine → ℕ → Option Engine → Option Engine → ℤ → Option Engine → Type 0
Snapshots world moment lease (Some e) status snapshot = (status ≡ already_open) × (snapshot ≡ Some e)
Snapshots world moment lease None status snapshot = SnapshotsOf world moment lease status snapshot

-- ---- check, check_snapshot

-- a status alone
abbrev pub check_alone : ℤ → CheckOutcome
check_alone status = record { status = status; rows = 0; missing = 0; extra = 0 }

abbrev pub check_outcome : Result CheckReport ℤ → CheckOutcome
check_outcome (Ok report) = record { status = ok; rows = report.rows; missing = report.missing; extra = report.extra }
check_outcome (Err status) = check_alone status

abbrev pub Checks : Option Engine → CheckOutcome → Type 0
Checks None outcome = outcome ≡ check_alone closed
Checks (Some (engine.World bounded)) outcome = (answer : Result CheckReport ℤ) × ChecksWorld bounded.world answer × (outcome ≡ check_outcome answer)
Checks (Some other) outcome = outcome ≡ check_alone closed

abbrev pub ChecksSnapshot : Option Engine → CheckOutcome → Type 0
ChecksSnapshot None outcome = outcome ≡ check_alone closed
ChecksSnapshot (Some (engine.Snapshot taken)) outcome = (answer : Result CheckReport ℤ) × ChecksTaken taken answer × (outcome ≡ check_outcome answer)
ChecksSnapshot (Some other) outcome = outcome ≡ check_alone closed
