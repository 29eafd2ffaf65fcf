-- Cited by the contracts of CommitFault, PieceFault, QueryRefusal, SnapshotFault.
-- What a commit, a piece, a query or a snapshot tells of the store's refusal, and of a lease's.
use Rattle.lease.specs.declared.fault.LeaseFault.{LeaseFault}
use Rattle.lease.specs.declared.fault.LeaseFault.TheVariants as lease_fault
use Rattle.txn_store.specs.declared.fault.SetFault.{SetFault}
use Rattle.txn_store.specs.declared.fault.SetFault.TheVariants as reported
use Rattle.world.specs.declared.commit.CommitFault.{CommitFault}
use Rattle.world.specs.declared.commit.CommitFault.TheVariants as commit
use Rattle.world.specs.declared.piece.PieceFault.{PieceFault}
use Rattle.world.specs.declared.piece.PieceFault.TheVariants as piece
use Rattle.world.specs.declared.query.QueryRefusal.{QueryRefusal}
use Rattle.world.specs.declared.query.QueryRefusal.TheVariants as query
use Rattle.world.specs.declared.snapshot.SnapshotFault.{SnapshotFault}
use Rattle.world.specs.declared.snapshot.SnapshotFault.TheVariants as snapshot_fault

abbrev pub set_reported : SetFault → CommitFault
set_reported (reported.Conflict key) = commit.Conflict key
set_reported reported.Memory = commit.Memory

abbrev pub lease_reported : LeaseFault → CommitFault
lease_reported lease_fault.MomentTooLarge = commit.MomentTooLarge
lease_reported lease_fault.BadLease = commit.BadLease
lease_reported (lease_fault.LeaseEnded until now) = commit.LeaseEnded until now

abbrev pub query_reported : LeaseFault → QueryRefusal
query_reported lease_fault.MomentTooLarge = query.MomentTooLarge
query_reported lease_fault.BadLease = query.BadLease
query_reported (lease_fault.LeaseEnded until now) = query.LeaseEnded until now

abbrev pub snapshot_reported : LeaseFault → SnapshotFault
snapshot_reported lease_fault.MomentTooLarge = snapshot_fault.MomentTooLarge
snapshot_reported lease_fault.BadLease = snapshot_fault.BadLease
snapshot_reported (lease_fault.LeaseEnded until now) = snapshot_fault.LeaseEnded until now

abbrev pub piece_reported : SetFault → PieceFault
piece_reported (reported.Conflict key) = piece.Conflict key
piece_reported reported.Memory = piece.Memory
