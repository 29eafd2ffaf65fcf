-- Cited by the contracts of Tally::note, last_of_grant, last_of_read, last_of_commit.
-- What a port keeps of its answers.
use Rattle.std.specs.Prelude.{ℕ, Result, Ok, Err}
use Rattle.std.specs.declared.alloc.AllocError.{AllocError}
use Rattle.row_map.specs.Expect.{View}
use Rattle.row_write.specs.Made.{PreparedTxn}
use Rattle.lease.specs.declared.lease.Lease.{Lease}
use Rattle.schema_version.specs.Version.{Version}
use Rattle.locked_store.specs.Committed.{Committed}
use Rattle.locked_store.specs.Committed.TheVariants as committed
use Rattle.locked_store.specs.CommitFault.{CommitFault}
use Rattle.locked_store.specs.CommitFault.TheVariants as commit_fault
use Rattle.locked_store.specs.GrantFault.{GrantFault}
use Rattle.locked_store.specs.GrantFault.TheVariants as grant_fault
use Rattle.locked_store.specs.declared.fault.SharedFault.{SharedFault}
use Rattle.locked_store.specs.declared.fault.SharedFault.TheVariants as shared
use Rattle.server.specs.declared.tally.Tally.{Tally}
use Rattle.server.specs.declared.tally.Last.{Last}
use Rattle.server.specs.declared.tally.Last.TheVariants as last

abbrev pub tally : ℕ → Last → Tally
tally retries last = record { retries = retries; last = last }

-- a conflict and the end of a lease are counted
abbrev pub retried : Last → ℕ
retried last.Nothing = 0
retried last.Granted = 0
retried last.ReadDone = 0
retried last.Done = 0
retried (last.Row op why) = 0
retried last.Conflict = 1
retried (last.LeaseEnded until now) = 1
retried last.MomentTooLarge = 0
retried last.BadLease = 0
retried last.WrongSchema = 0
retried (last.WentBack seen) = 0
retried last.Memory = 0

abbrev pub last_of_grant : Result (Lease × Version) (SharedFault GrantFault) → Last
last_of_grant (Ok granted) = last.Granted
last_of_grant (Err (shared.WentBack seen)) = last.WentBack seen
last_of_grant (Err (shared.World grant_fault.MomentTooLarge)) = last.MomentTooLarge
last_of_grant (Err (shared.World grant_fault.Memory)) = last.Memory

abbrev pub last_of_read : Result View (SharedFault AllocError) → Last
last_of_read (Ok view) = last.ReadDone
last_of_read (Err (shared.WentBack seen)) = last.WentBack seen
last_of_read (Err (shared.World fault)) = last.Memory

abbrev pub last_of_fault : CommitFault → Last
last_of_fault commit_fault.MomentTooLarge = last.MomentTooLarge
last_of_fault commit_fault.BadLease = last.BadLease
last_of_fault (commit_fault.LeaseEnded until now) = last.LeaseEnded until now
last_of_fault commit_fault.WrongSchema = last.WrongSchema
last_of_fault (commit_fault.Conflict key) = last.Conflict
last_of_fault commit_fault.Memory = last.Memory

abbrev pub last_by : SharedFault CommitFault → Last
last_by (shared.WentBack seen) = last.WentBack seen
last_by (shared.World fault) = last_of_fault fault

abbrev pub last_of_commit : Result Committed (SharedFault CommitFault × PreparedTxn) → Last
last_of_commit (Ok (committed.Done receipt)) = last.Done
last_of_commit (Ok (committed.Refused op why)) = last.Row op why
last_of_commit (Err refusal) = last_by refusal.0
