-- A port whose every word is allowed.
use Rattle.std.proofs.Common.{ℕ, List}
use Rattle.std.specs.Prelude.{Result, Ok, Err}
use Rattle.std.specs.declared.alloc.AllocError.{AllocError}
use Rattle.row_map.specs.Expect.{View}
use Rattle.row_write.specs.declared.op.RowOp.{RowOp}
use Rattle.lease.specs.declared.lease.Lease.{Lease}
use Rattle.schema_version.specs.Version.{Version}
use Rattle.server.specs.CommitFault.{CommitFault}
use Rattle.server.specs.CommitFault.TheVariants as commit_fault
use Rattle.server.specs.GrantFault.{GrantFault}
use Rattle.server.specs.GrantFault.TheVariants as grant_fault
use Rattle.server.specs.SharedFault.{SharedFault}
use Rattle.server.specs.SharedFault.TheVariants as shared
use Rattle.server.specs.Outcomes.{Keys, GrantSays, ReadSays, RefusalSays}

pub grants : (moment : ℕ) (answer : Result (Lease × Version) (SharedFault GrantFault)) → GrantSays (λ said. Unit {0}) moment answer
grants moment (Ok given) = tt
grants moment (Err (shared.WentBack seen)) = tt
grants moment (Err (shared.World grant_fault.MomentTooLarge)) = tt
grants moment (Err (shared.World grant_fault.Memory)) = tt

pub reads : (keys : Keys) (answer : Result View (SharedFault AllocError)) → ReadSays (λ said. Unit {0}) keys answer
reads keys (Ok view) = tt
reads keys (Err (shared.WentBack seen)) = tt
reads keys (Err (shared.World fault)) = tt

pub refuses : (moment : ℕ) (ops : List RowOp) (refusal : SharedFault CommitFault) → RefusalSays (λ said. Unit {0}) moment ops refusal
refuses moment ops (shared.WentBack seen) = tt
refuses moment ops (shared.World commit_fault.MomentTooLarge) = tt
refuses moment ops (shared.World commit_fault.BadLease) = tt
refuses moment ops (shared.World (commit_fault.LeaseEnded until now)) = tt
refuses moment ops (shared.World commit_fault.WrongSchema) = tt
refuses moment ops (shared.World (commit_fault.Conflict key)) = tt
refuses moment ops (shared.World commit_fault.Memory) = tt
