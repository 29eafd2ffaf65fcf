-- Cited by the contracts of serve_one, serve_under, Port, RequestWorker.
-- What becomes of one request.
use Rattle.std.specs.Prelude.{◌≡◌, ℕ, ◌+◌, ◌<◌, ◌≤◌, ◌⊎◌, List, [], ◌∷◌, ◌++◌, length, All, Option, Some, None, Result, Ok, Err, ◌↔◌, Bool, true, false}
use Rattle.std.specs.FinMap as map
use Rattle.std.specs.List.{Contains}
use Rattle.keycode.specs.Order.{bytes_cmp}
use Rattle.collections.specs.Refusal.{IsFirst}
use Rattle.row_map.specs.Expect.{View}
use Rattle.row_map.specs.Rows.{Bytes}
use Rattle.row_write.specs.declared.op.RowOp.{RowOp}
use Rattle.row_write.specs.declared.fault.PrepareFault.{PrepareFault}
use Rattle.row_write.specs.declared.fault.PrepareFault.TheVariants as prepare_fault
use Rattle.row_write.specs.declared.fault.RowFault.{RowFault}
use Rattle.row_write.specs.Prepare.{rank, Condition}
use Rattle.row_write.specs.Reads.{IsRead}
use Rattle.lease.specs.declared.lease.Lease.{Lease}
use Rattle.schema_version.specs.Version.{Version}
use Rattle.replay.specs.declared.entry.What.TheVariants.{Lease as Granted, Txn}
use Rattle.locked_store.specs.Receipt.{Receipt}
use Rattle.locked_store.specs.Committed.{Committed}
use Rattle.locked_store.specs.Committed.TheVariants as committed
use Rattle.locked_store.specs.CommitFault.{CommitFault}
use Rattle.locked_store.specs.CommitFault.TheVariants as commit_fault
use Rattle.locked_store.specs.GrantFault.{GrantFault}
use Rattle.locked_store.specs.GrantFault.TheVariants as grant_fault
use Rattle.locked_store.specs.declared.fault.SharedFault.{SharedFault}
use Rattle.locked_store.specs.declared.fault.SharedFault.TheVariants as shared
use Rattle.row_write.specs.Made.{PreparedTxn}
use Rattle.std.specs.declared.alloc.AllocError.{AllocError}
use Rattle.server.specs.declared.request.Outcome.{Outcome}
use Rattle.server.specs.declared.request.Outcome.TheVariants as outcome
use Rattle.server.specs.declared.request.Request.{Request}
use Rattle.server.specs.declared.tally.Tally.{Tally}
use Rattle.server.specs.declared.tally.Last.{Last}
use Rattle.server.specs.declared.tally.Last.TheVariants as last

-- the keys of a read
abbrev pub Keys : Type 0
Keys = map.FinMap bytes_cmp (Unit {0})

-- ---- what a port says of the world that it calls. A port's `may` tells which of these it may say after so many entries, if at first no
-- handle had seen more than so many

-- a port of this front has seen at least so many entries, and may have this front if at first no handle had seen more than so many
abbrev pub Sees : (ℕ → ℕ → Type 0) → ℕ → ℕ → ℕ → Type 0
Sees has_seen least most front = (least ≤ front) × has_seen most front

pub data Said : Type 0 where
  -- it grants this lease at this moment, and the version of the lease has this schema
  granted : ℕ → Lease → Version → Said
  -- it grants none at this moment, which is too large
  overdue : ℕ → Said
  -- these keys have these values
  viewed : Keys → View → Said
  -- the receipt's entry is in the log
  logged : Receipt → Said
  -- a transaction of these operations is committed at this moment, with this receipt, whose entry is in the log
  done : ℕ → List RowOp → Receipt → Said
  -- the rows refuse the operations, this one first and for this reason
  unfit : List RowOp → ℕ → RowFault → Said
  -- a transaction of these operations is refused at this moment, for this reason
  uncommitted : ℕ → List RowOp → CommitFault → Said
  -- the log has this length, which is shorter than the port had seen it
  went_back : ℕ → Said

-- the entry of the receipt is a transaction of these operations
abbrev pub IsReceiptOf : List RowOp → Receipt → Type 0
IsReceiptOf ops receipt = (lease : Lease) × (receipt.entry.what ≡ Txn lease ops)

-- the receipt is of a lease, and its entry is in the log
abbrev pub IsLeaseReceipt : (Said → Type 0) → Receipt → Type 0
IsLeaseReceipt may receipt = may (Said.logged receipt) × ((lease : Lease) × (receipt.entry.what ≡ Granted lease))

-- of an answer to `lease`: what is said, and the receipt that is kept
abbrev pub GrantSays : (Said → Type 0) → ℕ → Result (Lease × Version) (SharedFault GrantFault) → Type 0
GrantSays may moment (Ok given) = may (Said.granted moment given.0 given.1)
GrantSays may moment (Err (shared.WentBack seen)) = may (Said.went_back seen)
GrantSays may moment (Err (shared.World grant_fault.MomentTooLarge)) = may (Said.overdue moment)
GrantSays may moment (Err (shared.World grant_fault.Memory)) = Unit {0}

abbrev pub Keeps : (Said → Type 0) → List Receipt → Result (Lease × Version) (SharedFault GrantFault) → List Receipt → Type 0
Keeps may before (Ok given) after = (receipt : Receipt) × (after ≡ before ++ receipt ∷ []) × (receipt.entry.what ≡ Granted given.0) × may (Said.logged receipt)
Keeps may before (Err fault) after = after ≡ before

-- of an answer to `read`
abbrev pub ReadSays : (Said → Type 0) → Keys → Result View (SharedFault AllocError) → Type 0
ReadSays may keys (Ok view) = may (Said.viewed keys view)
ReadSays may keys (Err (shared.WentBack seen)) = may (Said.went_back seen)
ReadSays may keys (Err (shared.World fault)) = Unit {0}

-- of an answer to `commit`: out of memory alone has no cause in the world
abbrev pub FaultSays : (Said → Type 0) → ℕ → List RowOp → CommitFault → Type 0
FaultSays may moment ops commit_fault.MomentTooLarge = may (Said.uncommitted moment ops commit_fault.MomentTooLarge)
FaultSays may moment ops commit_fault.BadLease = may (Said.uncommitted moment ops commit_fault.BadLease)
FaultSays may moment ops (commit_fault.LeaseEnded until now) = may (Said.uncommitted moment ops (commit_fault.LeaseEnded until now))
FaultSays may moment ops commit_fault.WrongSchema = may (Said.uncommitted moment ops commit_fault.WrongSchema)
FaultSays may moment ops (commit_fault.Conflict key) = may (Said.uncommitted moment ops (commit_fault.Conflict key))
FaultSays may moment ops commit_fault.Memory = Unit {0}

abbrev pub RefusalSays : (Said → Type 0) → ℕ → List RowOp → SharedFault CommitFault → Type 0
RefusalSays may moment ops (shared.WentBack seen) = may (Said.went_back seen)
RefusalSays may moment ops (shared.World fault) = FaultSays may moment ops fault

abbrev pub CommitSays : (Said → Type 0) → ℕ → List RowOp → Result Committed (SharedFault CommitFault × PreparedTxn) → Type 0
CommitSays may moment ops (Ok (committed.Done receipt)) = may (Said.done moment ops receipt) × IsReceiptOf ops receipt
CommitSays may moment ops (Ok (committed.Refused op why)) = may (Said.unfit ops op why)
CommitSays may moment ops (Err refusal) = RefusalSays may moment ops refusal.0

-- ---- the lease that a server has at hand

-- the lease was granted at the moment of one of these requests, and this is the schema of its version
abbrev pub WasGranted : (Said → Type 0) → List Request → Lease → Version → Type 0
WasGranted may requests lease schema = (request : Request) × Contains requests request × may (Said.granted request.moment lease schema)

-- the lease at hand, if there is one, was granted so
abbrev pub IsHeld : (Said → Type 0) → List Request → Option (Lease × Version) → Type 0
IsHeld may requests None = Unit {0}
IsHeld may requests (Some held) = WasGranted may requests held.0 held.1

-- at this moment there is a lease at hand that has not ended
abbrev pub IsInForce : ℕ → Option (Lease × Version) → Type 0
IsInForce moment None = ⊥
IsInForce moment (Some held) = moment < held.0.until

-- ---- what is true of an outcome

-- under a schema of a lease that was granted at the moment of one of these requests, and by what was read for the operations under it,
-- preparation has this fault and none of a lower number
pub record IsUnprepared (may : Said → Type 0) (requests : List Request) (ops : List RowOp) (fault : PrepareFault) : Type 0 where
  pub lease : Lease
  pub schema : Version
  pub granted : WasGranted may requests lease schema
  pub keys : Keys
  pub own : (key : Bytes) → (map.get keys key ≡ Some tt) ↔ IsRead schema ops key
  pub view : View
  pub viewed : may (Said.viewed keys view)
  pub first : IsFirst rank (Condition schema ops view) fault

-- what is reported of a request that is not prepared
abbrev pub unprepared_by : PrepareFault → Outcome
unprepared_by prepare_fault.NoTable = outcome.Unprepared prepare_fault.NoTable
unprepared_by (prepare_fault.NotPublic column) = outcome.Unprepared (prepare_fault.NotPublic column)
unprepared_by prepare_fault.WrongType = outcome.Unprepared prepare_fault.WrongType
unprepared_by prepare_fault.TooManyOps = outcome.Unprepared prepare_fault.TooManyOps
unprepared_by prepare_fault.ViewMismatch = outcome.Unprepared prepare_fault.ViewMismatch
unprepared_by prepare_fault.Memory = outcome.Memory

-- a refusal after which no further try would help
abbrev pub IsFinal : CommitFault → Type 0
IsFinal commit_fault.MomentTooLarge = Unit {0}
IsFinal commit_fault.BadLease = Unit {0}
IsFinal (commit_fault.LeaseEnded until now) = ⊥
IsFinal commit_fault.WrongSchema = Unit {0}
IsFinal (commit_fault.Conflict key) = ⊥
IsFinal commit_fault.Memory = ⊥

-- a refusal after which the request is tried again
abbrev pub IsRetried : CommitFault → Type 0
IsRetried commit_fault.MomentTooLarge = ⊥
IsRetried commit_fault.BadLease = ⊥
IsRetried (commit_fault.LeaseEnded until now) = Unit {0}
IsRetried commit_fault.WrongSchema = ⊥
IsRetried (commit_fault.Conflict key) = Unit {0}
IsRetried commit_fault.Memory = ⊥

-- its lease or its commit was refused so
abbrev pub IsRejected : (Said → Type 0) → ℕ → List RowOp → CommitFault → Type 0
IsRejected may moment ops fault = ((fault ≡ commit_fault.MomentTooLarge) × may (Said.overdue moment)) ⊎ (IsFinal fault × may (Said.uncommitted moment ops fault))

-- a try that ended in a conflict or with the end of its lease
abbrev pub IsFailedTry : (Said → Type 0) → ℕ → List RowOp → CommitFault → Type 0
IsFailedTry may moment ops fault = IsRetried fault × may (Said.uncommitted moment ops fault)

-- so many tries failed
abbrev pub FailedSoOften : (Said → Type 0) → ℕ → List RowOp → ℕ → Type 0
FailedSoOften may moment ops times = (faults : List CommitFault) × (length faults ≡ times) × All (IsFailedTry may moment ops) faults

-- what is true of the outcome of these operations at this moment, with so many tries, under leases granted at the moments of these requests
abbrev pub IsTrueOf : (Said → Type 0) → List Request → ℕ → List RowOp → ℕ → Outcome → Type 0
IsTrueOf may requests moment ops tries (outcome.Done receipt) = may (Said.done moment ops receipt) × IsReceiptOf ops receipt
IsTrueOf may requests moment ops tries (outcome.Row op why) = may (Said.unfit ops op why)
IsTrueOf may requests moment ops tries (outcome.Unprepared fault) = IsUnprepared may requests ops fault
IsTrueOf may requests moment ops tries (outcome.Rejected fault) = IsRejected may moment ops fault
IsTrueOf may requests moment ops tries (outcome.Busy n) = (n ≡ tries) × FailedSoOften may moment ops tries
IsTrueOf may requests moment ops tries outcome.Held = Unit {0}
IsTrueOf may requests moment ops tries (outcome.WentBack seen) = may (Said.went_back seen)
IsTrueOf may requests moment ops tries outcome.Memory = Unit {0}

-- ---- the port's tally at the end

-- whether the lease still serves, by the port's last answer, where another try follows
abbrev pub IsAgain : Bool → Last → Type 0
IsAgain true answer = answer ≡ last.Conflict
IsAgain false answer = (until : ℕ) × (now : ℕ) × (answer ≡ last.LeaseEnded until now)

-- a refusal after which no further try would help is the port's last answer
abbrev pub IsLastOf : CommitFault → Last → Type 0
IsLastOf commit_fault.MomentTooLarge answer = answer ≡ last.MomentTooLarge
IsLastOf commit_fault.BadLease answer = answer ≡ last.BadLease
IsLastOf (commit_fault.LeaseEnded until now) answer = ⊥
IsLastOf commit_fault.WrongSchema answer = answer ≡ last.WrongSchema
IsLastOf (commit_fault.Conflict key) answer = ⊥
IsLastOf commit_fault.Memory answer = ⊥

-- the outcome with which a try ends that no other follows, by the port's last answer then
abbrev pub IsEnd : Outcome → Last → Type 0
IsEnd (outcome.Done receipt) answer = answer ≡ last.Done
IsEnd (outcome.Row op why) answer = answer ≡ last.Row op why
IsEnd (outcome.Unprepared fault) answer = answer ≡ last.ReadDone
IsEnd (outcome.Rejected fault) answer = IsLastOf fault answer
IsEnd (outcome.Busy tries) answer = ⊥
IsEnd outcome.Held answer = ⊥
IsEnd (outcome.WentBack seen) answer = answer ≡ last.WentBack seen
IsEnd outcome.Memory answer = Unit {0}

-- Busy comes only after that many tries which ended in a conflict or with the end of their lease; every other outcome is how one try ends
abbrev pub IsServed : ℕ → Tally → Outcome → Tally → Type 0
IsServed tries before (outcome.Busy n) after = (n ≡ tries) × (after.retries ≡ before.retries + tries)
IsServed tries before (outcome.Done receipt) after = IsEnd (outcome.Done receipt) after.last
IsServed tries before (outcome.Row op why) after = IsEnd (outcome.Row op why) after.last
IsServed tries before (outcome.Unprepared fault) after = IsEnd (outcome.Unprepared fault) after.last
IsServed tries before (outcome.Rejected fault) after = IsEnd (outcome.Rejected fault) after.last
IsServed tries before outcome.Held after = ⊥
IsServed tries before (outcome.WentBack seen) after = IsEnd (outcome.WentBack seen) after.last
IsServed tries before outcome.Memory after = Unit {0}

-- how many receipts an outcome holds
abbrev pub receipts_of : Outcome → ℕ
receipts_of (outcome.Done receipt) = 1
receipts_of (outcome.Row op why) = 0
receipts_of (outcome.Unprepared fault) = 0
receipts_of (outcome.Rejected fault) = 0
receipts_of (outcome.Busy n) = 0
receipts_of outcome.Held = 0
receipts_of (outcome.WentBack seen) = 0
receipts_of outcome.Memory = 0

-- how many failed tries an outcome tells of
abbrev pub tries_of : Outcome → ℕ
tries_of (outcome.Done receipt) = 0
tries_of (outcome.Row op why) = 0
tries_of (outcome.Unprepared fault) = 0
tries_of (outcome.Rejected fault) = 0
tries_of (outcome.Busy n) = n
tries_of outcome.Held = 0
tries_of (outcome.WentBack seen) = 0
tries_of outcome.Memory = 0

abbrev pub receipts_by : {T : Type 0} → Result T Outcome → ℕ
receipts_by (Ok x) = 0
receipts_by (Err o) = receipts_of o

-- how many receipts a commit gives
abbrev pub given_by : {E : Type 0} → Result Committed E → ℕ
given_by (Ok (committed.Done receipt)) = 1
given_by (Ok (committed.Refused op why)) = 0
given_by (Err refusal) = 0
