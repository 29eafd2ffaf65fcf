-- Cited by the contracts of HandlePort.
-- What a handle's server may be given.
use Rattle.std.specs.Prelude.{◌≡◌, ℕ, ◌<◌, ◌≤◌, ◌⊎◌, List, [], ◌∷◌, ◌++◌, Result, Ok, Err}
use Rattle.row_write.specs.declared.op.RowOp.{RowOp}
use Rattle.row_write.specs.declared.op.RowOutcome.TheVariants.{Refused}
use Rattle.row_write.specs.Plain.{outcome}
use Rattle.lease.specs.declared.lease.Lease.{Lease}
use Rattle.lease.specs.Timeline.{granted_at, max_moment}
use Rattle.schema_version.specs.Version.{Version}
use Rattle.locked_store.specs.Calls.{CommitStep, IsReadView, effective_moment}
use Rattle.locked_store.specs.CommitFault.{CommitFault}
use Rattle.locked_store.specs.Committed.TheVariants.{Done}
use Rattle.row_write.specs.Made.{PreparedTxn}
use Rattle.locked_store.specs.Grant.{Grant}
use Rattle.locked_store.specs.Receipt.{Receipt}
use Rattle.locked_store.specs.State.{State, facts_of}
use Rattle.locked_store.specs.Cores.{IsCoreSince, WasLength}
use Rattle.locked_store.specs.Receipts.{IsLogged}
use Rattle.server.specs.Outcomes.{Said}

-- a core behind the lock committed a prepared transaction of these operations, with this receipt
pub record WasCommitted (start : State) (front moment : ℕ) (ops : List RowOp) (receipt : Receipt) : Type 0 where
  pub core : State
  pub is_core : IsCoreSince start front core
  pub prepared : PreparedTxn
  pub own : prepared.ops ≡ ops
  pub left : State
  pub done : CommitStep core moment prepared (Ok (Done receipt)) left
  pub logged : IsLogged start front receipt

-- a core behind the lock refused to commit a prepared transaction of these operations, for this reason
pub record WasUncommitted (start : State) (front moment : ℕ) (ops : List RowOp) (fault : CommitFault) : Type 0 where
  pub core : State
  pub is_core : IsCoreSince start front core
  pub prepared : PreparedTxn
  pub own : prepared.ops ≡ ops
  pub back : PreparedTxn
  pub left : State
  pub refused : CommitStep core moment prepared (Err (fault, back)) left

-- a front that a handle had: one that a handle came with is at most `most`; any later one is a length that the log had
abbrev pub HasSeen : State → ℕ → ℕ → Type 0
HasSeen start most front = (front ≤ most) ⊎ WasLength start front

-- the log had this length, and a handle had seen more
abbrev pub WasShorter : State → ℕ → ℕ → Type 0
WasShorter start most seen = WasLength start seen × ((front : ℕ) × HasSeen start most front × (seen < front))

-- what a handle's server may say, each of a core behind the lock that has at least so many entries, if no handle came with a front above `most`
abbrev pub SaidByCore : State → ℕ → ℕ → Said → Type 0
SaidByCore start front most (Said.granted moment lease schema) =
    (core : State) × IsCoreSince start front core × (lease ≡ granted_at (facts_of core).line (effective_moment core moment)) × (schema ≡ (facts_of core).newest)
SaidByCore start front most (Said.overdue moment) = (core : State) × IsCoreSince start front core × (max_moment < effective_moment core moment)
SaidByCore start front most (Said.viewed keys view) = (core : State) × IsCoreSince start front core × IsReadView core keys view
SaidByCore start front most (Said.logged receipt) = IsLogged start front receipt
SaidByCore start front most (Said.done moment ops receipt) = WasCommitted start front moment ops receipt
SaidByCore start front most (Said.unfit ops op why) = (core : State) × IsCoreSince start front core × (outcome (facts_of core).rows ops ≡ Refused op why)
SaidByCore start front most (Said.uncommitted moment ops fault) = WasUncommitted start front moment ops fault
SaidByCore start front most (Said.went_back seen) = WasShorter start most seen

-- a lease and its schema, without the receipt
abbrev pub lease_and_schema : {E : Type 0} → Result Grant E → Result (Lease × Version) E
lease_and_schema (Ok given) = Ok (given.lease, given.schema)
lease_and_schema (Err fault) = Err fault

-- the receipts that are kept, with that of the lease
abbrev pub kept_with : {E : Type 0} → List Receipt → Result Grant E → List Receipt
kept_with before (Ok given) = before ++ given.receipt ∷ []
kept_with before (Err fault) = before
