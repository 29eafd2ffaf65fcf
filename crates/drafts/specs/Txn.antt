-- Cited by the contracts of draft_txn.
-- What a transaction comes to that is to be drafted.
use Rattle.std.specs.Prelude.{◌≡◌, ℕ, List, Option}
use Rattle.row_map.specs.Expect.{View}
use Rattle.row_map.specs.Rows.{Bytes}
use Rattle.row_map.specs.Writes.{Batch}
use Rattle.schema_version.specs.Version.{Version}
use Rattle.row_write.specs.declared.op.RowOp.{RowOp}
use Rattle.row_write.specs.declared.op.RowOutcome.TheVariants.{Done, Refused as NotDone}
use Rattle.row_write.specs.Made.{expects}
use Rattle.row_write.specs.Prepare.{IsPrepared}
use Rattle.drafts.specs.declared.txn.Drafted.{Drafted}
use Rattle.drafts.specs.declared.txn.Drafted.TheVariants.{Draft, Refused}
use Rattle.drafts.specs.Marked.{MarkedTxn}

-- a draft of these operations under the version, with this mark, on what was read
pub record IsTxnOf (number : ℕ) (schema : Version) (ops : List RowOp) (mark : Option Bytes) (view : View) (draft : MarkedTxn) : Type 0 where
  pub number_is : draft.txn.lease.version ≡ number
  pub schema_is : draft.txn.schema ≡ schema
  pub ops_are : draft.txn.ops ≡ ops
  pub mark_is : draft.mark ≡ mark
  pub expected : draft.txn.expect ≡ expects view
  pub prepared : IsPrepared schema ops view Done draft.txn.batch

-- a draft if the rows that were read accept all operations, else the first that they refuse
abbrev pub IsDraftedFor : ℕ → Version → List RowOp → Option Bytes → View → Drafted → Type 0
IsDraftedFor number schema ops mark view (Draft draft) = IsTxnOf number schema ops mark view draft
IsDraftedFor number schema ops mark view (Refused op why) = (batch : Batch) × IsPrepared schema ops view (NotDone op why) batch
