-- Cited by the definitions of Answer, Txn.
-- A transaction of a script that is read and prepared under its server's lease.
use Rattle.std.specs.Prelude.{◌≡◌, List, ℕ, Option, Some, ◌↔◌, codes}
use Rattle.std.specs.FinMap as map
use Rattle.collections.specs.Refusal.{IsRefusal, IsClear}
use Rattle.row_map.specs.Rows.{Bytes}
use Rattle.row_map.specs.Expect.{View}
use Rattle.schema_version.specs.Version.{Version}
use Rattle.row_write.specs.declared.op.RowOp.{RowOp}
use Rattle.row_write.specs.declared.fault.PrepareFault.TheVariants as prepare
use Rattle.row_write.specs.Made.{PreparedTxn, expects}
use Rattle.row_write.specs.Prepare.{Condition, rank, IsPrepared}
use Rattle.row_write.specs.Reads.{IsRead}
use Rattle.script_replies.specs.State.{State}
use Rattle.script_replies.specs.Transactions.{prepare_name}
use Rattle.script_session.specs.declared.session.ServerLease.{ServerLease}
use Rattle.script_session.specs.declared.prepare.Preparation.{Preparation}
use Rattle.script_session.specs.declared.prepare.Preparation.TheVariants.{Ready, Unprepared, OutOfMemory}
use Rattle.script_replies.specs.Texts.{refused}

-- each key that the operations read, with its value in the world or with none, and no other key
abbrev pub IsReadOf : State → Version → List RowOp → View → Type 0
IsReadOf world schema ops view = (key : Bytes) (value : Option Bytes) → (map.get view key ≡ Some value) ↔ (IsRead schema ops key × (map.get world.pairs key ≡ value))

-- the transaction was prepared under this lease for these operations from what the world has: nothing stood against it, and outcome and
-- batch are those of the operations on the rows that were read
pub record IsPreparedFor (world : State) (held : ServerLease) (ops : List RowOp) (prepared : PreparedTxn) : Type 0 where
  pub schema : prepared.schema ≡ held.schema
  pub lease_is : prepared.lease ≡ held.lease
  pub operations : prepared.ops ≡ ops
  pub view : View
  pub read : IsReadOf world held.schema ops view
  pub expected : prepared.expect ≡ expects view
  pub clear : IsClear (Condition held.schema ops view)
  pub prepared_so : IsPrepared held.schema ops view prepared.reported prepared.batch

-- what reading and preparing may come to
abbrev pub Prepares : State → ServerLease → List RowOp → Preparation → Type 0
Prepares world held ops (Ready prepared) = IsPreparedFor world held ops prepared
Prepares world held ops (Unprepared fault) = (view : View) × IsReadOf world held.schema ops view × IsRefusal rank (Condition held.schema ops view) prepare.Memory fault
Prepares world held ops OutOfMemory = Unit {0}

-- ---- its reply

-- `ok prepared`
abbrev pub prepared_text : Preparation → List ℕ
prepared_text (Ready prepared) = codes "ok prepared"
prepared_text (Unprepared fault) = refused (prepare_name fault)
prepared_text OutOfMemory = refused (codes "Memory")
