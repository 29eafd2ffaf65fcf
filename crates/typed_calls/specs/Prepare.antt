-- Cited by the contracts of prepare and of what it calls.
-- A transaction that is prepared from what was read.
use Rattle.std.specs.Prelude.{◌≡◌, ◌⊎◌, ℤ, List, Result, Ok, Err}
use Rattle.collections.specs.Refusal.{IsRefusal, IsClear}
use Rattle.row_map.specs.Expect.{View}
use Rattle.row_write.specs.Made.{PreparedTxn, expects}
use Rattle.row_write.specs.Prepare.{Condition, rank, IsPrepared}
use Rattle.row_write.specs.declared.op.RowOp.{RowOp}
use Rattle.row_write.specs.declared.fault.PrepareFault.{PrepareFault}
use Rattle.row_write.specs.declared.fault.PrepareFault.TheVariants.{NoTable, NotPublic, WrongType, TooManyOps, ViewMismatch, Memory}
use Rattle.script_session.specs.declared.session.ServerLease.{ServerLease}
use Rattle.typed_calls.specs.Statuses.{no_table, not_public, wrong_type, too_many_ops, view_mismatch, out_of_memory}
use Rattle.typed_calls.specs.declared.preparation.PrepareOutcome.{PrepareOutcome}
use Rattle.typed_calls.specs.declared.reads.Reads.{Reads}

-- a status without a column
abbrev pub prepare_alone : ℤ → PrepareOutcome
prepare_alone status = record { status = status; column = 0 }

-- what a refusal is reported as
abbrev pub prepare_outcome : PrepareFault → PrepareOutcome
prepare_outcome NoTable = prepare_alone no_table
prepare_outcome (NotPublic column) = record { status = not_public; column = column }
prepare_outcome WrongType = prepare_alone wrong_type
prepare_outcome TooManyOps = prepare_alone too_many_ops
prepare_outcome ViewMismatch = prepare_alone view_mismatch
prepare_outcome Memory = prepare_alone out_of_memory

-- the transaction was prepared under this lease for these operations from this view: nothing stood against it, and outcome and batch are
-- those of the operations on the rows that the view encodes
pub record IsPreparedFrom (held : ServerLease) (ops : List RowOp) (view : View) (prepared : PreparedTxn) : Type 0 where
  pub schema : prepared.schema ≡ held.schema
  pub lease_is : prepared.lease ≡ held.lease
  pub operations : prepared.ops ≡ ops
  pub expected : prepared.expect ≡ expects view
  pub clear : IsClear (Condition held.schema ops view)
  pub prepared_so : IsPrepared held.schema ops view prepared.reported prepared.batch

-- the first refusal, or that memory ran out
abbrev pub IsUnprepared : ServerLease → List RowOp → View → PrepareOutcome → Type 0
IsUnprepared held ops view outcome =
    (outcome ≡ prepare_alone out_of_memory) ⊎ ((fault : PrepareFault) × IsRefusal rank (Condition held.schema ops view) Memory fault × (outcome ≡ prepare_outcome fault))

abbrev pub Prepares : Reads → Result PreparedTxn PrepareOutcome → Type 0
Prepares reads (Ok prepared) = IsPreparedFrom reads.held reads.ops reads.view prepared
Prepares reads (Err outcome) = IsUnprepared reads.held reads.ops reads.view outcome
