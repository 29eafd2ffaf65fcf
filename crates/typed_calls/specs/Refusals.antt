-- Cited by the contracts of commit, write and of what they call.
-- Why a transaction was not committed.
use Rattle.std.specs.Prelude.{ℤ}
use Rattle.script_session.specs.CommitFault.{CommitFault}
use Rattle.script_session.specs.CommitFault.TheVariants.{MomentTooLarge, BadLease, LeaseEnded, WrongSchema, Conflict, Memory}
use Rattle.typed_calls.specs.Prepare.{prepare_alone}
use Rattle.typed_calls.specs.Statuses.{moment_too_large, bad_lease, lease_ended, wrong_schema, conflict, out_of_memory}
use Rattle.typed_calls.specs.declared.preparation.PrepareOutcome.{PrepareOutcome}
use Rattle.typed_calls.specs.declared.refusals.TxnRefusal.{TxnRefusal}
use Rattle.typed_calls.specs.declared.refusals.TxnRefusal.TheVariants.{Early, Commit}

abbrev pub commit_status : CommitFault → ℤ
commit_status MomentTooLarge = moment_too_large
commit_status BadLease = bad_lease
commit_status (LeaseEnded until now) = lease_ended
commit_status WrongSchema = wrong_schema
commit_status (Conflict key) = conflict
commit_status Memory = out_of_memory

-- by a status alone, before its commit
abbrev pub refused : ℤ → TxnRefusal
refused status = Early (prepare_alone status)

-- the status, with the column
abbrev pub refusal_outcome : TxnRefusal → PrepareOutcome
refusal_outcome (Early outcome) = outcome
refusal_outcome (Commit fault) = prepare_alone (commit_status fault)
