-- Cited by the contracts of cagzhomul_commit, cagzhomul_txn_entry, cagzhomul_write and of what they call.
-- What the commit of a transaction came to, with all that is known of its refusal.
use Rattle.std.specs.Prelude.{ℕ, ℤ, List, length, Result, Ok, Err}
use Rattle.row_write.specs.declared.fault.RowFault.TheVariants.{Duplicate, NoRow}
use Rattle.typed_calls.specs.CommitFault.{CommitFault}
use Rattle.typed_calls.specs.CommitFault.TheVariants.{MomentTooLarge, BadLease, LeaseEnded, WrongSchema, Conflict, Memory}
use Rattle.typed_calls.specs.Committed.{Committed}
use Rattle.typed_calls.specs.Committed.TheVariants.{Done, Refused}
use Rattle.typed_calls.specs.Refusals.{commit_status}
use Rattle.typed_calls.specs.Statuses.{ok, duplicate, no_row}
use Rattle.typed_calls.specs.declared.refusals.TxnRefusal.{TxnRefusal}
use Rattle.typed_calls.specs.declared.refusals.TxnRefusal.TheVariants.{Early, Commit}
use Rattle.handles.specs.Calls.{laid}
use Rattle.handles.specs.declared.commit_outcome.CommitOutcome.{CommitOutcome}

-- a status alone
abbrev pub commit_alone : ℤ → CommitOutcome
commit_alone status = record { status = status; column = 0; place = 0; operation = 0; until = 0; now = 0; length = 0 }

-- how a transaction ended
abbrev pub end_outcome : Committed → CommitOutcome
end_outcome (Done receipt) = record (commit_alone ok) { place = receipt.place }
end_outcome (Refused op Duplicate) = record (commit_alone duplicate) { operation = op }
end_outcome (Refused op NoRow) = record (commit_alone no_row) { operation = op }

-- what the world says of a refused commit, with its status: when the lease ended and which moment counted, or how long the key of the
-- least pair is that is not what was read
abbrev pub fault_outcome : ℤ → CommitFault → CommitOutcome
fault_outcome status MomentTooLarge = commit_alone status
fault_outcome status BadLease = commit_alone status
fault_outcome status (LeaseEnded until now) = record (commit_alone status) { until = until; now = now }
fault_outcome status WrongSchema = commit_alone status
fault_outcome status (Conflict key) = record (commit_alone status) { length = length key }
fault_outcome status Memory = commit_alone status

-- how a transaction ended, or why it was refused
abbrev pub commit_outcome : Result Committed TxnRefusal → CommitOutcome
commit_outcome (Ok done) = end_outcome done
commit_outcome (Err (Early outcome)) = record (commit_alone outcome.status) { column = outcome.column }
commit_outcome (Err (Commit fault)) = fault_outcome (commit_status fault) fault

-- as much of that key as fits lies over what was there; after any other answer all stays
abbrev pub fault_laid : CommitFault → List ℕ → List ℕ
fault_laid MomentTooLarge out = out
fault_laid BadLease out = out
fault_laid (LeaseEnded until now) out = out
fault_laid WrongSchema out = out
fault_laid (Conflict key) out = laid out key
fault_laid Memory out = out

abbrev pub key_laid : Result Committed TxnRefusal → List ℕ → List ℕ
key_laid (Ok done) out = out
key_laid (Err (Early outcome)) out = out
key_laid (Err (Commit fault)) out = fault_laid fault out
