-- Cited by the definitions of Answer.
-- A transaction of a script: it reads, is prepared and is committed at once.
use Rattle.std.specs.Prelude.{◌≡◌, ℕ, List, Ok, Err, codes}
use Rattle.row_write.specs.declared.op.RowOp.{RowOp}
use Rattle.row_write.specs.Made.{PreparedTxn}
use Rattle.script_replies.specs.Calls.{effective_moment, CommitAt}
use Rattle.script_replies.specs.State.{State}
use Rattle.script_replies.specs.Transactions.{commit_name, committed_text, prepare_name}
use Rattle.script_session.specs.declared.session.ServerLease.{ServerLease}
use Rattle.script_session.specs.declared.prepare.Preparation.TheVariants as preparation
use Rattle.script_session.specs.declared.txn.Transacted.{Transacted}
use Rattle.script_session.specs.declared.txn.Transacted.TheVariants.{Ended, Unprepared, Rejected, OutOfMemory}
use Rattle.script_session.specs.Prepare.{IsPreparedFor, Prepares}
use Rattle.script_replies.specs.Texts.{refused}

-- how a transaction may end, and the world that it leaves
abbrev pub Transacts : State → ServerLease → ℕ → List RowOp → Transacted → State → Type 0
Transacts old held moment ops OutOfMemory new = new ≡ old
Transacts old held moment ops (Unprepared fault) new = Prepares old held ops (preparation.Unprepared fault) × (new ≡ old)
Transacts old held moment ops (Rejected fault) new =
    (prepared : PreparedTxn) × IsPreparedFor old held ops prepared × CommitAt old (effective_moment old moment) prepared (Err fault) new
Transacts old held moment ops (Ended done) new =
    (prepared : PreparedTxn) × IsPreparedFor old held ops prepared × CommitAt old (effective_moment old moment) prepared (Ok done) new

-- ---- its reply

abbrev pub transacted_text : Transacted → List ℕ
transacted_text (Ended done) = committed_text done
transacted_text (Unprepared fault) = refused (prepare_name fault)
transacted_text (Rejected fault) = refused (commit_name fault)
transacted_text OutOfMemory = refused (codes "Memory")
