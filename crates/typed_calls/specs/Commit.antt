-- Cited by the contracts of commit and of what it calls.
-- A prepared transaction that is committed to a world.
use Rattle.std.specs.Prelude.{◌≡◌, ℕ, Result, Ok, Err}
use Rattle.row_write.specs.Made.{PreparedTxn}
use Rattle.script_session.specs.State.{State}
use Rattle.script_session.specs.Calls.{CommitStep}
use Rattle.script_session.specs.Committed.{Committed}
use Rattle.script_session.specs.CommitFault.{CommitFault}
use Rattle.typed_calls.specs.Bounded.{Within}
use Rattle.typed_calls.specs.Refusals.{refused}
use Rattle.typed_calls.specs.Statuses.{too_far}
use Rattle.typed_calls.specs.declared.bounded.BoundedWorld.{BoundedWorld}
use Rattle.typed_calls.specs.declared.refusals.TxnRefusal.{TxnRefusal}
use Rattle.typed_calls.specs.declared.refusals.TxnRefusal.TheVariants.{Commit}

-- the step of `World::commit`, or its refusal with the transaction
abbrev pub CommitsWorld : State → ℕ → PreparedTxn → Result Committed (TxnRefusal × PreparedTxn) → State → Type 0
CommitsWorld old moment prepared (Ok done) new = CommitStep old moment prepared (Ok done) new
CommitsWorld old moment prepared (Err refusal) new =
    (fault : CommitFault) × CommitStep old moment prepared (Err (fault, prepared)) new × (refusal ≡ (Commit fault, prepared))

abbrev pub CommitsIn : BoundedWorld → ℕ → PreparedTxn → Result Committed (TxnRefusal × PreparedTxn) → BoundedWorld → Type 0
CommitsIn old moment prepared answer new = Within (Err (refused too_far, prepared)) (λ world a world'. CommitsWorld world moment prepared a world') old moment answer new
