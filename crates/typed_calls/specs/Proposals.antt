-- Cited by the contracts of entry_coded, txn_entry and of what they call.
-- The entry that a commit would add to the log.
use Rattle.std.specs.Prelude.{◌≡◌, ℕ, ◌⊎◌, ℤ, List, Result, Ok, Err}
use Rattle.checkpoint.specs.Checkpoint.{checkpoint_of}
use Rattle.entry_code.specs.Code.{entry_code}
use Rattle.replay.specs.declared.entry.Entry.{Entry}
use Rattle.row_write.specs.Made.{PreparedTxn}
use Rattle.script_session.specs.State.{State, entry_count, facts_of, opened}
use Rattle.script_session.specs.Calls.{CommitStep}
use Rattle.script_session.specs.Committed.{Committed}
use Rattle.script_session.specs.Committed.TheVariants.{Done, Refused}
use Rattle.typed_calls.specs.Bounded.{SeenWithin}
use Rattle.typed_calls.specs.Commit.{CommitsWorld}
use Rattle.typed_calls.specs.Refusals.{refused}
use Rattle.typed_calls.specs.Statuses.{out_of_memory, too_far}
use Rattle.typed_calls.specs.declared.bounded.BoundedWorld.{BoundedWorld}
use Rattle.typed_calls.specs.declared.refusals.TxnRefusal.{TxnRefusal}

-- the code of the entry, unless memory ran out
abbrev pub CodesEntry : Entry → Result (List ℕ) ℤ → Type 0
CodesEntry entry (Ok code) = code ≡ entry_code entry
CodesEntry entry (Err status) = status ≡ out_of_memory

-- a world that goes on from where this one stands: no call tells the two apart
abbrev pub fork_of : State → State
fork_of world = opened (checkpoint_of (entry_count world) (facts_of world))

-- it accepts the commit, and the code is that of the entry that this adds; or the rows refuse it there
abbrev pub ProposesDone : State → ℕ → PreparedTxn → Committed → List ℕ → Type 0
ProposesDone fork moment prepared (Done receipt) code = (new : State) × CommitStep fork moment prepared (Ok (Done receipt)) new × (code ≡ entry_code receipt.entry)
ProposesDone fork moment prepared (Refused op why) code = (new : State) × CommitStep fork moment prepared (Ok (Refused op why)) new

-- or it refuses the commit, or memory ran out
abbrev pub ProposesWorld : State → ℕ → PreparedTxn → Result (Committed × List ℕ) (TxnRefusal × PreparedTxn) → Type 0
ProposesWorld world moment prepared (Ok (done, code)) = ProposesDone (fork_of world) moment prepared done code
ProposesWorld world moment prepared (Err refusal) =
    (refusal ≡ (refused out_of_memory, prepared)) ⊎ ((new : State) × CommitsWorld (fork_of world) moment prepared (Err refusal) new)

abbrev pub ProposesIn : BoundedWorld → ℕ → PreparedTxn → Result (Committed × List ℕ) (TxnRefusal × PreparedTxn) → Type 0
ProposesIn bounded moment prepared answer = SeenWithin (Err (refused too_far, prepared)) (λ world a. ProposesWorld world moment prepared a) bounded moment answer
