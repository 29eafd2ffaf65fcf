-- Cited by the contracts of cagzhomul_commit, cagzhomul_txn_entry and of what they call.
-- A prepared transaction is committed, or the entry of its commit is told, and its handle is then closed.
use Rattle.std.specs.Prelude.{◌≡◌, ℕ, ◌⊎◌, List, Option, Some, None, Result, Ok, Err}
use Rattle.row_write.specs.Made.{PreparedTxn}
use Rattle.typed_calls.specs.Committed.{Committed}
use Rattle.typed_calls.specs.Committed.TheVariants.{Done, Refused}
use Rattle.typed_calls.specs.Commit.{CommitsIn}
use Rattle.typed_calls.specs.Proposals.{ProposesIn}
use Rattle.typed_calls.specs.Refusals.{refused}
use Rattle.typed_calls.specs.Statuses.{closed, already_open, out_of_memory}
use Rattle.typed_calls.specs.declared.bounded.BoundedWorld.{BoundedWorld}
use Rattle.typed_calls.specs.declared.refusals.TxnRefusal.{TxnRefusal}
use Rattle.handles.specs.declared.engine.Engine.{Engine}
use Rattle.handles.specs.declared.engine.Engine.TheVariants as engine
use Rattle.handles.specs.declared.commit_outcome.CommitOutcome.{CommitOutcome}
use Rattle.handles.specs.CommitOutcomes.{commit_outcome, key_laid}

-- ---- commit

-- a transaction that ended is gone; one that is refused comes back as it was
abbrev pub CommitsTxn : BoundedWorld → ℕ → PreparedTxn → Result Committed TxnRefusal → BoundedWorld → Option Engine → Type 0
CommitsTxn old moment txn (Ok done) new left = CommitsIn old moment txn (Ok done) new × (left ≡ None)
CommitsTxn old moment txn (Err refusal) new left =
    (it : PreparedTxn) × CommitsIn old moment txn (Err (refusal, it)) new × (left ≡ Some (engine.Txn it))

abbrev pub CommitsEngine : BoundedWorld → ℕ → Engine → Result Committed TxnRefusal → BoundedWorld → Option Engine → Type 0
CommitsEngine old moment (engine.Txn txn) answer new left = CommitsTxn old moment txn answer new left
CommitsEngine old moment other answer new left = (answer ≡ Err (refused closed)) × (new ≡ old) × (left ≡ Some other)

abbrev pub CommitsTo : BoundedWorld → ℕ → Option Engine → Result Committed TxnRefusal → BoundedWorld → Option Engine → Type 0
CommitsTo old moment None answer new left = (answer ≡ Err (refused closed)) × (new ≡ old) × (left ≡ None)
CommitsTo old moment (Some e) answer new left = CommitsEngine old moment e answer new left

-- in the world of a handle, which stays open
abbrev pub CommitsBy : Option Engine → ℕ → Option Engine → Result Committed TxnRefusal → Option Engine → Option Engine → Type 0
CommitsBy None moment txn answer new left = (answer ≡ Err (refused closed)) × (new ≡ None) × (left ≡ txn)
CommitsBy (Some (engine.World bounded)) moment txn answer new left =
    (it : BoundedWorld) × CommitsTo bounded moment txn answer it left × (new ≡ Some (engine.World it))
CommitsBy (Some other) moment txn answer new left = (answer ≡ Err (refused closed)) × (new ≡ Some other) × (left ≡ txn)

-- the same, as it is reported, with the caller's bytes before and after it
abbrev pub Commits : Option Engine → ℕ → Option Engine → List ℕ → CommitOutcome → List ℕ → Option Engine → Option Engine → Type 0
Commits old moment txn out outcome out' new left =
    (answer : Result Committed TxnRefusal) × CommitsBy old moment txn answer new left × (outcome ≡ commit_outcome answer) × (out' ≡ key_laid answer out)

-- ---- txn_entry

-- what a commit now would answer, with the code of its entry if it is accepted; or memory ran out before it was tried
abbrev pub ProposesTxn : BoundedWorld → ℕ → PreparedTxn → Result Committed TxnRefusal → Option Engine → Option Engine → Type 0
ProposesTxn bounded moment txn (Ok (Done receipt)) left bytes =
    (code : List ℕ) × ProposesIn bounded moment txn (Ok (Done receipt, code)) × (left ≡ None) × (bytes ≡ Some (engine.Bytes code))
ProposesTxn bounded moment txn (Ok (Refused op why)) left bytes =
    (code : List ℕ) × ProposesIn bounded moment txn (Ok (Refused op why, code)) × (left ≡ None) × (bytes ≡ None)
ProposesTxn bounded moment txn (Err refusal) left bytes =
    ((refusal ≡ refused out_of_memory) × (left ≡ Some (engine.Txn txn)) × (bytes ≡ None))
    ⊎ ((it : PreparedTxn) × ProposesIn bounded moment txn (Err (refusal, it)) × (left ≡ Some (engine.Txn it)) × (bytes ≡ None))

abbrev pub ProposesEngine : BoundedWorld → ℕ → Engine → Result Committed TxnRefusal → Option Engine → Option Engine → Type 0
ProposesEngine bounded moment (engine.Txn txn) answer left bytes = ProposesTxn bounded moment txn answer left bytes
ProposesEngine bounded moment other answer left bytes = (answer ≡ Err (refused closed)) × (left ≡ Some other) × (bytes ≡ None)

abbrev pub ProposesFor : BoundedWorld → ℕ → Option Engine → Result Committed TxnRefusal → Option Engine → Option Engine → Type 0
ProposesFor bounded moment None answer left bytes = (answer ≡ Err (refused closed)) × (left ≡ None) × (bytes ≡ None)
ProposesFor bounded moment (Some e) answer left bytes = ProposesEngine bounded moment e answer left bytes

abbrev pub ProposesOf : Option Engine → ℕ → Option Engine → Result Committed TxnRefusal → Option Engine → Option Engine → Type 0
ProposesOf None moment txn answer left bytes = (answer ≡ Err (refused closed)) × (left ≡ txn) × (bytes ≡ None)
ProposesOf (Some (engine.World bounded)) moment txn answer left bytes = ProposesFor bounded moment txn answer left bytes
ProposesOf (Some other) moment txn answer left bytes = (answer ≡ Err (refused closed)) × (left ≡ txn) × (bytes ≡ None)

-- into a closed handle
abbrev pub ProposesBy : Option Engine → ℕ → Option Engine → Option Engine → Result Committed TxnRefusal → Option Engine → Option Engine → Type 0
ProposesBy world moment txn (Some e) answer left bytes = (answer ≡ Err (refused already_open)) × (left ≡ txn) × (bytes ≡ Some e)
ProposesBy world moment txn None answer left bytes = ProposesOf world moment txn answer left bytes

-- the same, as it is reported, with the caller's bytes before and after it
abbrev pub Proposes : Option Engine → ℕ → Option Engine → List ℕ → Option Engine → CommitOutcome → List ℕ → Option Engine → Option Engine → Type 0
Proposes world moment txn out bytes outcome out' left bytes' =
    (answer : Result Committed TxnRefusal) × ProposesBy world moment txn bytes answer left bytes' × (outcome ≡ commit_outcome answer) × (out' ≡ key_laid answer out)
