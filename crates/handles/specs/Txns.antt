-- Cited by the contracts of cagzhomul_read, cagzhomul_read_again, cagzhomul_prepare and of what they call.
-- The operations of a transaction with what they read, in a handle of their own, and the transaction that is prepared from them.
use Rattle.std.specs.Prelude.{◌≡◌, ℕ, ◌⊎◌, ℤ, List, Option, Some, None, Result, Ok, Err}
use Rattle.row_write.specs.Made.{PreparedTxn}
use Rattle.typed_calls.specs.State.{State}
use Rattle.typed_calls.specs.ServerLease.{ServerLease}
use Rattle.typed_calls.specs.Reads.{ReadsFor, ReadsPinned}
use Rattle.typed_calls.specs.Prepare.{Prepares, prepare_alone}
use Rattle.typed_calls.specs.Statuses.{ok, closed, already_open}
use Rattle.typed_calls.specs.declared.preparation.PrepareOutcome.{PrepareOutcome}
use Rattle.typed_calls.specs.declared.reads.Reads.{Reads}
use Rattle.handles.specs.declared.engine.Engine.{Engine}
use Rattle.handles.specs.declared.engine.Engine.TheVariants as engine
use Rattle.handles.specs.Handles.{Fills}

-- ---- read

-- the operations with what they read of the world, or the status of their refusal
abbrev pub ReadsInto : State → ServerLease → List ℕ → ℤ → Option Engine → Type 0
ReadsInto world held operations status reads =
    ((it : Reads) × ReadsFor world held operations (Ok it) × Fills (engine.Reads it) status reads)
    ⊎ (ReadsFor world held operations (Err status) × (reads ≡ None))

-- under the lease of a handle
abbrev pub ReadsUnder : State → Option Engine → List ℕ → ℤ → Option Engine → Type 0
ReadsUnder world None operations status reads = (status ≡ closed) × (reads ≡ None)
ReadsUnder world (Some (engine.Lease held)) operations status reads = ReadsInto world held operations status reads
ReadsUnder world (Some other) operations status reads = (status ≡ closed) × (reads ≡ None)

abbrev pub ReadsOf : Option Engine → Option Engine → List ℕ → ℤ → Option Engine → Type 0
ReadsOf None lease operations status reads = (status ≡ closed) × (reads ≡ None)
ReadsOf (Some (engine.World bounded)) lease operations status reads = ReadsUnder bounded.world lease operations status reads
ReadsOf (Some other) lease operations status reads = (status ≡ closed) × (reads ≡ None)

-- into a closed handle
abbrev pub ReadsFirst : Option Engine → Option Engine → List ℕ → Option Engine → ℤ → Option Engine → Type 0
ReadsFirst world lease operations (Some e) status reads = (status ≡ already_open) × (reads ≡ Some e)
ReadsFirst world lease operations None status reads = ReadsOf world lease operations status reads

-- ---- read_again

-- other operations, with what was read before of the keys that they read; a refusal changes nothing
abbrev pub ReadsMore : State → Reads → List ℕ → ℤ → Reads → Type 0
ReadsMore world old operations status new =
    ((status ≡ ok) × ReadsPinned world old.view old.held operations (Ok new))
    ⊎ (ReadsPinned world old.view old.held operations (Err status) × (new ≡ old))

-- in place of what the handle held
abbrev pub ReadsOver : State → Option Engine → List ℕ → ℤ → Option Engine → Type 0
ReadsOver world None operations status reads = (status ≡ closed) × (reads ≡ None)
ReadsOver world (Some (engine.Reads old)) operations status reads =
    (it : Reads) × ReadsMore world old operations status it × (reads ≡ Some (engine.Reads it))
ReadsOver world (Some other) operations status reads = (status ≡ closed) × (reads ≡ Some other)

abbrev pub ReadsAgain : Option Engine → Option Engine → List ℕ → ℤ → Option Engine → Type 0
ReadsAgain None old operations status reads = (status ≡ closed) × (reads ≡ old)
ReadsAgain (Some (engine.World bounded)) old operations status reads = ReadsOver bounded.world old operations status reads
ReadsAgain (Some other) old operations status reads = (status ≡ closed) × (reads ≡ old)

-- ---- prepare

-- the handle, which was closed, holds the transaction, unless memory ran out; after a refusal it is closed
abbrev pub KeepsTxn : Result PreparedTxn PrepareOutcome → PrepareOutcome → Option Engine → Type 0
KeepsTxn (Ok prepared) outcome txn = (status : ℤ) × Fills (engine.Txn prepared) status txn × (outcome ≡ prepare_alone status)
KeepsTxn (Err refusal) outcome txn = (outcome ≡ refusal) × (txn ≡ None)

abbrev pub PreparesInto : Reads → PrepareOutcome → Option Engine → Type 0
PreparesInto reads outcome txn = (answer : Result PreparedTxn PrepareOutcome) × Prepares reads answer × KeepsTxn answer outcome txn

abbrev pub PreparesOf : Option Engine → PrepareOutcome → Option Engine → Type 0
PreparesOf None outcome txn = (outcome ≡ prepare_alone closed) × (txn ≡ None)
PreparesOf (Some (engine.Reads reads)) outcome txn = PreparesInto reads outcome txn
PreparesOf (Some other) outcome txn = (outcome ≡ prepare_alone closed) × (txn ≡ None)

-- into a closed handle
abbrev pub PreparesTo : Option Engine → Option Engine → PrepareOutcome → Option Engine → Type 0
PreparesTo reads (Some e) outcome txn = (outcome ≡ prepare_alone already_open) × (txn ≡ Some e)
PreparesTo reads None outcome txn = PreparesOf reads outcome txn
