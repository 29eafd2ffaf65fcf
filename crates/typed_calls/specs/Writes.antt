-- Cited by the contracts of write and of what it calls.
-- A transaction in one call: what its operations read is read, it is prepared from that, and committed.
use Rattle.std.specs.Prelude.{◌≡◌, ℕ, ◌⊎◌, List, Result, Ok, Err}
use Rattle.std.specs.FinMap as map
use Rattle.entry_code.specs.Code.{ops_code}
use Rattle.entry_code.specs.Known.{AreOps}
use Rattle.keycode.specs.Order.{bytes_cmp}
use Rattle.keycode.specs.Valid.{IsStorable}
use Rattle.row_map.specs.Expect.{View}
use Rattle.row_write.specs.Made.{PreparedTxn}
use Rattle.row_write.specs.declared.op.RowOp.{RowOp}
use Rattle.script_session.specs.declared.session.ServerLease.{ServerLease}
use Rattle.script_session.specs.State.{State}
use Rattle.script_session.specs.Calls.{CommitStep, IsReadView}
use Rattle.script_session.specs.Committed.{Committed}
use Rattle.script_session.specs.CommitFault.{CommitFault}
use Rattle.typed_calls.specs.Prepare.{IsPreparedFrom, IsUnprepared}
use Rattle.typed_calls.specs.Refusals.{refused}
use Rattle.typed_calls.specs.Bounded.{Within, IsNoCode}
use Rattle.typed_calls.specs.Statuses.{bad_code, out_of_memory, too_far}
use Rattle.typed_calls.specs.Reads.{AreReads}
use Rattle.typed_calls.specs.declared.bounded.BoundedWorld.{BoundedWorld}
use Rattle.typed_calls.specs.declared.preparation.PrepareOutcome.{PrepareOutcome}
use Rattle.typed_calls.specs.declared.refusals.TxnRefusal.{TxnRefusal}
use Rattle.typed_calls.specs.declared.refusals.TxnRefusal.TheVariants.{Early, Commit}

-- the pairs of the world that the operations read
abbrev pub IsReadFor : State → ServerLease → List RowOp → View → Type 0
IsReadFor world held ops view = (keys : map.FinMap bytes_cmp (Unit {0})) × AreReads held.schema ops keys × IsReadView world keys view

-- the step of `World::commit`, or its refusal
abbrev pub WritesPrepared : State → ℕ → PreparedTxn → Result Committed TxnRefusal → State → Type 0
WritesPrepared old moment prepared (Ok done) new = CommitStep old moment prepared (Ok done) new
WritesPrepared old moment prepared (Err refusal) new =
    (fault : CommitFault) × CommitStep old moment prepared (Err (fault, prepared)) new × (refusal ≡ Commit fault)

-- it is prepared from what was read, and committed; or its preparation is refused
abbrev pub WritesRead : State → ℕ → ServerLease → List RowOp → View → Result Committed TxnRefusal → State → Type 0
WritesRead old moment held ops view answer new =
    ((prepared : PreparedTxn) × IsPreparedFrom held ops view prepared × WritesPrepared old moment prepared answer new)
    ⊎ ((outcome : PrepareOutcome) × IsUnprepared held ops view outcome × (answer ≡ Err (Early outcome)) × (new ≡ old))

-- it is read, or memory ran out before
abbrev pub WritesOps : State → ℕ → ServerLease → List RowOp → Result Committed TxnRefusal → State → Type 0
WritesOps old moment held ops answer new =
    ((view : View) × IsReadFor old held ops view × WritesRead old moment held ops view answer new)
    ⊎ ((answer ≡ Err (refused out_of_memory)) × (new ≡ old))

abbrev pub WritesCode : State → ℕ → ServerLease → List ℕ → Result Committed TxnRefusal → State → Type 0
WritesCode old moment held code answer new = (ops : List RowOp) × AreOps IsStorable ops × (code ≡ ops_code ops) × WritesOps old moment held ops answer new

-- the bytes are the code of operations; or of none, or memory ran out before they were read
abbrev pub WritesWorld : State → ℕ → ServerLease → List ℕ → Result Committed TxnRefusal → State → Type 0
WritesWorld old moment held code answer new =
    ((answer ≡ Err (refused bad_code)) × IsNoCode (AreOps IsStorable) ops_code code × (new ≡ old))
    ⊎ ((answer ≡ Err (refused out_of_memory)) × (new ≡ old))
    ⊎ WritesCode old moment held code answer new

abbrev pub WritesIn : BoundedWorld → ℕ → ServerLease → List ℕ → Result Committed TxnRefusal → BoundedWorld → Type 0
WritesIn old moment held code answer new =
    Within (Err (refused too_far)) (λ world a world'. WritesWorld world moment held code a world') old moment answer new
