-- Cited by the contracts of cagzhomul_write and of what it calls.
-- A transaction in one call, in the world of a handle.
use Rattle.std.specs.Prelude.{◌≡◌, ℕ, List, Option, Some, None, Result, Err}
use Rattle.typed_calls.specs.Committed.{Committed}
use Rattle.typed_calls.specs.Refusals.{refused}
use Rattle.typed_calls.specs.Statuses.{closed}
use Rattle.typed_calls.specs.Writes.{WritesIn}
use Rattle.typed_calls.specs.declared.bounded.BoundedWorld.{BoundedWorld}
use Rattle.typed_calls.specs.declared.refusals.TxnRefusal.{TxnRefusal}
use Rattle.handles.specs.declared.engine.Engine.{Engine}
use Rattle.handles.specs.declared.engine.Engine.TheVariants as engine
use Rattle.handles.specs.declared.commit_outcome.CommitOutcome.{CommitOutcome}
use Rattle.handles.specs.CommitOutcomes.{commit_outcome}

-- under the lease of a handle, which stays
abbrev pub WritesUnder : BoundedWorld → ℕ → Option Engine → List ℕ → Result Committed TxnRefusal → BoundedWorld → Type 0
WritesUnder old moment None code answer new = (answer ≡ Err (refused closed)) × (new ≡ old)
WritesUnder old moment (Some (engine.Lease held)) code answer new = WritesIn old moment held code answer new
WritesUnder old moment (Some other) code answer new = (answer ≡ Err (refused closed)) × (new ≡ old)

-- in the world of a handle, which stays open
abbrev pub WritesBy : Option Engine → ℕ → Option Engine → List ℕ → Result Committed TxnRefusal → Option Engine → Type 0
WritesBy None moment lease code answer new = (answer ≡ Err (refused closed)) × (new ≡ None)
WritesBy (Some (engine.World bounded)) moment lease code answer new =
    (it : BoundedWorld) × WritesUnder bounded moment lease code answer it × (new ≡ Some (engine.World it))
WritesBy (Some other) moment lease code answer new = (answer ≡ Err (refused closed)) × (new ≡ Some other)

-- the same, as it is reported
abbrev pub Writes : Option Engine → ℕ → Option Engine → List ℕ → CommitOutcome → Option Engine → Type 0
Writes old moment lease code outcome new =
    (answer : Result Committed TxnRefusal) × WritesBy old moment lease code answer new × (outcome ≡ commit_outcome answer)
