-- Cited by the contracts of cagzhomul_publish, cagzhomul_begin_reorg and of what they call.
-- Schema changes in a world behind a handle.
use Rattle.std.specs.Prelude.{◌≡◌, ℕ, ℤ, List, Option, Some, None, Result, Ok, Err}
use Rattle.handles.specs.BoundedWorld.{BoundedWorld}
use Rattle.handles.specs.Changes.{PublishesIn, BeginsIn}
use Rattle.handles.specs.Statuses.{ok, closed}
use Rattle.handles.specs.ChangeRefusal.{ChangeRefusal}
use Rattle.handles.specs.declared.engine.Engine.{Engine}
use Rattle.handles.specs.declared.engine.Engine.TheVariants as engine
use Rattle.operator_calls.specs.declared.changes.ChangeOutcome.{ChangeOutcome}

-- a status alone
abbrev pub change_status : ℤ → ChangeOutcome
change_status status = record { status = status; number = 0 }

-- a version or a place, or a refusal with its number
abbrev pub change_outcome : Result ℕ ChangeRefusal → ChangeOutcome
change_outcome (Ok number) = record { status = ok; number = number }
change_outcome (Err refusal) = record { status = refusal.status; number = refusal.number }

abbrev pub PublishesOf : BoundedWorld → ℕ → List ℕ → ChangeOutcome → BoundedWorld → Type 0
PublishesOf old moment code outcome new = (answer : Result ℕ ChangeRefusal) × PublishesIn old moment code answer new × (outcome ≡ change_outcome answer)

abbrev pub BeginsOf : BoundedWorld → ℕ → ℕ → ℕ → ChangeOutcome → BoundedWorld → Type 0
BeginsOf old moment element pieces outcome new = (answer : Result ℕ ChangeRefusal) × BeginsIn old moment element pieces answer new × (outcome ≡ change_outcome answer)

-- behind a handle, which stays open
abbrev pub Publishes : Option Engine → ℕ → List ℕ → ChangeOutcome → Option Engine → Type 0
Publishes None moment code outcome new = (outcome ≡ change_status closed) × (new ≡ None)
Publishes (Some (engine.World old)) moment code outcome new = (world : BoundedWorld) × PublishesOf old moment code outcome world × (new ≡ Some (engine.World world))
Publishes (Some other) moment code outcome new = (outcome ≡ change_status closed) × (new ≡ Some other)

abbrev pub Begins : Option Engine → ℕ → ℕ → ℕ → ChangeOutcome → Option Engine → Type 0
Begins None moment element pieces outcome new = (outcome ≡ change_status closed) × (new ≡ None)
Begins (Some (engine.World old)) moment element pieces outcome new = (world : BoundedWorld) × BeginsOf old moment element pieces outcome world × (new ≡ Some (engine.World world))
Begins (Some other) moment element pieces outcome new = (outcome ≡ change_status closed) × (new ≡ Some other)
