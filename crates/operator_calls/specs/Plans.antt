-- Cited by the contracts of cagzhomul_plan and of what it calls.
-- The least plan of a batch of changes in a world behind a handle, whose code lies in the caller's bytes.
use Rattle.std.specs.Prelude.{◌≡◌, ℕ, ℤ, List, length, Option, Some, None, Result, Ok, Err}
use Rattle.handles.specs.Plans.{PlansCode}
use Rattle.handles.specs.State.{State, facts_of}
use Rattle.handles.specs.Statuses.{ok, closed}
use Rattle.handles.specs.declared.engine.Engine.{Engine}
use Rattle.handles.specs.declared.engine.Engine.TheVariants as engine
use Rattle.handles.specs.declared.outcome.Outcome.{Outcome}
use Rattle.handles.specs.Calls.{laid, Refuses}

-- as much of the code as fits lies in the caller's bytes, or there is a status alone
abbrev pub ShowsCode : Result (List ℕ) ℤ → List ℕ → Outcome → List ℕ → Type 0
ShowsCode (Ok code) out outcome out' = (outcome ≡ record { status = ok; length = length code }) × (out' ≡ laid out code)
ShowsCode (Err status) out outcome out' = Refuses status out outcome out'

abbrev pub PlansOf : State → List ℕ → List ℕ → Outcome → List ℕ → Type 0
PlansOf world changes out outcome out' = (answer : Result (List ℕ) ℤ) × PlansCode (facts_of world).newest changes answer × ShowsCode answer out outcome out'

-- behind a handle
abbrev pub Plans : Option Engine → List ℕ → List ℕ → Outcome → List ℕ → Type 0
Plans None changes out outcome out' = Refuses closed out outcome out'
Plans (Some (engine.World bounded)) changes out outcome out' = PlansOf bounded.world changes out outcome out'
Plans (Some other) changes out outcome out' = Refuses closed out outcome out'
