-- Cited by the contracts of cagzhomul_advance and of what it calls.
-- An act of the changes under way, in a world behind a handle.
use Rattle.std.specs.Prelude.{◌≡◌, ℕ, ℤ, Option, Some, None, Result, Ok, Err}
use Rattle.rollout.specs.Advance.{AdvanceStep}
use Rattle.rollout.specs.declared.advanced.Advanced.{Advanced}
use Rattle.rollout.specs.declared.advanced.Advanced.TheVariants.{Began, Published, Worked, Waiting, Finished}
use Rattle.rollout.specs.declared.advanced.AdvanceFault.{AdvanceFault}
use Rattle.rollout.specs.declared.advanced.AdvanceFault.TheVariants.{BadCount, MomentTooLarge, VersionsSpent, Memory}
use Rattle.handles.specs.Bounded.{Within}
use Rattle.handles.specs.BoundedWorld.{BoundedWorld}
use Rattle.handles.specs.State.{State}
use Rattle.handles.specs.Statuses.{ok, closed, out_of_memory, too_far, waiting, finished, bad_count, moment_too_large, versions_spent}
use Rattle.handles.specs.declared.engine.Engine.{Engine}
use Rattle.handles.specs.declared.engine.Engine.TheVariants as engine
use Rattle.operator_calls.specs.declared.advances.AdvanceOutcome.{AdvanceOutcome}

-- a status without a moment
abbrev pub advance_alone : ℤ → AdvanceOutcome
advance_alone status = record { status = status; until = 0 }

-- what an act, or its refusal, is reported as
abbrev pub advance_outcome : Result Advanced AdvanceFault → AdvanceOutcome
advance_outcome (Ok (Began element receipt)) = record { status = ok; until = 0 }
advance_outcome (Ok (Published version receipt)) = record { status = ok; until = 0 }
advance_outcome (Ok (Worked element done)) = record { status = ok; until = 0 }
advance_outcome (Ok (Waiting until)) = record { status = waiting; until = until }
advance_outcome (Ok Finished) = record { status = finished; until = 0 }
advance_outcome (Err BadCount) = record { status = bad_count; until = 0 }
advance_outcome (Err MomentTooLarge) = record { status = moment_too_large; until = 0 }
advance_outcome (Err VersionsSpent) = record { status = versions_spent; until = 0 }
advance_outcome (Err Memory) = record { status = out_of_memory; until = 0 }

-- the world takes the step of `rollout::advance`, which is reported
abbrev pub AdvancesWorld : State → ℕ → ℕ → ℕ → AdvanceOutcome → State → Type 0
AdvancesWorld old moment pieces limit outcome new =
    (advanced : Result Advanced AdvanceFault) × AdvanceStep old moment pieces limit advanced new × (outcome ≡ advance_outcome advanced)

-- unless the moment is too far
abbrev pub AdvancesIn : BoundedWorld → ℕ → ℕ → ℕ → AdvanceOutcome → BoundedWorld → Type 0
AdvancesIn old moment pieces limit outcome new = Within (advance_alone too_far) (λ world a world'. AdvancesWorld world moment pieces limit a world') old moment outcome new

-- behind a handle, which stays open
abbrev pub Advances : Option Engine → ℕ → ℕ → ℕ → AdvanceOutcome → Option Engine → Type 0
Advances None moment pieces limit outcome new = (outcome ≡ advance_alone closed) × (new ≡ None)
Advances (Some (engine.World old)) moment pieces limit outcome new =
    (world : BoundedWorld) × AdvancesIn old moment pieces limit outcome world × (new ≡ Some (engine.World world))
Advances (Some other) moment pieces limit outcome new = (outcome ≡ advance_alone closed) × (new ≡ Some other)
