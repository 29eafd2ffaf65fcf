-- Cited by the definitions of Answer.
-- The plan that a script keeps, and what is printed of it.
use Rattle.std.specs.Prelude.{◌≡◌, ℕ, List, [], ◌∷◌, Result, Ok, Err, ◌⊎◌}
use mathlib.Core.List.{map as each}
use Rattle.change_plan.specs.declared.change.Change.{Change}
use Rattle.change_plan.specs.declared.fault.PlanFault.{PlanFault}
use Rattle.change_plan.specs.declared.fault.PlanFault.TheVariants as plan_fault
use Rattle.change_plan.specs.declared.least_plan.LeastPlan.{LeastPlan}
use Rattle.change_plan.specs.declared.least_plan.PlanStep.{PlanStep}
use Rattle.change_plan.specs.Refusals.{IsPlannable, IsRefused}
use Rattle.change_plan.specs.Schedule.{planned_steps}
use Rattle.schema_version.specs.declared.step.Move.{Move}
use Rattle.schema_version.specs.Version.{Version}
use Rattle.script_replies.specs.Receipt.{Receipt}
use Rattle.script_replies.specs.PublishFault.{PublishFault}

-- the batch's schedule, which is the least plan, or why there is none
abbrev pub IsPlanOf : Version → List Change → Result LeastPlan PlanFault → Type 0
IsPlanOf version changes (Ok plan) = IsPlannable version changes × (plan.steps ≡ planned_steps version changes)
IsPlanOf version changes (Err fault) = ((fault ≡ plan_fault.Memory) × IsPlannable version changes) ⊎ IsRefused version changes fault

-- what is left after the first step
abbrev pub rest_of : List (List Move) → List (List Move)
rest_of [] = []
rest_of (step ∷ rest) = rest

-- a step that was published is taken off the plan
abbrev pub left_of : List (List Move) → Result (ℕ × Receipt) PublishFault → List (List Move)
left_of plan (Ok done) = rest_of plan
left_of plan (Err fault) = plan

-- an accepted plan takes the place of the last one, a refused one leaves it
abbrev pub kept_plan : List (List Move) → Result LeastPlan PlanFault → List (List Move)
kept_plan last (Ok plan) = each (λ (step : PlanStep). step.step) plan.steps
kept_plan last (Err fault) = last
