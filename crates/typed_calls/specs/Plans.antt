-- Cited by the contracts of plan and of what it calls.
-- The least plan of a batch of changes by their code, from a version: the code of its steps.
use Rattle.std.specs.Prelude.{◌≡◌, ◌⊎◌, ℕ, ℤ, List, Result, Ok, Err}
use Rattle.change_plan.specs.declared.change.Change.{Change}
use Rattle.change_plan.specs.declared.fault.PlanFault.{PlanFault}
use Rattle.change_plan.specs.declared.fault.PlanFault.TheVariants as plan_fault
use Rattle.change_plan.specs.declared.least_plan.PlanStep.{PlanStep}
use Rattle.change_plan.specs.Plans.{IsLeast}
use Rattle.change_plan.specs.Refusals.{IsPlannable, IsRefused}
use Rattle.change_plan.specs.Schedule.{planned_steps}
use Rattle.entry_code.specs.Code.{changes_code, plan_code}
use Rattle.entry_code.specs.Known.{AreChanges}
use Rattle.keycode.specs.Valid.{IsStorable}
use Rattle.schema_version.specs.Version.{Version}
use Rattle.typed_calls.specs.Bounded.{IsNoCode}
use Rattle.typed_calls.specs.Statuses.{bad_code, dependent, in_change, name_taken, out_of_memory, over_limit, unknown}

-- what a batch that cannot be planned is reported as
abbrev pub plan_status : PlanFault → ℤ
plan_status plan_fault.Unknown = unknown
plan_status plan_fault.NameTaken = name_taken
plan_status plan_fault.StillIndexed = dependent
plan_status plan_fault.InChange = in_change
plan_status plan_fault.Limit = over_limit
plan_status plan_fault.Memory = out_of_memory

-- the code of the batch's schedule, which is a least plan; or the fault of the first change that has one, or memory ran out
abbrev pub PlansFrom : Version → List Change → Result (List ℕ) ℤ → Type 0
PlansFrom version changes (Ok code) =
    (steps : List PlanStep) × IsPlannable version changes × IsLeast version changes steps × (steps ≡ planned_steps version changes) × (code ≡ plan_code steps)
PlansFrom version changes (Err status) =
    ((status ≡ out_of_memory) × IsPlannable version changes)
    ⊎ ((fault : PlanFault) × IsRefused version changes fault × (status ≡ plan_status fault))

-- the bytes are the code of a batch, which is planned or refused; or of none, or memory ran out before they were read
abbrev pub PlansCode : Version → List ℕ → Result (List ℕ) ℤ → Type 0
PlansCode version code answer =
    ((answer ≡ Err bad_code) × IsNoCode (AreChanges IsStorable) changes_code code)
    ⊎ (answer ≡ Err out_of_memory)
    ⊎ ((changes : List Change) × AreChanges IsStorable changes × (code ≡ changes_code changes) × PlansFrom version changes answer)
