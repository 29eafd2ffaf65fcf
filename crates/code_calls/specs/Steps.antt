-- Cited by the contracts of cagzhomul_plan_step and of what it calls.
-- The steps of a plan, each as a code of its own.
use Rattle.std.specs.Prelude.{◌≡◌, ◌⊎◌, ℕ, List, length, Option, Some, None, slice_get}
use Rattle.change_plan.specs.declared.least_plan.PlanStep.{PlanStep}
use Rattle.entry_code.specs.Code.{plan_code, step_code}
use Rattle.entry_code.specs.Known.{IsPlan}
use Rattle.handles.specs.Calls.{laid, Refuses}
use Rattle.handles.specs.declared.outcome.Outcome.{Outcome}
use Rattle.keycode.specs.Valid.{IsStorable}
use Rattle.schema_version.specs.declared.step.Move.{Move}
use Rattle.typed_calls.specs.Bounded.{IsNoCode}
use Rattle.typed_calls.specs.Statuses.{bad_code, bad_count, ok, out_of_memory}

-- the step's code lies in the caller's bytes, unless memory ran out
abbrev pub ShowsMoves : List Move → List ℕ → Outcome → List ℕ → Type 0
ShowsMoves step out outcome out' =
    ((outcome ≡ record { status = ok; length = length (step_code step) }) × (out' ≡ laid out (step_code step))) ⊎ Refuses out_of_memory out outcome out'

abbrev pub ShowsStep : Option PlanStep → List ℕ → Outcome → List ℕ → Type 0
ShowsStep None out outcome out' = Refuses bad_count out outcome out'
ShowsStep (Some planned) out outcome out' = ShowsMoves planned.step out outcome out'

-- the bytes are the code of no plan, or memory ran out, or the step of this number is shown if there is one
abbrev pub FindsStep : List ℕ → ℕ → List ℕ → Outcome → List ℕ → Type 0
FindsStep plan number out outcome out' =
    (Refuses bad_code out outcome out' × IsNoCode (IsPlan IsStorable) plan_code plan)
    ⊎ Refuses out_of_memory out outcome out'
    ⊎ ((steps : List PlanStep) × IsPlan IsStorable steps × (plan ≡ plan_code steps) × ShowsStep (slice_get steps number) out outcome out')
