-- Lists that loops make, one element after another.
use Rattle.std.proofs.Common.{◌≡◌, ℕ, zero, suc, ◌+◌, List, [], ◌∷◌, ◌++◌, ap, ◌∙◌, arith}
use Rattle.change_plan.specs.declared.schedule.Schedule.{Schedule}
use Rattle.change_plan.specs.Schedule.{step_at, steps_from}

one_more : (schedules : List Schedule) (from count : ℕ) → steps_from schedules from (suc count) ≡ steps_from schedules from count ++ step_at schedules (from + count) ∷ []
one_more schedules from zero = ap (λ time. step_at schedules time ∷ []) (omega arith)
one_more schedules from (suc count) = ap (λ steps. step_at schedules from ∷ steps) (one_more schedules (suc from) count ∙ ap (λ time. steps_from schedules (suc from) count ++ step_at schedules time ∷ []) (omega arith))

-- a plan with one step more
pub grown : (schedules : List Schedule) (count : ℕ) → steps_from schedules 0 (count + 1) ≡ steps_from schedules 0 count ++ step_at schedules count ∷ []
grown schedules count =
    let one : count + 1 ≡ suc count = omega arith in
    let none : 0 + count ≡ count = omega arith in
    ap (steps_from schedules 0) one ∙ one_more schedules 0 count ∙ ap (λ time. steps_from schedules 0 count ++ step_at schedules time ∷ []) none
