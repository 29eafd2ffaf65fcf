-- Steps made of schedules are allowed, and move each schedule on.
use Rattle.std.specs.Prelude.{◌≡◌, ℕ, zero, suc, ◌+◌, List, [], ◌∷◌, ◌++◌, Contains, flat_map, refl}
use Rattle.std.proofs.Common.{sym, ap, subst, ◌∙◌, arith}
use Rattle.std.proofs.lemmas.List.{append-nil}
use Rattle.std.proofs.lemmas.List.Concat.{flat_map-cons}
use Rattle.std.proofs.lemmas.List.Sorted.{IsPermutation-refl}
use Rattle.std.proofs.lemmas.Grind.{flat_map-append}
use Rattle.schema_version.specs.declared.step.Move.{Move}
use Rattle.schema_version.specs.Version.{Version, element_at}
use Rattle.schema_version.specs.Moves.{IsAllowed, after_step}
use Rattle.change_plan.proofs.StepEffects.{after_allowed}
use Rattle.change_plan.specs.declared.least_plan.Reorg.{Reorg}
use Rattle.change_plan.specs.Plans.{AreAllowed, IsWorkBefore, after_plan, work_before, work_of}
use Rattle.change_plan.specs.declared.schedule.Transition.{Transition}
use Rattle.change_plan.specs.declared.schedule.Transition.TheVariants.{Wait, Appear, Reach, Return}
use Rattle.change_plan.specs.declared.schedule.Schedule.{Schedule}
use Rattle.change_plan.specs.Schedule.{transition_at, steps_from, work_by, move_of, work_of_schedule}
use Rattle.change_plan.proofs.Named.{contains_first, contains_later}
use Rattle.change_plan.proofs.Schedules.{stop_at, here, Leg, Rests, Starts, Runs, Turns as TurnsBack, leg}
use Rattle.change_plan.proofs.ScheduleMoves.{moved_by}
use Rattle.change_plan.proofs.ScheduleRules.{AreSchedules, IsAt, HasRoom}
use Rattle.change_plan.proofs.StepAllowed.{step_allowed}
use Rattle.change_plan.proofs.AfterStep.{is_after}

-- the order of the moves is one of the orders
in_moves_order : (version : Version) (moves : List Move) (before : List Reorg) → before ≡ flat_map (work_before version) moves → IsWorkBefore version moves before
in_moves_order version moves before is = subst (IsWorkBefore version moves) (sym is) (IsPermutation-refl (flat_map (work_before version) moves))

module _ (old : Version) (schedules : List Schedule) (are : AreSchedules old schedules) where
  module _ (time : ℕ) (now : Version) (at : IsAt old schedules time now) where
    -- ---- the work that stands before the step

    schedule_work : (schedule : Schedule) → Contains schedules schedule → work_of_schedule time schedule ≡ flat_map (work_before now) (move_of time schedule)
    schedule_work schedule has = pick (leg schedule time)
      where
        work_is : (transition : Transition) → transition_at schedule time ≡ transition → work_of_schedule time schedule ≡ work_by schedule.number schedule.fresh.kind transition
        work_is transition is = ap (work_by schedule.number schedule.fresh.kind) is

        pick : Leg schedule.state_path (transition_at schedule time) (stop_at schedule time) (stop_at schedule (suc time)) → work_of_schedule time schedule ≡ flat_map (work_before now) (move_of time schedule)
        pick (Rests transition same) = work_is Wait transition ∙ ap (flat_map (work_before now)) (sym (moved_by time schedule Wait transition))
        pick (Starts transition away to is) = work_is Appear transition ∙ ap (flat_map (work_before now)) (sym (moved_by time schedule Appear transition))
        pick (TurnsBack state transition stands private to) = work_is Return transition ∙ ap (flat_map (work_before now)) (sym (moved_by time schedule Return transition))
        pick (Runs state way goal after transition stands along to) =
            work_is (Reach goal) transition
            ∙ ap (λ o. work_of o goal) (sym (at.schedule schedule has ∙ ap (here schedule.number schedule.fresh) stands))
            ∙ sym (append-nil (work_of (element_at now schedule.number) goal))
            ∙ ap (flat_map (work_before now)) (sym (moved_by time schedule (Reach goal) transition))

    all_work : (some : List Schedule) → ((schedule : Schedule) → Contains some schedule → Contains schedules schedule) → flat_map (work_of_schedule time) some ≡ flat_map (work_before now) (flat_map (move_of time) some)
    all_work [] among = refl
    all_work (schedule ∷ some) among =
        flat_map-cons (work_of_schedule time) schedule some
        ∙ ap (λ w. w ++ flat_map (work_of_schedule time) some) (schedule_work schedule (among schedule (contains_first schedule some)))
        ∙ ap (λ w. flat_map (work_before now) (move_of time schedule) ++ w) (all_work some (λ t has. among t (contains_later schedule some t has)))
        ∙ sym (flat_map-append (work_before now) (move_of time schedule) (flat_map (move_of time) some))
        ∙ ap (flat_map (work_before now)) (sym (flat_map-cons (move_of time) schedule some))

  -- ---- all steps

  pub steps_allowed : HasRoom old schedules → (count time : ℕ) (now : Version) → IsAt old schedules time now → AreAllowed now (steps_from schedules time count)
  steps_allowed room zero time now at = tt
  steps_allowed room (suc count) time now at =
      let allowed : IsAllowed now (flat_map (move_of time) schedules) = step_allowed old schedules are time now at room in (
        allowed,
        in_moves_order now (flat_map (move_of time) schedules) _ (all_work time now at schedules (λ t has. has)),
        steps_allowed room count (suc time) _ (is_after old schedules are time now at _ (after_allowed now (flat_map (move_of time) schedules) at.numbered allowed)),
      )

  pub after_steps : HasRoom old schedules → (count time : ℕ) (now : Version) → IsAt old schedules time now → IsAt old schedules (time + count) (after_plan now (steps_from schedules time count))
  after_steps room zero time now at = subst (λ t. IsAt old schedules t now) (omega arith) at
  after_steps room (suc count) time now at =
      let allowed : IsAllowed now (flat_map (move_of time) schedules) = step_allowed old schedules are time now at room in
      let behind : IsAt old schedules (suc time + count) (after_plan (after_step now (flat_map (move_of time) schedules)) (steps_from schedules (suc time) count)) = after_steps room count (suc time) _ (is_after old schedules are time now at _ (after_allowed now (flat_map (move_of time) schedules) at.numbered allowed)) in
      subst (λ t. IsAt old schedules t (after_plan (after_step now (flat_map (move_of time) schedules)) (steps_from schedules (suc time) count))) (omega arith) behind
