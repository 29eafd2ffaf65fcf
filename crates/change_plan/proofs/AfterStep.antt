-- A step made of schedules moves each of them on.
use Rattle.std.specs.Prelude.{◌≡◌, ◌≢◌, ℕ, suc, ◌+◌, ◌<◌, ◌≤◌, List, [], ◌∷◌, ◌++◌, Bool, true, false, ◌||◌, ◌==◌, Some, Contains, ◌⊎◌, count_by, flat_map, cond, refl}
use Rattle.std.proofs.Common.{sym, ap, subst, ◌∙◌, inl, inr, true≢false, arith}
use Rattle.std.proofs.lemmas.List.Concat.{flat_map-cons}
use Rattle.std.proofs.lemmas.List.Folds.{list_any-append}
use Rattle.std.proofs.lemmas.Grind.{flat_map-append}
use Rattle.std.proofs.lemmas.List.Sums.{sum_by-append}
use Rattle.std.proofs.lemmas.Bool.Decides.{Decides-eqb}
use Rattle.schema_version.specs.declared.element.ElementState.{ElementState}
use Rattle.schema_version.specs.declared.element.ElementState.TheVariants.{DeleteOnly}
use Rattle.schema_version.specs.declared.element.Way.{Way}
use Rattle.schema_version.specs.declared.element.Way.TheVariants.{Adding, Dropping}
use Rattle.schema_version.specs.declared.element.ElementDef.{ElementDef}
use Rattle.schema_version.specs.declared.element.NewElement.{NewElement}
use Rattle.schema_version.specs.declared.step.Move.{Move}
use Rattle.schema_version.specs.declared.step.Move.TheVariants.{Enter, Go, Turn}
use Rattle.schema_version.specs.Version.{Version, element_at}
use Rattle.schema_version.specs.Moves.{turned_back, is_move_of, moves_element, is_entry, as_element}
use Rattle.schema_version.specs.Steps.{in_state_or_none}
use Rattle.change_plan.proofs.StepEffects.{Becomes, Stays, Comes, Goes, Turns, Midway}
use Rattle.change_plan.specs.declared.schedule.Transition.TheVariants.{Wait, Appear, Reach, Return}
use Rattle.change_plan.specs.declared.schedule.Schedule.{Schedule}
use Rattle.change_plan.specs.Schedule.{transition_at, move_of}
use Rattle.change_plan.proofs.Named.{contains_middle, split_at}
use Rattle.change_plan.proofs.Schedules.{At, stop_at, element_of, here, reaches, Leg, Rests, Starts, Runs, Turns as TurnsBack, leg}
use Rattle.change_plan.proofs.ScheduleMoves.{moved_by, Source, source}
use Rattle.change_plan.proofs.ScheduleRules.{AreSchedules, IsAt, next_at}

module _ (old : Version) (schedules : List Schedule) (are : AreSchedules old schedules) where
  module _ (time : ℕ) (now : Version) (at : IsAt old schedules time now) where
    -- the schedule of an entry, by the number that it gets
    record EntryOf (number : ℕ) (fresh : NewElement) : Type 0 where
      schedule : Schedule
      has : Contains schedules schedule
      is_number : schedule.number ≡ number
      is_fresh : schedule.fresh ≡ fresh
      to : stop_at schedule (suc time) ≡ At DeleteOnly Adding

    entry_of : (before after : List Move) (fresh : NewElement) (number : ℕ) → flat_map (move_of time) schedules ≡ before ++ Enter fresh DeleteOnly ∷ after → number ≡ now.next + count_by is_entry before → EntryOf number fresh
    entry_of before after fresh number split place = pick (leg from.schedule time)
      where
        from : Source time schedules before (Enter fresh DeleteOnly)
        from = source time schedules before after (Enter fresh DeleteOnly) split

        has : Contains schedules from.schedule
        has = subst (λ ts. Contains ts from.schedule) (sym from.split) (contains_middle from.done from.rest from.schedule)

        pick : Leg from.schedule.state_path (transition_at from.schedule time) (stop_at from.schedule time) (stop_at from.schedule (suc time)) → EntryOf number fresh
        pick (Rests transition same) = let none : [] ≡ Enter fresh DeleteOnly ∷ [] = sym (moved_by time from.schedule Wait transition) ∙ from.move_is in cc
        pick (Starts transition away to is) =
            let one : Enter from.schedule.fresh DeleteOnly ∷ [] ≡ Enter fresh DeleteOnly ∷ [] = sym (moved_by time from.schedule Appear transition) ∙ from.move_is in
            let counted : from.schedule.number ≡ next_at old schedules time + count_by is_entry (flat_map (move_of time) from.done) = are.number from.done from.rest from.schedule time from.split transition in
            let next : now.next ≡ next_at old schedules time = at.next in
            let same_count : count_by is_entry before ≡ count_by is_entry (flat_map (move_of time) from.done) = ap (count_by is_entry) from.earlier_is in
            record { schedule = from.schedule; has = has; is_number = omega arith; is_fresh = cc; to = to }
        pick (Runs state way goal after transition stands along to) =
            let one : Go from.schedule.number goal ∷ [] ≡ Enter fresh DeleteOnly ∷ [] = sym (moved_by time from.schedule (Reach goal) transition) ∙ from.move_is in
            cc
        pick (TurnsBack state transition stands private to) =
            let one : Turn from.schedule.number ∷ [] ≡ Enter fresh DeleteOnly ∷ [] = sym (moved_by time from.schedule Return transition) ∙ from.move_is in
            cc

    -- the schedule of a move
    record RunOf (number : ℕ) (to : ElementState) : Type 0 where
      schedule : Schedule
      has : Contains schedules schedule
      is_number : schedule.number ≡ number
      state : ElementState
      way : Way
      stands : stop_at schedule time ≡ At state way
      arrives : in_state_or_none (element_of schedule.number schedule.fresh state way) to ≡ here schedule.number schedule.fresh (stop_at schedule (suc time))

    run_of : (before after : List Move) (number : ℕ) (to : ElementState) → flat_map (move_of time) schedules ≡ before ++ Go number to ∷ after → RunOf number to
    run_of before after number to split = pick (leg from.schedule time)
      where
        from : Source time schedules before (Go number to)
        from = source time schedules before after (Go number to) split

        has : Contains schedules from.schedule
        has = subst (λ ts. Contains ts from.schedule) (sym from.split) (contains_middle from.done from.rest from.schedule)

        pick : Leg from.schedule.state_path (transition_at from.schedule time) (stop_at from.schedule time) (stop_at from.schedule (suc time)) → RunOf number to
        pick (Rests transition same) = let none : [] ≡ Go number to ∷ [] = sym (moved_by time from.schedule Wait transition) ∙ from.move_is in cc
        pick (Starts transition away to_stop is) =
            let one : Enter from.schedule.fresh DeleteOnly ∷ [] ≡ Go number to ∷ [] = sym (moved_by time from.schedule Appear transition) ∙ from.move_is in
            cc
        pick (Runs state way goal after transition stands along ends) =
            let one : Go from.schedule.number goal ∷ [] ≡ Go number to ∷ [] = sym (moved_by time from.schedule (Reach goal) transition) ∙ from.move_is in
            let is : goal ≡ to = cc in
            record {
              schedule = from.schedule;
              has = has;
              is_number = cc;
              state = state;
              way = way;
              stands = stands;
              arrives = subst (λ s. in_state_or_none (element_of from.schedule.number from.schedule.fresh state way) s ≡ here from.schedule.number from.schedule.fresh (stop_at from.schedule (suc time))) is
                  (reaches from.schedule.number from.schedule.fresh state way goal after (along from.schedule.fresh.kind (are.schedule from.schedule has).kind) ∙ ap (here from.schedule.number from.schedule.fresh) (sym ends));
            }
        pick (TurnsBack state transition stands private ends) =
            let one : Turn from.schedule.number ∷ [] ≡ Go number to ∷ [] = sym (moved_by time from.schedule Return transition) ∙ from.move_is in
            cc

    -- the schedule of a turn
    record TurnOf (number : ℕ) : Type 0 where
      schedule : Schedule
      has : Contains schedules schedule
      is_number : schedule.number ≡ number
      state : ElementState
      stands : stop_at schedule time ≡ At state Adding
      ends : stop_at schedule (suc time) ≡ At state Dropping

    turn_of : (before after : List Move) (number : ℕ) → flat_map (move_of time) schedules ≡ before ++ Turn number ∷ after → TurnOf number
    turn_of before after number split = pick (leg from.schedule time)
      where
        from : Source time schedules before (Turn number)
        from = source time schedules before after (Turn number) split

        has : Contains schedules from.schedule
        has = subst (λ ts. Contains ts from.schedule) (sym from.split) (contains_middle from.done from.rest from.schedule)

        pick : Leg from.schedule.state_path (transition_at from.schedule time) (stop_at from.schedule time) (stop_at from.schedule (suc time)) → TurnOf number
        pick (Rests transition same) = let none : [] ≡ Turn number ∷ [] = sym (moved_by time from.schedule Wait transition) ∙ from.move_is in cc
        pick (Starts transition away to is) =
            let one : Enter from.schedule.fresh DeleteOnly ∷ [] ≡ Turn number ∷ [] = sym (moved_by time from.schedule Appear transition) ∙ from.move_is in
            cc
        pick (Runs state way goal after transition stands along ends) =
            let one : Go from.schedule.number goal ∷ [] ≡ Turn number ∷ [] = sym (moved_by time from.schedule (Reach goal) transition) ∙ from.move_is in
            cc
        pick (TurnsBack state transition stands private ends) =
            let one : Turn from.schedule.number ∷ [] ≡ Turn number ∷ [] = sym (moved_by time from.schedule Return transition) ∙ from.move_is in
            record { schedule = from.schedule; has = has; is_number = cc; state = state; stands = stands; ends = ends }

    -- the moves of the others stand round a schedule's
    moves_split : (done rest : List Schedule) (schedule : Schedule) → schedules ≡ done ++ schedule ∷ rest → flat_map (move_of time) schedules ≡ flat_map (move_of time) done ++ (move_of time schedule ++ flat_map (move_of time) rest)
    moves_split done rest schedule split = ap (flat_map (move_of time)) split ∙ flat_map-append (move_of time) done (schedule ∷ rest) ∙ ap (λ m. flat_map (move_of time) done ++ m) (flat_map-cons (move_of time) schedule rest)

    count_both : (one two : List Move) → count_by is_entry (one ++ two) ≡ count_by is_entry one + count_by is_entry two
    count_both one two = sum_by-append (λ (m : Move). cond (is_entry m) 1 0) one two

    or_true : (a b : Bool) → b ≡ true → (a || b) ≡ true
    or_true true b e = refl
    or_true false b e = e

    or_left : (a b : Bool) → a ≡ true → (a || b) ≡ true
    or_left true b e = refl
    or_left false b e = absurd (true≢false (sym e))

    is_moved : (done rest : List Schedule) (schedule : Schedule) → schedules ≡ done ++ schedule ∷ rest → (move : Move) → move_of time schedule ≡ move ∷ [] → is_move_of schedule.number move ≡ (schedule.number == schedule.number) → moves_element (flat_map (move_of time) schedules) schedule.number ≡ true
    is_moved done rest schedule split move is own =
        ap (λ m. moves_element m schedule.number) (moves_split done rest schedule split)
        ∙ list_any-append (is_move_of schedule.number) (flat_map (move_of time) done) (move_of time schedule ++ flat_map (move_of time) rest)
        ∙ or_true _ _ (list_any-append (is_move_of schedule.number) (move_of time schedule) (flat_map (move_of time) rest)
        ∙ or_left _ _ (ap (λ m. moves_element m schedule.number) is ∙ or_left (is_move_of schedule.number move) false (own ∙ (Decides-eqb schedule.number schedule.number).1 refl)))

    module _ (after : Version) (mid : Midway now (flat_map (move_of time) schedules) (flat_map (move_of time) schedules) after) where
      schedule_after : (schedule : Schedule) → Contains schedules schedule → element_at after schedule.number ≡ here schedule.number schedule.fresh (stop_at schedule (suc time))
      schedule_after schedule has = pick (mid.becomes schedule.number)
        where
          split : (before later : List Schedule) × (schedules ≡ before ++ schedule ∷ later)
          split = split_at schedules schedule has

          still : element_at after schedule.number ≡ element_at now schedule.number → moves_element (flat_map (move_of time) schedules) schedule.number ≡ false → ((schedule.number < now.next) ⊎ (after.next ≤ schedule.number)) → Leg schedule.state_path (transition_at schedule time) (stop_at schedule time) (stop_at schedule (suc time)) → element_at after schedule.number ≡ here schedule.number schedule.fresh (stop_at schedule (suc time))
          still same unmoved outside (Rests transition rests) = same ∙ at.schedule schedule has ∙ ap (here schedule.number schedule.fresh) (sym rests)
          still same unmoved outside (Starts transition away to is) = absurd (elim outside [ inl below ↦ omega (arith, counted, next) | inr above ↦ omega (arith, counted, next, next_after, all_of) ])
            where
              counted : schedule.number ≡ next_at old schedules time + count_by is_entry (flat_map (move_of time) split.0)
              counted = are.number split.0 split.1 schedule time split.2 transition

              next : now.next ≡ next_at old schedules time
              next = at.next

              next_after : after.next ≡ now.next + count_by is_entry (flat_map (move_of time) schedules)
              next_after = mid.next

              all_of : count_by is_entry (flat_map (move_of time) schedules) ≡ count_by is_entry (flat_map (move_of time) split.0) + (1 + count_by is_entry (flat_map (move_of time) split.1))
              all_of =
                  ap (count_by is_entry) (moves_split split.0 split.1 schedule split.2)
                  ∙ count_both (flat_map (move_of time) split.0) (move_of time schedule ++ flat_map (move_of time) split.1)
                  ∙ ap (λ c. count_by is_entry (flat_map (move_of time) split.0) + c) (count_both (move_of time schedule) (flat_map (move_of time) split.1) ∙ ap (λ m. count_by is_entry m + count_by is_entry (flat_map (move_of time) split.1)) (moved_by time schedule Appear transition))
          still same unmoved outside (Runs state way goal after transition stands along to) = absurd (true≢false (sym (is_moved split.0 split.1 schedule split.2 _ (moved_by time schedule (Reach goal) transition) refl) ∙ unmoved))
          still same unmoved outside (TurnsBack state transition stands private to) = absurd (true≢false (sym (is_moved split.0 split.1 schedule split.2 _ (moved_by time schedule Return transition) refl) ∙ unmoved))

          some_same : (a b : ElementDef) → Some a ≡ Some b → a ≡ b
          some_same a b e = cc

          pick : Becomes now (flat_map (move_of time) schedules) (flat_map (move_of time) schedules) after.next schedule.number (element_at after schedule.number) → element_at after schedule.number ≡ here schedule.number schedule.fresh (stop_at schedule (suc time))
          pick (Stays same unmoved outside) = still same unmoved outside (leg schedule time)
          pick (Comes before later fresh at_split place at_now at_after ready) =
              let entry = entry_of before later fresh schedule.number at_split place in
              let same : entry.schedule ≡ schedule = are.one entry.schedule schedule entry.has has entry.is_number in
              let is_fresh : schedule.fresh ≡ fresh = subst (λ (t : Schedule). t.fresh ≡ fresh) same entry.is_fresh in
              let to : stop_at schedule (suc time) ≡ At DeleteOnly Adding = subst (λ (t : Schedule). stop_at t (suc time) ≡ At DeleteOnly Adding) same entry.to in
              at_after ∙ ap (λ f. Some (as_element schedule.number f DeleteOnly)) (sym is_fresh) ∙ ap (here schedule.number schedule.fresh) (sym to)
          pick (Goes before later to at_split may at_after) =
              let by = run_of before later schedule.number to at_split in
              let same : by.schedule ≡ schedule = are.one by.schedule schedule by.has has by.is_number in
              let stands : stop_at schedule time ≡ At by.state by.way = subst (λ (t : Schedule). stop_at t time ≡ At by.state by.way) same by.stands in
              let arrives : in_state_or_none (element_of schedule.number schedule.fresh by.state by.way) to ≡ here schedule.number schedule.fresh (stop_at schedule (suc time)) = subst (λ (t : Schedule). in_state_or_none (element_of t.number t.fresh by.state by.way) to ≡ here t.number t.fresh (stop_at t (suc time))) same by.arrives in
              let is : may.element ≡ element_of schedule.number schedule.fresh by.state by.way = some_same may.element _ (sym may.there ∙ at.schedule schedule has ∙ ap (here schedule.number schedule.fresh) stands) in
              at_after ∙ ap (λ e. in_state_or_none e to) is ∙ arrives
          pick (Turns before later at_split may at_after) =
              let by = turn_of before later schedule.number at_split in
              let same : by.schedule ≡ schedule = are.one by.schedule schedule by.has has by.is_number in
              let stands : stop_at schedule time ≡ At by.state Adding = subst (λ (t : Schedule). stop_at t time ≡ At by.state Adding) same by.stands in
              let ends : stop_at schedule (suc time) ≡ At by.state Dropping = subst (λ (t : Schedule). stop_at t (suc time) ≡ At by.state Dropping) same by.ends in
              let is : may.element ≡ element_of schedule.number schedule.fresh by.state Adding = some_same may.element _ (sym may.there ∙ at.schedule schedule has ∙ ap (here schedule.number schedule.fresh) stands) in
              at_after ∙ ap (λ e. Some (turned_back e)) is ∙ ap (here schedule.number schedule.fresh) (sym ends)

      rest_after : (number : ℕ) → ((schedule : Schedule) → Contains schedules schedule → schedule.number ≢ number) → element_at after number ≡ element_at old number
      rest_after number none = pick (mid.becomes number)
        where
          pick : Becomes now (flat_map (move_of time) schedules) (flat_map (move_of time) schedules) after.next number (element_at after number) → element_at after number ≡ element_at old number
          pick (Stays same unmoved outside) = same ∙ at.rest number none
          pick (Comes before later fresh at_split place at_now at_after ready) = let entry = entry_of before later fresh number at_split place in absurd (none entry.schedule entry.has entry.is_number)
          pick (Turns before later at_split may at_after) = let by = turn_of before later number at_split in absurd (none by.schedule by.has by.is_number)
          pick (Goes before later to at_split may at_after) = let by = run_of before later number to at_split in absurd (none by.schedule by.has by.is_number)

      pub is_after : IsAt old schedules (suc time) after
      is_after = record { numbered = mid.numbered; next = mid.next ∙ ap (λ n. n + count_by is_entry (flat_map (move_of time) schedules)) at.next; tables = mid.tables ∙ at.tables; schedule = schedule_after; rest = rest_after; like = λ table index. omega (arith, mid.like table index, at.like table index) }
