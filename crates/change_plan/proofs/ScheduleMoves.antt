-- The moves of schedules at a time.
use Rattle.std.specs.Prelude.{◌≡◌, ◌≢◌, ℕ, ◌+◌, ◌<◌, ◌≤◌, List, [], ◌∷◌, ◌++◌, count_by, cond, Bool, true, false, ◌&&◌, ◌||◌, ◌==◌, Contains, ◌⊎◌, flat_map, refl}
use Rattle.std.proofs.Common.{sym, subst, ◌∙◌, inl, inr, true≢false, arith, ap}
use Rattle.std.proofs.lemmas.List.Concat.{flat_map-cons}
use Rattle.std.proofs.lemmas.List.Sums.{sum_by-cons}
use Rattle.std.proofs.lemmas.List.Folds.{list_any-append}
use Rattle.std.proofs.lemmas.Bool.Decides.{Decides-eqb}
use Rattle.schema_version.specs.declared.element.ElementState.{ElementState}
use Rattle.schema_version.specs.declared.element.ElementState.TheVariants.{DeleteOnly}
use Rattle.schema_version.specs.declared.step.Move.{Move}
use Rattle.schema_version.specs.declared.step.Move.TheVariants.{Enter, Go, Turn}
use Rattle.schema_version.specs.Moves.{is_move_of, moves_element, is_entry, is_entry_like}
use Rattle.change_plan.proofs.MoveEffects.{same_or_apart}
use Rattle.change_plan.specs.declared.schedule.Transition.{Transition}
use Rattle.change_plan.specs.declared.schedule.Transition.TheVariants.{Wait, Appear, Reach, Return}
use Rattle.change_plan.specs.declared.schedule.Schedule.{Schedule}
use Rattle.change_plan.specs.Schedule.{transition_at, duration, move_by, move_of}
use Rattle.change_plan.proofs.Named.{contains_first, contains_later, contains_cases, contains_none}
use Rattle.change_plan.proofs.Schedules.{is_in, waits_or_moves, appears, appears_then}

-- ---- its moves

pub moved_by : (time : ℕ) (schedule : Schedule) (transition : Transition) → transition_at schedule time ≡ transition → move_of time schedule ≡ move_by schedule.number schedule.fresh transition
moved_by time schedule transition is = ap (move_by schedule.number schedule.fresh) is

-- at most one move
pub one_move : (time : ℕ) (schedule : Schedule) → (move_of time schedule ≡ []) ⊎ ((move : Move) × (move_of time schedule ≡ move ∷ []))
one_move time schedule = pick (transition_at schedule time) refl
  where
    pick : (transition : Transition) → transition_at schedule time ≡ transition → (move_of time schedule ≡ []) ⊎ ((move : Move) × (move_of time schedule ≡ move ∷ []))
    pick Wait is = inl (moved_by time schedule Wait is)
    pick Appear is = inr (_, moved_by time schedule Appear is)
    pick (Reach to) is = inr (_, moved_by time schedule (Reach to) is)
    pick Return is = inr (_, moved_by time schedule Return is)

nil_cons : (x : Move) (xs : List Move) → [] ≡ x ∷ xs → ⊥
nil_cons x xs e = cc

-- who moves neither waits nor is done
pub moving : (time : ℕ) (schedule : Schedule) (move : Move) → move_of time schedule ≡ move ∷ [] → (schedule.wait ≤ time) × (time < duration schedule)
moving time schedule move is = elim (waits_or_moves schedule time) [ inl none ↦ absurd (nil_cons move [] (sym (moved_by time schedule Wait none) ∙ is)) | inr moves ↦ moves ]

-- nothing enters where all leave
pub no_entry : (time : ℕ) (schedule : Schedule) → is_in schedule.state_path ≡ false → (count_by is_entry (move_of time schedule) ≡ 0) × ((table : ℕ) (index : Bool) → count_by (is_entry_like table index) (move_of time schedule) ≡ 0)
no_entry time schedule out = pick (transition_at schedule time) refl
  where
    pick : (transition : Transition) → transition_at schedule time ≡ transition → (count_by is_entry (move_of time schedule) ≡ 0) × ((table : ℕ) (index : Bool) → count_by (is_entry_like table index) (move_of time schedule) ≡ 0)
    pick Wait is = (ap (count_by is_entry) (moved_by time schedule Wait is), λ table index. ap (count_by (is_entry_like table index)) (moved_by time schedule Wait is))
    pick Appear is = absurd (true≢false (sym (appears schedule time is).1 ∙ out))
    pick Return is = (ap (count_by is_entry) (moved_by time schedule Return is), λ table index. ap (count_by (is_entry_like table index)) (moved_by time schedule Return is))
    pick (Reach to) is = (ap (count_by is_entry) (moved_by time schedule (Reach to) is), λ table index. ap (count_by (is_entry_like table index)) (moved_by time schedule (Reach to) is))

-- of the entries that a test is of, the element's own, in the step after its wait
pub entries : (test : Move → Bool) → ((number : ℕ) (to : ElementState) → test (Go number to) ≡ false) → ((number : ℕ) → test (Turn number) ≡ false) → (time : ℕ) (schedule : Schedule) → is_in schedule.state_path ≡ true → (on : Bool) → test (Enter schedule.fresh DeleteOnly) ≡ on → count_by test (move_of time schedule) ≡ cond ((schedule.wait == time) && on) 1 0
entries test goes turns time schedule new on is_on = pick (transition_at schedule time) refl
  where
    one : (move : Move) → count_by test (move ∷ []) ≡ cond (test move) 1 0
    one move = let first : count_by test (move ∷ []) ≡ cond (test move) 1 0 + count_by test [] = sum_by-cons (λ m. cond (test m) 1 0) move [] in omega (arith, first)

    not_then : (transition : Transition) → transition_at schedule time ≡ transition → (transition ≡ Appear → ⊥) → ◌≡◌ {A = ℕ} 0 (cond ((schedule.wait == time) && on) 1 0)
    not_then transition is other = ap (λ b. cond (b && on) 1 0) (sym (is_false (schedule.wait == time) (λ t. other (sym is ∙ appears_then schedule time new ((Decides-eqb schedule.wait time).0 t)))))
      where
        is_false : (b : Bool) → (b ≡ true → ⊥) → b ≡ false
        is_false true h = absurd (h refl)
        is_false false h = refl

    pick : (transition : Transition) → transition_at schedule time ≡ transition → count_by test (move_of time schedule) ≡ cond ((schedule.wait == time) && on) 1 0
    pick Wait is = ap (count_by test) (moved_by time schedule Wait is) ∙ not_then Wait is (λ e. cc)
    pick Appear is =
        ap (count_by test) (moved_by time schedule Appear is) ∙ one (Enter schedule.fresh DeleteOnly) ∙ ap (λ b. cond b 1 0) is_on
        ∙ ap (λ b. cond (b && on) 1 0) (sym ((Decides-eqb schedule.wait time).1 (sym (appears schedule time is).0)))
    pick Return is = ap (count_by test) (moved_by time schedule Return is) ∙ one (Turn schedule.number) ∙ ap (λ b. cond b 1 0) (turns schedule.number) ∙ not_then Return is (λ e. cc)
    pick (Reach to) is = ap (count_by test) (moved_by time schedule (Reach to) is) ∙ one (Go schedule.number to) ∙ ap (λ b. cond b 1 0) (goes schedule.number to) ∙ not_then (Reach to) is (λ e. cc)

-- ---- the schedule of a move

pub record Source (time : ℕ) (schedules : List Schedule) (earlier : List Move) (move : Move) : Type 0 where
  pub done : List Schedule
  pub schedule : Schedule
  pub rest : List Schedule
  pub split : schedules ≡ done ++ schedule ∷ rest
  pub move_is : move_of time schedule ≡ move ∷ []
  pub earlier_is : earlier ≡ flat_map (move_of time) done

pub source : (time : ℕ) (schedules : List Schedule) (earlier later : List Move) (move : Move) → flat_map (move_of time) schedules ≡ earlier ++ move ∷ later → Source time schedules earlier move
source time [] [] later move e = absurd (nil_cons _ _ e)
source time [] (x ∷ earlier) later move e = absurd (nil_cons _ _ e)
source time (schedule ∷ schedules) earlier later move e = elim (one_move time schedule) [
  | inl none ↦
      let behind = source time schedules earlier later move (ap (λ m. m ++ flat_map (move_of time) schedules) (sym none) ∙ sym (flat_map-cons (move_of time) schedule schedules) ∙ e) in
      record {
        done = schedule ∷ behind.done;
        schedule = behind.schedule;
        rest = behind.rest;
        split = ap (λ ts. schedule ∷ ts) behind.split;
        move_is = behind.move_is;
        earlier_is = behind.earlier_is ∙ ap (λ m. m ++ flat_map (move_of time) behind.done) (sym none) ∙ sym (flat_map-cons (move_of time) schedule behind.done);
      }
  | inr some ↦ first earlier some.0 (ap (λ m. m ++ flat_map (move_of time) schedules) (sym some.1) ∙ sym (flat_map-cons (move_of time) schedule schedules) ∙ e) some.1 (λ es f. source time schedules es later move f)
]
  where
    first : (earlier : List Move) → (some : Move) → some ∷ flat_map (move_of time) schedules ≡ earlier ++ move ∷ later → move_of time schedule ≡ some ∷ [] → ((es : List Move) → flat_map (move_of time) schedules ≡ es ++ move ∷ later → Source time schedules es move) → Source time (schedule ∷ schedules) earlier move
    first [] some e is again =
        let same : some ≡ move = cc in
        record { done = []; schedule = schedule; rest = schedules; split = refl; move_is = is ∙ ap (λ m. m ∷ []) same; earlier_is = refl }
    first (x ∷ es) some e is again =
        let same : some ≡ x = cc in
        let behind : Source time schedules es move = again es cc in
        record {
          done = schedule ∷ behind.done;
          schedule = behind.schedule;
          rest = behind.rest;
          split = ap (λ ts. schedule ∷ ts) behind.split;
          move_is = behind.move_is;
          earlier_is = ap (λ y. y ∷ es) (sym same) ∙ ap (λ ys. some ∷ ys) behind.earlier_is ∙ ap (λ m. m ++ flat_map (move_of time) behind.done) (sym is) ∙ sym (flat_map-cons (move_of time) schedule behind.done);
        }

-- whether a schedule has this number
pub find_schedule : (schedules : List Schedule) (number : ℕ) → ((schedule : Schedule) × Contains schedules schedule × (schedule.number ≡ number)) ⊎ ((schedule : Schedule) → Contains schedules schedule → schedule.number ≢ number)
find_schedule [] number = inr (λ schedule has. absurd (contains_none schedule has))
find_schedule (schedule ∷ schedules) number = elim (same_or_apart schedule.number number) [
  | inl is ↦ inl (schedule, contains_first schedule schedules, is)
  | inr ne ↦ elim (find_schedule schedules number) [
    | inl found ↦ inl (found.0, contains_later schedule schedules found.0 found.1, found.2)
    | inr none ↦ inr (λ other has. elim (contains_cases schedule schedules other has) [ inl is ↦ subst (λ (t : Schedule). t.number ≢ number) is ne | inr more ↦ none other more ])
  ]
]

-- a number that no schedule moves
schedule_quiet : (time : ℕ) (schedule : Schedule) (number : ℕ) → (schedule.number ≢ number) ⊎ (transition_at schedule time ≡ Wait) → moves_element (move_of time schedule) number ≡ false
schedule_quiet time schedule number (inr none) = ap (λ moves. moves_element moves number) (moved_by time schedule Wait none)
schedule_quiet time schedule number (inl ne) = pick (transition_at schedule time) refl
  where
    not_true : (b : Bool) → (b ≡ true → ⊥) → b ≡ false
    not_true true h = absurd (h refl)
    not_true false h = refl

    another : (schedule.number == number) ≡ false
    another = not_true (schedule.number == number) (λ t. ne ((Decides-eqb schedule.number number).0 t))

    pick : (transition : Transition) → transition_at schedule time ≡ transition → moves_element (move_of time schedule) number ≡ false
    pick Wait is = ap (λ moves. moves_element moves number) (moved_by time schedule Wait is)
    pick Appear is = ap (λ moves. moves_element moves number) (moved_by time schedule Appear is)
    pick (Reach to) is = ap (λ moves. moves_element moves number) (moved_by time schedule (Reach to) is) ∙ ap (λ b. b || false) another
    pick Return is = ap (λ moves. moves_element moves number) (moved_by time schedule Return is) ∙ ap (λ b. b || false) another

pub quiet : (time : ℕ) (schedules : List Schedule) (number : ℕ) → ((schedule : Schedule) → Contains schedules schedule → (schedule.number ≢ number) ⊎ (transition_at schedule time ≡ Wait)) → moves_element (flat_map (move_of time) schedules) number ≡ false
quiet time [] number h = refl
quiet time (schedule ∷ schedules) number h =
    ap (λ moves. moves_element moves number) (flat_map-cons (move_of time) schedule schedules)
    ∙ list_any-append (is_move_of number) (move_of time schedule) (flat_map (move_of time) schedules)
    ∙ ap (λ b. b || moves_element (flat_map (move_of time) schedules) number) (schedule_quiet time schedule number (h schedule (contains_first schedule schedules)))
    ∙ quiet time schedules number (λ t has. h t (contains_later schedule schedules t has))
