-- The schedules that a change is given.
use Rattle.std.specs.Prelude.{◌≡◌, ℕ, ◌≤◌, List, [], ◌∷◌, ◌++◌, Bool, true, false, ◌||◌, if◌then◌else◌, Some, None, Contains, refl}
use Rattle.std.specs.List.{list_any}
use Rattle.std.proofs.Common.{sym, ap, subst, ◌∙◌, inl, inr, true≢false, arith}
use Rattle.std.proofs.lemmas.List.Elements.{Contains-append_left, Contains-append_right}
use Rattle.schema_version.specs.declared.element.Kind.{Kind}
use Rattle.schema_version.specs.declared.element.ElementDef.{ElementDef}
use Rattle.schema_version.specs.Version.{Version}
use Rattle.change_plan.specs.declared.change.Change.{Change}
use Rattle.change_plan.specs.declared.change.Change.TheVariants.{AddIndex, AddColumn}
use Rattle.change_plan.specs.Batches.{dropped_element, adds_column}
use Rattle.change_plan.specs.declared.schedule.Schedule.{Schedule}
use Rattle.change_plan.specs.Schedule.{steps, state_path_in, steps_to, steps_until, wait_in, number_of, out_schedule, schedule_out, column_schedule, schedule_of, schedules_from, schedules, added_number}
use Rattle.change_plan.proofs.MoveEffects.{not_both}
use Rattle.change_plan.proofs.Named.{contains_first, contains_later, contains_cases, contains_none, same_name_is}
use Rattle.change_plan.proofs.Least.{adds_column_is}
use Rattle.std.proofs.Math.Nat.{le-max_left, le-max_right}

pub made : (old : Version) (all changes : List Change) (change : Change) → Contains changes change → (earlier : List Change) → (before : List Change) × ((schedule : Schedule) → Contains (schedule_of old all before change) schedule → Contains (schedules_from old all earlier changes) schedule)
made old all [] change has earlier = absurd (contains_none change has)
made old all (x ∷ xs) change has earlier = elim (contains_cases x xs change has) [
  | inl is ↦ (earlier, λ schedule h. Contains-append_left (schedule_of old all earlier x) _ schedule (subst (λ c. Contains (schedule_of old all earlier c) schedule) (sym is) h))
  | inr more ↦
      let rest = made old all xs change more (earlier ++ x ∷ []) in
      (rest.0, λ schedule h. Contains-append_right (schedule_of old all earlier x) _ schedule (rest.1 schedule h))
]

-- what leaves has a schedule
made_out : (old : Version) (all earlier : List Change) (change : Change) (e : ElementDef) → dropped_element old change ≡ Some e → Contains (schedule_of old all earlier change) (out_schedule old all e)
made_out old all earlier (AddIndex table name columns) e is = absurd (not_both e None is refl)
made_out old all earlier (AddColumn table name kind) e is = absurd (not_both e None is refl)
made_out old all earlier change e is = subst (λ o. Contains (schedule_out old all o) (out_schedule old all e)) (sym is) (contains_first (out_schedule old all e) [])

pub made_leaving : (old : Version) (all : List Change) (change : Change) (e : ElementDef) → Contains all change → dropped_element old change ≡ Some e → Contains (schedules old all) (out_schedule old all e)
made_leaving old all change e has is =
    let m = made old all all change has [] in
    m.1 (out_schedule old all e) (made_out old all m.0 change e is)

-- the schedule of an added column, by the number that its indexes list
pub made_added : (old : Version) (all earlier changes : List Change) (table : ℕ) (name : List ℕ) → list_any (adds_column table name) changes ≡ true
    → (kind : Kind) × Contains changes (AddColumn table name kind) × Contains (schedules_from old all earlier changes) (column_schedule (added_number old.next all earlier table name changes) table name kind)
made_added old all earlier [] table name e = absurd (true≢false (sym e))
made_added old all earlier (x ∷ xs) table name e = pick (λ t. made_added old all (earlier ++ x ∷ []) xs table name t) (adds_column table name x) refl
  where
    pick : (list_any (adds_column table name) xs ≡ true → (kind : Kind) × Contains xs (AddColumn table name kind) × Contains (schedules_from old all (earlier ++ x ∷ []) xs) (column_schedule (added_number old.next all (earlier ++ x ∷ []) table name xs) table name kind))
        → (b : Bool) → adds_column table name x ≡ b → (kind : Kind) × Contains (x ∷ xs) (AddColumn table name kind) × Contains (schedules_from old all earlier (x ∷ xs)) (column_schedule (added_number old.next all earlier table name (x ∷ xs)) table name kind)
    pick again true t =
        let is = adds_column_is table name x t in (
          is.0,
          subst (Contains (x ∷ xs)) is.1 (contains_first x xs),
          subst (λ n. Contains (schedules_from old all earlier (x ∷ xs)) (column_schedule n table name is.0))
              (sym (ap (λ b. if b then number_of old.next all earlier 0 else added_number old.next all (earlier ++ x ∷ []) table name xs) t))
              (Contains-append_left (schedule_of old all earlier x) _ _ (subst (λ c. Contains (schedule_of old all earlier c) (column_schedule (number_of old.next all earlier 0) table name is.0)) (sym is.1) (contains_first _ []))),
        )
    pick again false t =
        let rest = again (subst (λ b. (b || list_any (adds_column table name) xs) ≡ true) t e) in (
          rest.0,
          contains_later x xs _ rest.1,
          subst (λ n. Contains (schedules_from old all earlier (x ∷ xs)) (column_schedule n table name rest.0))
              (sym (ap (λ b. if b then number_of old.next all earlier 0 else added_number old.next all (earlier ++ x ∷ []) table name xs) t))
              (Contains-append_right (schedule_of old all earlier x) _ _ rest.2),
        )

-- an index waits for each column that the batch adds
until_added : (changes : List Change) (table : ℕ) (name : List ℕ) (kind : Kind) → Contains changes (AddColumn table name kind) → steps (state_path_in kind) ≤ steps_until table name changes
until_added [] table name kind has = absurd (contains_none _ has)
until_added (x ∷ xs) table name kind has = elim (contains_cases x xs (AddColumn table name kind) has) [
  | inl is ↦
      let one : steps_to table name x ≡ steps (state_path_in kind) = ap (steps_to table name) is ∙ ap (λ b. if b then steps (state_path_in kind) else 0) (same_name_is table table name name refl refl) in
      omega (arith, one, le-max_left (steps_to table name x) (steps_until table name xs))
  | inr more ↦ omega (arith, until_added xs table name kind more, le-max_right (steps_to table name x) (steps_until table name xs))
]

pub waits_for_added : (all : List Change) (table : ℕ) (name : List ℕ) (columns : List (List ℕ)) (kind : Kind) → Contains columns name → Contains all (AddColumn table name kind) → steps (state_path_in kind) ≤ wait_in all table columns
waits_for_added all table name [] kind among has = absurd (contains_none _ among)
waits_for_added all table name (x ∷ xs) kind among has = elim (contains_cases x xs name among) [
  | inl is ↦
      let one : steps (state_path_in kind) ≤ steps_until table x all = subst (λ n. steps (state_path_in kind) ≤ steps_until table n all) (sym is) (until_added all table name kind has) in
      omega (arith, one, le-max_left (steps_until table x all) (wait_in all table xs))
  | inr more ↦ omega (arith, waits_for_added all table name xs kind more has, le-max_right (steps_until table x all) (wait_in all table xs))
]
