-- The schedule ends where the changes want, and is the least plan.
use Rattle.std.specs.Prelude.{◌≡◌, ℕ, ◌+◌, ◌≤◌, max, List, [], ◌∷◌, Bool, true, false, Option, Some, None, Contains, refl}
use Rattle.std.specs.List.{list_any, AllZip, AllByRecursion as All}
use mathlib.Core.List.{map as each}
use Rattle.std.proofs.Common.{sym, ap, subst, ◌∙◌, inl, inr, arith}
use Rattle.std.proofs.Math.Nat.{le-max_left, le-max_right}
use Rattle.schema_version.specs.declared.element.ElementState.TheVariants.{Public}
use Rattle.schema_version.specs.declared.element.Way.TheVariants.{Adding}
use Rattle.schema_version.specs.declared.element.Kind.TheVariants.{Index}
use Rattle.schema_version.specs.declared.element.ElementDef.{ElementDef}
use Rattle.schema_version.specs.Version.{Version, element_at, is_index}
use Rattle.schema_version.specs.Sound.{IsSoundVersion}
use Rattle.change_plan.proofs.MoveEffects.{not_both}
use Rattle.change_plan.proofs.StepEffects.{not_given}
use Rattle.change_plan.specs.declared.change.Change.{Change}
use Rattle.change_plan.specs.declared.change.Change.TheVariants.{AddIndex, DropIndex, AddColumn, DropColumn, Abandon}
use Rattle.change_plan.specs.declared.fault.PlanFault.TheVariants.{Unknown}
use Rattle.change_plan.specs.Plans.{IsTarget, IsLeast, Drops, Adds, IsAddition, IsColumnNamed}
use Rattle.change_plan.specs.Batches.{named, named_index, named_column, dropped_element, adds_column}
use Rattle.change_plan.specs.Refusals.{IsPlannable}
use Rattle.change_plan.specs.declared.schedule.Schedule.{Schedule}
use Rattle.change_plan.specs.Schedule.{duration, longest, out_schedule, index_schedule, column_schedule, schedules, planned_steps, wait_in, number_of, column_number, added_number, number_or}
use Rattle.change_plan.proofs.Named.{contains_first, contains_later, contains_cases, contains_none, ordered}
use Rattle.change_plan.proofs.Leaving.{column_there, column_type, has_type, abandoned, departs, clear}
use Rattle.change_plan.proofs.Least.{planned_short}
use Rattle.change_plan.proofs.ScheduleMoves.{find_schedule}
use Rattle.change_plan.proofs.Schedules.{is_in, element_of, here, at_destination}
use Rattle.change_plan.proofs.ScheduleRules.{IsAt, HasRoom, AreSchedules, at_first}
use Rattle.change_plan.proofs.Lawful.{steps_allowed, after_steps}
use Rattle.change_plan.proofs.Schedules.{arrives_in, arrives_out}
use Rattle.change_plan.proofs.Batch.{From, NewIndex, NewColumn, Leaves, comes_in, out_of}
use Rattle.change_plan.proofs.MadeSchedules.{made, made_leaving, made_added}
use Rattle.change_plan.proofs.Places.{own_name, index_named, column_named, is_true_if_not_false, moved_element, no_schedule_of, stays, column_kind, place_of, has_change, Place}
use Rattle.change_plan.proofs.Fits.{are_schedules}

within_longest : (schedules : List Schedule) (schedule : Schedule) → Contains schedules schedule → duration schedule ≤ longest schedules
within_longest [] schedule has = absurd (contains_none schedule has)
within_longest (x ∷ xs) schedule has = elim (contains_cases x xs schedule has) [
  | inl is ↦ let one : duration x ≤ duration schedule = subst (λ (t : Schedule). duration x ≤ duration t) is (omega arith) in subst (λ (t : Schedule). duration t ≤ max (duration x) (longest xs)) is (le-max_left (duration x) (longest xs))
  | inr more ↦ let rest : duration schedule ≤ longest xs = within_longest xs schedule more in omega (arith, le-max_right (duration x) (longest xs))
]

zip_each : {A B : Type 0} (R : A → B → Type 0) (f : A → B) (xs : List A) → ((x : A) → Contains xs x → R x (f x)) → AllZip R xs (each f xs)
zip_each R f [] h = tt
zip_each R f (x ∷ xs) h = (h x (contains_first x xs), zip_each R f xs (λ y has. h y (contains_later x xs y has)))

all_from : {A : Type 0} (P : A → Type 0) (xs : List A) → ((x : A) → Contains xs x → P x) → All P xs
all_from P [] h = tt
all_from P (x ∷ xs) h = (h x (contains_first x xs), all_from P xs (λ y has. h y (contains_later x xs y has)))

module _ (old : Version) (sound : IsSoundVersion old) (all : List Change) (plannable : IsPlannable old all) (time : ℕ) (long : longest (schedules old all) ≤ time) (new : Version) (at : IsAt old (schedules old all) time new) where
  arrives : (schedule : Schedule) → Contains (schedules old all) schedule → is_in schedule.state_path ≡ true → element_at new schedule.number ≡ Some (element_of schedule.number schedule.fresh Public Adding)
  arrives schedule has is_new =
      let within : duration schedule ≤ longest (schedules old all) = within_longest (schedules old all) schedule has in
      at.schedule schedule has ∙ ap (here schedule.number schedule.fresh) (at_destination schedule time (omega arith) ∙ arrives_in schedule.state_path is_new)

  leaves : (schedule : Schedule) → Contains (schedules old all) schedule → is_in schedule.state_path ≡ false → element_at new schedule.number ≡ None
  leaves schedule has is_out =
      let within : duration schedule ≤ longest (schedules old all) = within_longest (schedules old all) schedule has in
      at.schedule schedule has ∙ ap (here schedule.number schedule.fresh) (at_destination schedule time (omega arith) ∙ arrives_out schedule.state_path is_out)

  kept : (number : ℕ) (element : ElementDef) → element_at old number ≡ Some element → ((change : Change) → Contains all change → ¬ (Drops element change)) → element_at new number ≡ Some element
  kept number e at_old not_dropped = elim (find_schedule (schedules old all) number) [
    | inr none ↦ at.rest number none ∙ at_old
    | inl found ↦ (let moved = moved_element old sound all plannable found.0 found.1 e at_own (found.2 ∙ sym own) in absurd (not_dropped moved.0 moved.1 (departs old sound all plannable moved.0 moved.1 e moved.2).taken))
  ]
    where
      own : e.number ≡ number
      own = (ordered sound).numbered number e at_old

      at_own : element_at old e.number ≡ Some e
      at_own = subst (λ n. element_at old n ≡ Some e) (sym own) at_old

  -- what a change drops, it takes out
  is_leaving : (number : ℕ) (e : ElementDef) (change : Change) → element_at old number ≡ Some e → Contains all change → Drops e change → dropped_element old change ≡ Some e
  is_leaving number e (DropIndex table name) at_old has d = subst (λ t. named_index old t name ≡ Some e) d.1 (subst (λ n. named_index old e.table n ≡ Some e) d.2 (index_named old sound number e at_old (ap is_index d.3)))
  is_leaving number e (DropColumn table name) at_old has d = subst (λ t. named_column old t name ≡ Some e) d.1 (subst (λ n. named_column old e.table n ≡ Some e) d.2 (column_named old sound number e at_old (has_type e.kind d.0 d.3)))
  is_leaving number e (Abandon table name) at_old has d = abandoned old sound all plannable table name has e (subst (λ t. named old t name ≡ Some e) d.0 (subst (λ n. named old e.table n ≡ Some e) d.1 (own_name old sound number e at_old)))
  is_leaving number e change at_old has d = absurd d

  dropped : (number : ℕ) (element : ElementDef) (change : Change) → element_at old number ≡ Some element → Contains all change → Drops element change → element_at new number ≡ None
  dropped number e change at_old has d =
      subst (λ n. element_at new n ≡ None) ((ordered sound).numbered number e at_old) (leaves (out_schedule old all e) (made_leaving old all change e has (is_leaving number e change at_old has d)) (out_of e.kind e.state))

  -- a listed column of an added index, in the end
  column_in_end : (table : ℕ) (name : List ℕ) (columns : List (List ℕ)) → Contains all (AddIndex table name columns) → (own : List ℕ) → Contains columns own → IsColumnNamed new table own (column_number old all table own)
  column_in_end table name columns has own among = pick (named_column old table own) refl
    where
      is_some_test : Option ElementDef → Bool
      is_some_test None = false
      is_some_test (Some x) = true

      pick : (o : Option ElementDef) → named_column old table own ≡ o → IsColumnNamed new table own (column_number old all table own)
      pick None none =
          let added : list_any (adds_column table own) all ≡ true = is_true_if_not_false _ (λ f. clear old sound all plannable (AddIndex table name columns) has Unknown (λ earlier. inr (own, among, ap is_some_test none, f))) in
          let m = made_added old all [] all table own added in
          let type = column_type m.0 (column_kind old sound all plannable table own m.0 m.1) in
          subst (IsColumnNamed new table own) (sym (ap (λ o. number_or o (added_number old.next all [] table own all)) none))
          (element_of (added_number old.next all [] table own all) (record { table = table; name = own; kind = m.0 }) Public Adding, type.0, arrives _ m.2 (comes_in m.0), refl, refl, type.1)
      pick (Some e) found =
          let there = column_there old (ordered sound) table own e found in
          let type = column_type e.kind there.3 in
          subst (IsColumnNamed new table own) (sym (ap (λ o. number_or o (added_number old.next all [] table own all)) found))
          (e, type.0, at.rest e.number (no_schedule_of old sound all plannable e there.0 (stays old sound all plannable table name columns has own among e found)) ∙ there.0, there.1, there.2, type.1)

  index_adds : (table : ℕ) (name : List ℕ) (columns : List (List ℕ)) → Contains all (AddIndex table name columns) → (number : ℕ) → Adds new (element_of number (record { table = table; name = name; kind = Index (each (column_number old all table) columns) }) Public Adding) (AddIndex table name columns)
  index_adds table name columns has number = (each (column_number old all table) columns, refl, refl, refl, zip_each (IsColumnNamed new table) (column_number old all table) columns (column_in_end table name columns has))

  not_yet : (schedule : Schedule) → Contains (schedules old all) schedule → is_in schedule.state_path ≡ true → element_at old schedule.number ≡ None
  not_yet schedule has is_new = not_given old (ordered sound) schedule.number (((are_schedules old sound all plannable).schedule schedule has).added is_new).unused

  added_one : (change : Change) → Contains all change → IsAddition change → (number : ℕ) × (element : ElementDef) × (element_at old number ≡ None) × (element_at new number ≡ Some element) × (element.state ≡ Public) × Adds new element change
  added_one (AddIndex table name columns) has is =
      let m = made old all all (AddIndex table name columns) has [] in
      let schedule : Schedule = index_schedule old all m.0 table name columns in
      let among : Contains (schedules old all) schedule = m.1 schedule (contains_first schedule []) in
      let is_new : is_in schedule.state_path ≡ true = refl in
      (schedule.number, element_of schedule.number schedule.fresh Public Adding, not_yet schedule among is_new, arrives schedule among is_new, refl, index_adds table name columns has schedule.number)
  added_one (AddColumn table name kind) has is =
      let m = made old all all (AddColumn table name kind) has [] in
      let schedule : Schedule = column_schedule (number_of old.next all m.0 0) table name kind in
      let among : Contains (schedules old all) schedule = m.1 schedule (contains_first schedule []) in
      (schedule.number, element_of schedule.number schedule.fresh Public Adding, not_yet schedule among (comes_in kind), arrives schedule among (comes_in kind), refl, (refl, refl, refl))
  added_one change has is = absurd is

  only : (number : ℕ) (element : ElementDef) → element_at old number ≡ None → element_at new number ≡ Some element → (change : Change) × Contains all change × (element.state ≡ Public) × Adds new element change
  only number e at_old at_new = elim (find_schedule (schedules old all) number) [
    | inr none ↦ absurd (not_both e (element_at new number) at_new (at.rest number none ∙ at_old))
    | inl found ↦ of_schedule found.0 found.1 found.2 (place_of old sound all plannable found.0 found.1)
  ]
    where
      of_schedule : (schedule : Schedule) → Contains (schedules old all) schedule → schedule.number ≡ number → Place old sound all plannable schedule → (change : Change) × Contains all change × (e.state ≡ Public) × Adds new e change
      of_schedule schedule has is_number p = pick p.place.from_change
        where
          is_element : is_in schedule.state_path ≡ true → element_of schedule.number schedule.fresh Public Adding ≡ e
          is_element is_new = let same : Some (element_of schedule.number schedule.fresh Public Adding) ≡ Some e = sym (arrives schedule has is_new) ∙ ap (element_at new) is_number ∙ at_new in some_same _ _ same
            where
              some_same : (a b : ElementDef) → Some a ≡ Some b → a ≡ b
              some_same a b s = cc

          answer : is_in schedule.state_path ≡ true → (change : Change) → Contains all change → Adds new (element_of schedule.number schedule.fresh Public Adding) change → (c : Change) × Contains all c × (e.state ≡ Public) × Adds new e c
          answer is_new change among adds = (change, among, ap (λ (x : ElementDef). x.state) (sym (is_element is_new)), subst (λ x. Adds new x change) (is_element is_new) adds)

          gone : is_in schedule.state_path ≡ false → ⊥
          gone is_out = not_both e (element_at new number) at_new (sym (ap (element_at new) is_number) ∙ leaves schedule has is_out)

          pick : From old all p.place.before p.place.change schedule → (change : Change) × Contains all change × (e.state ≡ Public) × Adds new e change
          pick (NewIndex table name columns change is) =
              let among : Contains all (AddIndex table name columns) = subst (Contains all) change (has_change old sound all plannable schedule p) in
              answer (ap (λ (t : Schedule). is_in t.state_path) is) (AddIndex table name columns) among
              (subst (λ (t : Schedule). Adds new (element_of t.number t.fresh Public Adding) (AddIndex table name columns)) (sym is) (index_adds table name columns among (number_of old.next all p.place.before (wait_in all table columns))))
          pick (NewColumn table name kind change is) =
              answer (ap (λ (t : Schedule). is_in t.state_path) is ∙ comes_in kind) (AddColumn table name kind) (subst (Contains all) change (has_change old sound all plannable schedule p)) (subst (λ (t : Schedule). Adds new (element_of t.number t.fresh Public Adding) (AddColumn table name kind)) (sym is) (refl, refl, refl))
          pick (Leaves g found is) = absurd (gone (ap (λ (t : Schedule). is_in t.state_path) is ∙ out_of g.kind g.state))

  pub target : IsTarget old all new
  target = record { tables = at.tables; kept = kept; dropped = dropped; added = all_from _ all added_one; only = only }

-- the schedule of a batch that can be planned is lawful, and least
pub least_with_room : (old : Version) → IsSoundVersion old → (changes : List Change) → IsPlannable old changes → HasRoom old (schedules old changes) → IsLeast old changes (planned_steps old changes)
least_with_room old sound changes plannable room = record {
  lawful = record {
    allowed = steps_allowed old (schedules old changes) are room (longest (schedules old changes)) 0 old first;
    target = target old sound changes plannable (0 + longest (schedules old changes)) (omega arith) _ (after_steps old (schedules old changes) are room (longest (schedules old changes)) 0 old first);
  };
  least = planned_short old sound changes plannable;
}
  where
    are : AreSchedules old (schedules old changes)
    are = are_schedules old sound changes plannable

    first : IsAt old (schedules old changes) 0 old
    first = at_first old (schedules old changes) are
