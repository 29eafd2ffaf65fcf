-- There is room for each element of a batch that can be planned.
use Rattle.std.specs.Prelude.{◌≡◌, ℕ, zero, suc, ◌+◌, ◌<◌, ◌≤◌, List, [], ◌∷◌, Bool, true, false, ◌&&◌, ◌==◌, Option, Some, None, Contains, count_by, flat_map, cond, refl}
use mathlib.Core.List.{map as each}
use Rattle.std.proofs.Common.{sym, ap, subst, ◌∙◌, inl, inr, true≢false, arith}
use Rattle.std.proofs.lemmas.Bool.{cases_lt}
use Rattle.std.proofs.lemmas.Bool.Decides.{Decides-eqb}
use Rattle.schema_version.specs.declared.element.Kind.TheVariants.{Index}
use Rattle.schema_version.specs.declared.element.ElementDef.{ElementDef}
use Rattle.schema_version.specs.Version.{Version, is_index, is_column, is_like, count_live}
use Rattle.schema_version.specs.Sound.{IsSoundVersion}
use Rattle.schema_version.specs.Moves.{is_entry_like, count_like, max_like}
use Rattle.change_plan.specs.declared.change.Change.{Change}
use Rattle.change_plan.specs.declared.change.Change.TheVariants.{AddIndex, AddColumn}
use Rattle.change_plan.specs.declared.fault.PlanFault.TheVariants.{Limit}
use Rattle.change_plan.specs.Plans.{IsLeast}
use Rattle.change_plan.specs.Batches.{dropped_element}
use Rattle.change_plan.specs.Refusals.{IsPlannable, adds_like, is_addition, IsOver}
use Rattle.change_plan.specs.declared.schedule.Schedule.{Schedule}
use Rattle.change_plan.specs.Schedule.{move_of, out_schedule, schedule_out, index_schedule, column_schedule, schedule_of, schedules, planned_steps, enters_at, enters_before, number_of, column_number}
use Rattle.change_plan.proofs.Schedules.{is_in, appears}
use Rattle.change_plan.proofs.ScheduleMoves.{no_entry, entries}
use Rattle.change_plan.proofs.EntryNumbers.{count_first, count_split, count_two, count_within, each_next, each_addition, none_before}
use Rattle.change_plan.proofs.Leaving.{column_if, clear}
use Rattle.change_plan.proofs.ScheduleRules.{HasRoom, entered_like}
use Rattle.change_plan.proofs.Batch.{From, NewIndex, NewColumn, Leaves, comes_in, out_of, Placed, placed, counts, alone, Role, Enters, Goes, role}
use Rattle.change_plan.proofs.Places.{column_kind, Place, has_change}
use Rattle.change_plan.proofs.Target.{least_with_room}

of_index : (index : Bool) (columns : List ℕ) → is_like index (Index columns) ≡ index
of_index true columns = refl
of_index false columns = refl

and_count : (one two whole like : Bool) → ◌≡◌ {A = ℕ} (cond whole 1 0) (cond one 1 0 + cond two 1 0) → ◌≡◌ {A = ℕ} (cond (whole && like) 1 0) (cond (one && like) 1 0 + cond (two && like) 1 0)
and_count true true true true e = e
and_count true true true false e = omega arith
and_count true true false true e = e
and_count true true false false e = omega arith
and_count true false true like e = omega arith
and_count true false false like e = absurd (omega (arith, e))
and_count false true true like e = omega arith
and_count false true false like e = absurd (omega (arith, e))
and_count false false true like e = absurd (omega (arith, e))
and_count false false false like e = omega arith

and_within : (one two like : Bool) → cond one 1 0 + cond two 1 0 ≤ 1 → cond (one && like) 1 0 + cond (two && like) 1 0 ≤ cond like 1 0
and_within true true like e = absurd (omega (arith, e))
and_within true false like e = omega arith
and_within false true like e = omega arith
and_within false false like e = omega arith

module _ (old : Version) (all : List Change) (table : ℕ) (index : Bool) where
  -- of those that wait so many steps, or fewer, the ones of this kind in this table
  abbrev like_at : ℕ → Change → Bool
  like_at wait change = enters_at all wait change && adds_like table index change

  abbrev like_before : ℕ → Change → Bool
  like_before wait change = enters_before all wait change && adds_like table index change

  next_like : (wait : ℕ) (xs : List Change) → count_by (like_before (suc wait)) xs ≡ count_by (like_before wait) xs + count_by (like_at wait) xs
  next_like wait xs = count_two (like_before wait) (like_at wait) (like_before (suc wait)) (λ x. and_count (enters_before all wait x) (enters_at all wait x) (enters_before all (suc wait) x) (adds_like table index x) (each_next all wait x)) xs

  all_like : (wait : ℕ) (xs : List Change) → count_by (like_before wait) xs + count_by (like_at wait) xs ≤ count_by (adds_like table index) xs
  all_like wait xs = count_within (like_before wait) (like_at wait) (adds_like table index) (λ x. and_within (enters_before all wait x) (enters_at all wait x) (adds_like table index x) (one_at_most x)) xs
    where
      one_at_most : (x : Change) → cond (enters_before all wait x) 1 0 + cond (enters_at all wait x) 1 0 ≤ 1
      one_at_most x = omega (arith, each_addition all wait x, at_most_one (is_addition x))
        where
          at_most_one : (b : Bool) → cond b 1 0 ≤ 1
          at_most_one true = omega arith
          at_most_one false = omega arith

  none_like : (xs : List Change) → count_by (like_before 0) xs ≡ 0
  none_like xs = let whole : count_by (enters_before all 0) xs ≡ 0 = none_before all xs in omega (arith, whole, fewer xs)
    where
      fewer : (ys : List Change) → count_by (like_before 0) ys ≤ count_by (enters_before all 0) ys
      fewer [] = omega arith
      fewer (y ∷ ys) = omega (arith, fewer ys, count_first (like_before 0) y ys, count_first (enters_before all 0) y ys, both (enters_before all 0 y) (adds_like table index y))
        where
          both : (a b : Bool) → cond (a && b) 1 0 ≤ cond a 1 0
          both true true = omega arith
          both true false = omega arith
          both false b = omega arith

  out_none : (time : ℕ) (o : Option ElementDef) → count_by (is_entry_like table index) (flat_map (move_of time) (schedule_out old all o)) ≡ 0
  out_none time None = refl
  out_none time (Some e) = ap (count_by (is_entry_like table index)) (alone time (out_schedule old all e)) ∙ (no_entry time (out_schedule old all e) (out_of e.kind e.state)).1 table index

  one_like : (time : ℕ) (schedule : Schedule) → is_in schedule.state_path ≡ true → (on : Bool) → ((schedule.fresh.table == table) && is_like index schedule.fresh.kind) ≡ on → count_by (is_entry_like table index) (flat_map (move_of time) (schedule ∷ [])) ≡ cond ((schedule.wait == time) && on) 1 0
  one_like time schedule new on is = ap (count_by (is_entry_like table index)) (alone time schedule) ∙ entries (is_entry_like table index) (λ n to. refl) (λ n. refl) time schedule new on is

  like_entries : (time : ℕ) (earlier : List Change) (change : Change) → count_by (is_entry_like table index) (flat_map (move_of time) (schedule_of old all earlier change)) ≡ cond (like_at time change) 1 0
  like_entries time earlier (AddIndex own name columns) =
      one_like time (index_schedule old all earlier own name columns) refl ((own == table) && index) (ap (λ b. (own == table) && b) (of_index index (each (column_number old all own) columns)))
  like_entries time earlier (AddColumn own name kind) = one_like time (column_schedule (number_of old.next all earlier 0) own name kind) (comes_in kind) ((own == table) && is_like index kind) refl
  like_entries time earlier change = out_none time (dropped_element old change)

  entered_is : (time : ℕ) → entered_like (schedules old all) table index time ≡ count_by (like_before time) all
  entered_is zero = sym (none_like all)
  entered_is (suc time) = omega (arith, entered_is time, next_like time all, counts old all time (is_entry_like table index) (like_at time) (like_entries time) [] all)

  -- fewer have entered than the batch adds, before one of them enters
  fewer_entered : (done : List Schedule) (schedule : Schedule) (time : ℕ) → (p : Placed old all [] all done schedule) → enters_at all time p.change ≡ true → adds_like table index p.change ≡ true
      → entered_like (schedules old all) table index time + count_by (is_entry_like table index) (flat_map (move_of time) done) < count_by (adds_like table index) all
  fewer_entered done schedule time p at like =
      let entered : count_by (is_entry_like table index) (flat_map (move_of time) done) ≡ count_by (like_at time) p.before =
      ap (λ d. count_by (is_entry_like table index) (flat_map (move_of time) d)) p.done_is ∙ counts old all time (is_entry_like table index) (like_at time) (like_entries time) [] p.before in
      let one : ◌≡◌ {A = ℕ} (cond (like_at time p.change) 1 0) 1 = ap (λ b. cond b 1 0) (ap (λ b. b && adds_like table index p.change) at ∙ like) in
      omega (arith, entered_is time, all_like time all, entered, one, count_split (like_at time) all p.before p.after p.change p.split)

same_table : (table : ℕ) → (table == table) ≡ true
same_table table = (Decides-eqb table table).1 refl

module _ (old : Version) (sound : IsSoundVersion old) (all : List Change) (plannable : IsPlannable old all) where
  pub has_room : HasRoom old (schedules old all)
  has_room time now at done rest schedule split transition = pick p.from_change
    where
      first : (time ≡ schedule.wait) × (is_in schedule.state_path ≡ true)
      first = appears schedule time transition

      p : Placed old all [] all done schedule
      p = placed old all [] all done rest schedule split

      place : Place old sound all plannable schedule
      place = record { done = done; rest = rest; split = split; place = p }

      fits : (table : ℕ) (index : Bool) → schedule.fresh.table ≡ table → is_index schedule.fresh.kind ≡ index
          → entered_like (schedules old all) table index time + count_by (is_entry_like table index) (flat_map (move_of time) done) < count_by (adds_like table index) all
          → ¬ (IsOver old all table index) → count_like now (flat_map (move_of time) done) schedule.fresh.table (is_index schedule.fresh.kind) < max_like (is_index schedule.fresh.kind)
      fits table index is_table is_kind fewer not_over =
          subst (λ t. count_like now (flat_map (move_of time) done) t (is_index schedule.fresh.kind) < max_like (is_index schedule.fresh.kind)) (sym is_table)
          (subst (λ i. count_like now (flat_map (move_of time) done) table i < max_like i) (sym is_kind)
          (elim (cases_lt (max_like index) (count_live old table index + count_by (adds_like table index) all)) [
            | inl over ↦ absurd (not_over (inl over))
            | inr within ↦ omega (arith, at.like table index)
          ]))

      -- it enters now
      enters_now : Role old all p.before p.change schedule → enters_at all time p.change ≡ true
      enters_now (Enters at is) = subst (λ t. enters_at all t p.change ≡ true) (sym first.0) at
      enters_now (Goes e found is out) = absurd (true≢false (sym first.1 ∙ out))

      now_is : enters_at all time p.change ≡ true
      now_is = enters_now (role old all p.before p.change schedule p.from_change)

      pick : From old all p.before p.change schedule → count_like now (flat_map (move_of time) done) schedule.fresh.table (is_index schedule.fresh.kind) < max_like (is_index schedule.fresh.kind)
      pick (NewIndex table name columns change is) =
          fits table true (ap (λ (t : Schedule). t.fresh.table) is) (ap (λ (t : Schedule). is_index t.fresh.kind) is)
          (fewer_entered old all table true done schedule time p now_is (ap (adds_like table true) change ∙ ap (λ b. b && true) (same_table table)))
          (λ over. clear old sound all plannable (AddIndex table name columns) (subst (Contains all) change (has_change old sound all plannable schedule place)) Limit (λ earlier. inr (inr over)))
      pick (NewColumn table name kind change is) =
          let has : Contains all (AddColumn table name kind) = subst (Contains all) change (has_change old sound all plannable schedule place) in
          let no_index : is_index kind ≡ false = column_kind old sound all plannable table name kind has in
          fits table false (ap (λ (t : Schedule). t.fresh.table) is) (ap (λ (t : Schedule). is_index t.fresh.kind) is ∙ no_index)
          (fewer_entered old all table false done schedule time p now_is (ap (adds_like table false) change ∙ ap (λ b. b && is_column kind) (same_table table) ∙ column_if kind no_index))
          (λ over. clear old sound all plannable (AddColumn table name kind) has Limit (λ earlier. inr (inr over)))
      pick (Leaves e found is) = absurd (true≢false (sym first.1 ∙ ap (λ (t : Schedule). is_in t.state_path) is ∙ out_of e.kind e.state))

-- the schedule of a batch that can be planned is lawful, and least
pub planned_least : (old : Version) → IsSoundVersion old → (changes : List Change) → IsPlannable old changes → IsLeast old changes (planned_steps old changes)
planned_least old sound changes plannable = least_with_room old sound changes plannable (has_room old sound changes plannable)
