-- The change that a schedule is made for.
use Rattle.std.specs.Prelude.{◌≡◌, ◌≢◌, ℕ, ◌<◌, List, [], ◌∷◌, ◌++◌, Bool, true, false, ◌||◌, if◌then◌else◌, Option, Some, None, Contains, is_some, refl}
use Rattle.std.specs.List.{list_any}
use mathlib.Core.List.{map as each}
use Rattle.std.proofs.Common.{sym, ap, subst, ◌∙◌, inl, inr, true≢false, arith}
use Rattle.schema_version.specs.declared.element.Kind.{Kind}
use Rattle.schema_version.specs.declared.element.ElementDef.{ElementDef}
use Rattle.schema_version.specs.Version.{Version, element_at, is_index, is_column}
use Rattle.schema_version.specs.Sound.{IsSoundVersion}
use Rattle.change_plan.specs.declared.change.Change.{Change}
use Rattle.change_plan.specs.declared.change.Change.TheVariants.{AddIndex, DropIndex, AddColumn, DropColumn, Abandon}
use Rattle.change_plan.specs.declared.fault.PlanFault.TheVariants.{Unknown, StillIndexed}
use Rattle.change_plan.specs.Batches.{named, named_index, named_column, only_if, dropped_element, drops_column}
use Rattle.change_plan.specs.Refusals.{IsPlannable}
use Rattle.change_plan.specs.declared.schedule.Schedule.{Schedule}
use Rattle.change_plan.specs.Schedule.{wait_in, number_of, out_schedule, schedules}
use Rattle.change_plan.proofs.MoveEffects.{not_both}
use Rattle.change_plan.proofs.Named.{contains_first, contains_later, contains_cases, contains_none, contains_middle, split_at, same_name_is, both_true, named_there, not_named, ordered}
use Rattle.change_plan.proofs.Leaving.{index_there, column_there, entering_there, column_if, departs, clear}
use Rattle.change_plan.proofs.Batch.{From, NewIndex, NewColumn, Leaves, Placed, placed, same_element}

-- ---- elements of their own names

pub own_name : (old : Version) → IsSoundVersion old → (number : ℕ) (e : ElementDef) → element_at old number ≡ Some e → named old e.table e.name ≡ Some e
own_name old sound number e at = pick (named old e.table e.name) refl
  where
    pick : (o : Option ElementDef) → named old e.table e.name ≡ o → named old e.table e.name ≡ Some e
    pick None none = absurd (not_named old e.table e.name none number e at refl refl)
    pick (Some g) is =
        let there = named_there old (ordered sound) e.table e.name g is in
        let at_own : element_at old e.number ≡ Some e = subst (λ n. element_at old n ≡ Some e) (sym ((ordered sound).numbered number e at)) at in
        is ∙ ap Some (same_element old g e there.0 at_own (sound.names g.number e.number g e there.0 at_own there.1 there.2))

pub index_named : (old : Version) → IsSoundVersion old → (number : ℕ) (index : ElementDef) → element_at old number ≡ Some index → is_index index.kind ≡ true → named_index old index.table index.name ≡ Some index
index_named old sound number index at is_kind = ap (only_if is_index) (own_name old sound number index at) ∙ ap (λ b. if b then Some index else None) is_kind

pub column_named : (old : Version) → IsSoundVersion old → (number : ℕ) (column : ElementDef) → element_at old number ≡ Some column → is_index column.kind ≡ false → named_column old column.table column.name ≡ Some column
column_named old sound number column at is_kind = ap (only_if is_column) (own_name old sound number column at) ∙ ap (λ b. if b then Some column else None) (column_if column.kind is_kind)

pub contains_each : {A B : Type 0} (f : A → B) (xs : List A) (y : B) → Contains (each f xs) y → (x : A) × Contains xs x × (y ≡ f x)
contains_each f [] y h = absurd (contains_none y h)
contains_each f (x ∷ xs) y h = elim (contains_cases (f x) (each f xs) y h) [
  | inl is ↦ (x, contains_first x xs, sym is)
  | inr more ↦ let rest = contains_each f xs y more in (rest.0, contains_later x xs rest.0 rest.1, rest.2)
]

pub any_of : {X : Type 0} (test : X → Bool) (xs : List X) (x : X) → Contains xs x → test x ≡ true → list_any test xs ≡ true
any_of test [] x h e = absurd (contains_none x h)
any_of test (y ∷ ys) x h e = elim (contains_cases y ys x h) [
  | inl is ↦ ap (λ b. b || list_any test ys) (ap test is ∙ e)
  | inr more ↦ either (test y) _ (any_of test ys x more e)
]
  where
    either : (a b : Bool) → b ≡ true → (a || b) ≡ true
    either true b e = refl
    either false b e = e

pub is_true_if_not_false : (b : Bool) → (b ≡ false → ⊥) → b ≡ true
is_true_if_not_false true h = refl
is_true_if_not_false false h = absurd (h refl)

pub not_true : (b : Bool) → (b ≡ true → ⊥) → b ≡ false
not_true true h = absurd (h refl)
not_true false h = refl

module _ (old : Version) (sound : IsSoundVersion old) (all : List Change) (plannable : IsPlannable old all) where
  -- the place of a schedule
  pub record Place (schedule : Schedule) : Type 0 where
    pub done : List Schedule
    pub rest : List Schedule
    pub split : schedules old all ≡ done ++ schedule ∷ rest
    pub place : Placed old all [] all done schedule

  pub place_of : (schedule : Schedule) → Contains (schedules old all) schedule → Place schedule
  place_of schedule has =
      let s = split_at (schedules old all) schedule has in
      record { done = s.0; rest = s.1; split = s.2; place = placed old all [] all s.0 s.1 schedule s.2 }

  pub has_change : (schedule : Schedule) (p : Place schedule) → Contains all p.place.change
  has_change schedule p = subst (λ cs. Contains cs p.place.change) (sym p.place.split) (contains_middle p.place.before p.place.after p.place.change)

  -- a live element that a schedule moves
  pub moved_element : (schedule : Schedule) → Contains (schedules old all) schedule → (e : ElementDef) → element_at old e.number ≡ Some e → schedule.number ≡ e.number → (change : Change) × Contains all change × (dropped_element old change ≡ Some e) × (schedule ≡ out_schedule old all e)
  moved_element schedule has e at same = pick p.place.from_change
    where
      p : Place schedule
      p = place_of schedule has

      small : e.number < old.next
      small = (ordered sound).below e.number e at

      pick : From old all p.place.before p.place.change schedule → (change : Change) × Contains all change × (dropped_element old change ≡ Some e) × (schedule ≡ out_schedule old all e)
      pick (NewIndex table name columns change is) = let n : schedule.number ≡ number_of old.next all p.place.before (wait_in all table columns) = ap (λ (t : Schedule). t.number) is in absurd (omega (arith, small, n, same))
      pick (NewColumn table name kind change is) = let n : schedule.number ≡ number_of old.next all p.place.before 0 = ap (λ (t : Schedule). t.number) is in absurd (omega (arith, small, n, same))
      pick (Leaves g found is) =
          let d = departs old sound all plannable p.place.change (has_change schedule p) g found in
          let one : g ≡ e = same_element old g e d.there at (sym (ap (λ (t : Schedule). t.number) is) ∙ same) in
          (p.place.change, has_change schedule p, found ∙ ap Some one, is ∙ ap (out_schedule old all) one)

  -- an element that isn't taken out has no schedule
  pub no_schedule_of : (e : ElementDef) → element_at old e.number ≡ Some e → ((change : Change) → Contains all change → dropped_element old change ≢ Some e) → (schedule : Schedule) → Contains (schedules old all) schedule → schedule.number ≢ e.number
  no_schedule_of e at kept schedule has same = let moved = moved_element schedule has e at same in kept moved.0 moved.1 moved.2

  -- a column that an added index lists isn't taken out
  pub stays : (table : ℕ) (name : List ℕ) (columns : List (List ℕ)) → Contains all (AddIndex table name columns) → (own : List ℕ) → Contains columns own → (e : ElementDef) → named_column old table own ≡ Some e → (change : Change) → Contains all change → dropped_element old change ≢ Some e
  stays table name columns has own among e found change has_change is = pick change has_change is
    where
      there : (element_at old e.number ≡ Some e) × (e.table ≡ table) × (e.name ≡ own) × (is_index e.kind ≡ false)
      there = column_there old (ordered sound) table own e found

      pick : (change : Change) → Contains all change → dropped_element old change ≡ Some e → ⊥
      pick (AddIndex t n cs) has_it is = not_both e None is refl
      pick (AddColumn t n kind) has_it is = not_both e None is refl
      pick (DropIndex t n) has_it is = true≢false (sym (index_there old (ordered sound) t n e is).3 ∙ there.3)
      pick (DropColumn t n) has_it is =
          let gone = column_there old (ordered sound) t n e is in
          clear old sound all plannable (AddIndex table name columns) has StillIndexed (λ earlier. (own, among, any_of (drops_column old table own) all (DropColumn t n) has_it (same_name_is table t own n (sym there.1 ∙ gone.1) (sym there.2 ∙ gone.2))))
      pick (Abandon t n) has_it is =
          let gone = entering_there old (ordered sound) t n e is in
          clear old sound all plannable (AddIndex table name columns) has StillIndexed
          (λ earlier. (own, among, any_of (drops_column old table own) all (Abandon t n) has_it (both_true _ _ (same_name_is table t own n (sym there.1 ∙ gone.1) (sym there.2 ∙ gone.2)) (ap is_some found))))

  pub column_kind : (table : ℕ) (name : List ℕ) (kind : Kind) → Contains all (AddColumn table name kind) → is_index kind ≡ false
  column_kind table name kind has = not_true (is_index kind) (λ t. clear old sound all plannable (AddColumn table name kind) has Unknown (λ earlier. inr t))
