-- Each column that a schedule's index lists fits, and each index that lists a schedule's column has a schedule.
use Rattle.std.specs.Prelude.{◌≡◌, ℕ, ◌+◌, ◌<◌, ◌≤◌, List, [], ◌∷◌, Bool, true, false, ◌==◌, if◌then◌else◌, Option, Some, None, Contains, refl}
use Rattle.std.specs.List.{list_any}
use Rattle.std.proofs.Common.{sym, ap, subst, ◌∙◌, inl, inr, true≢false, arith}
use Rattle.schema_version.specs.Edges.{is_filled}
use Rattle.std.proofs.lemmas.Bool.Decides.{Decides-eqb}
use Rattle.schema_version.specs.declared.element.ElementState.TheVariants.{Public}
use Rattle.schema_version.specs.declared.element.Way.TheVariants.{Adding}
use Rattle.schema_version.specs.declared.element.Kind.{Kind}
use Rattle.schema_version.specs.declared.element.Kind.TheVariants.{Index, Optional, Required}
use Rattle.schema_version.specs.declared.element.ElementDef.{ElementDef}
use Rattle.schema_version.specs.Version.{Version, element_at, is_index, indexed_columns, is_column, type_of_kind}
use Rattle.schema_version.specs.Sound.{IsSoundVersion}
use Rattle.change_plan.specs.declared.change.Change.{Change}
use Rattle.change_plan.specs.declared.change.Change.TheVariants.{AddIndex, DropIndex, AddColumn, DropColumn, Abandon}
use Rattle.change_plan.specs.declared.fault.PlanFault.TheVariants.{Unknown, StillIndexed, InChange}
use Rattle.change_plan.specs.Batches.{named, named_index, named_column, dropped_element, drops_index, adds_column, lists}
use Rattle.change_plan.specs.Refusals.{IsPlannable, IsListed}
use Rattle.change_plan.specs.declared.schedule.Schedule.{Schedule}
use Rattle.change_plan.specs.Schedule.{steps, state_path_in, state_path_out, duration, wait_in, number_of, steps_on, wait_out, out_schedule, schedules, column_number, added_number, number_or}
use Rattle.change_plan.proofs.MoveEffects.{not_both}
use Rattle.change_plan.proofs.Named.{contains_first, contains_later, contains_cases, contains_none, any_element, same_name, ordered}
use Rattle.change_plan.proofs.Leaving.{index_there, column_there, entering_there, abandoned, public_if_not_in_change, from_public, column_type, has_type, Departs, departs, clear}
use Rattle.change_plan.proofs.ScheduleMoves.{find_schedule}
use Rattle.change_plan.proofs.Schedules.{is_in, At, departure}
use Rattle.change_plan.proofs.ScheduleRules.{ColumnFits, Steady, Added, Dropped}
use Rattle.change_plan.proofs.Batch.{From, NewIndex, NewColumn, Leaves, comes_in}
use Rattle.change_plan.proofs.Places.{no_schedule_of, place_of, stays, column_kind, index_named, is_true_if_not_false, has_change, contains_each, own_name, moved_element, Place, any_of}
use Rattle.change_plan.proofs.MadeSchedules.{waits_for_added, made_leaving, made_added}

module _ (old : Version) (sound : IsSoundVersion old) (all : List Change) (plannable : IsPlannable old all) where
  -- a column of an added index
  added_fits : (table : ℕ) (name : List ℕ) (columns : List (List ℕ)) → Contains all (AddIndex table name columns) → (schedule : Schedule) → schedule.fresh.table ≡ table → is_in schedule.state_path ≡ true → schedule.wait ≡ wait_in all table columns
      → (own : List ℕ) → Contains columns own → ColumnFits old (schedules old all) schedule (column_number old all table own)
  added_fits table name columns has schedule is_table new waits own among = pick (named_column old table own) refl
    where
      pick : (o : Option ElementDef) → named_column old table own ≡ o → ColumnFits old (schedules old all) schedule (column_number old all table own)
      pick None none =
          let added : list_any (adds_column table own) all ≡ true = is_true_if_not_false _ (λ f. clear old sound all plannable (AddIndex table name columns) has Unknown (λ earlier. inr (own, among, ap is_some_test none, f))) in
          let m = made_added old all [] all table own added in
          let type = column_type m.0 (column_kind old sound all plannable table own m.0 m.1) in
          let long : steps (state_path_in m.0) ≤ wait_in all table columns = waits_for_added all table own columns m.0 among m.1 in
          Added _ m.2 (ap (λ o. number_or o (added_number old.next all [] table own all)) (sym none)) (comes_in m.0) type.0 type.1 new (omega (arith, waits, long)) (sym is_table)
        where
          is_some_test : Option ElementDef → Bool
          is_some_test None = false
          is_some_test (Some x) = true
      pick (Some e) found =
          let there = column_there old (ordered sound) table own e found in
          let type = column_type e.kind there.3 in
          let is_public : e.state ≡ Public = public_if_not_in_change (named_column old table own) (λ t. clear old sound all plannable (AddIndex table name columns) has InChange (λ earlier. (own, among, t))) e found in
          subst (ColumnFits old (schedules old all) schedule) (ap (λ o. number_or o (added_number old.next all [] table own all)) (sym found))
          (Steady (no_schedule_of old sound all plannable e there.0 (stays old sound all plannable table name columns has own among e found)) e type.0 there.0 (there.1 ∙ sym is_table) type.1 is_public)

  -- how long a column waits at least
  waits_at_least : (changes : List Change) (change : Change) (index : ElementDef) (number : ℕ) → Contains changes change → dropped_element old change ≡ Some index → lists number index ≡ true → steps (state_path_out index.kind index.state) ≤ wait_out old number changes
  waits_at_least [] change index number has is on = absurd (contains_none change has)
  waits_at_least (x ∷ xs) change index number has is on = elim (contains_cases x xs change has) [
    | inl same ↦
        let one : steps_on number (dropped_element old x) ≡ steps (state_path_out index.kind index.state) = ap (λ c. steps_on number (dropped_element old c)) same ∙ ap (steps_on number) is ∙ ap (λ b. if b then steps (state_path_out index.kind index.state) else 0) on in
        omega (arith, one)
    | inr more ↦ let rest = waits_at_least xs change index number more is on in omega (arith, rest)
  ]

  none_waits : (changes : List Change) (number : ℕ) → ((n : ℕ) (index : ElementDef) → element_at old n ≡ Some index → Contains (indexed_columns index.kind) number → ⊥) → ((change : Change) → Contains changes change → Contains all change) → wait_out old number changes ≡ 0
  none_waits [] number none among = refl
  none_waits (x ∷ xs) number none among =
      let rest : wait_out old number xs ≡ 0 = none_waits xs number none (λ c has. among c (contains_later x xs c has)) in
      let one : steps_on number (dropped_element old x) ≡ 0 = pick (dropped_element old x) refl in
      omega (arith, one, rest)
    where
      pick : (o : Option ElementDef) → dropped_element old x ≡ o → steps_on number (dropped_element old x) ≡ 0
      pick None is = ap (steps_on number) is
      pick (Some index) is = ap (steps_on number) is ∙ ap (λ b. if b then steps (state_path_out index.kind index.state) else 0) (not_listed (lists number index) refl)
        where
          not_listed : (b : Bool) → lists number index ≡ b → lists number index ≡ false
          not_listed false t = t
          not_listed true t =
              let found = any_element (λ other. other == number) (indexed_columns index.kind) t in
              absurd (none index.number index (departs old sound all plannable x (among x (contains_first x xs)) index is).there (subst (Contains (indexed_columns index.kind)) ((Decides-eqb found.0 number).0 found.2) found.1))

  none_listed : (kind : Kind) → is_index kind ≡ false → (column : ℕ) → Contains (indexed_columns kind) column → ⊥
  none_listed (Index columns) e column has = true≢false e
  none_listed (Optional type) e column has = contains_none column has
  none_listed (Required type fallback) e column has = contains_none column has

  -- a column of an index that leaves
  leaving_fits : (change : Change) → Contains all change → (e : ElementDef) → dropped_element old change ≡ Some e → (schedule : Schedule) → schedule ≡ out_schedule old all e → (column : ℕ) → Contains (indexed_columns e.kind) column → ColumnFits old (schedules old all) schedule column
  leaving_fits change has e found schedule is column among = elim (find_schedule (schedules old all) column) [
    | inr none ↦ Steady none f.0 f.1 f.2 (f.3 ∙ ap (λ (t : Schedule). t.fresh.table) (sym is)) f.4 f.5
    | inl other ↦
        let moved = moved_element old sound all plannable other.0 other.1 f.0 at_own (other.2 ∙ sym own) in
        let d = departs old sound all plannable moved.0 moved.1 f.0 moved.2 in
        let waits : steps (state_path_out e.kind e.state) ≤ wait_out old f.0.number all = waits_at_least all change e f.0.number has found (any_of (λ other. other == f.0.number) (indexed_columns e.kind) column among ((Decides-eqb column f.0.number).1 (sym own))) in
        let other_waits : other.0.wait ≡ wait_out old f.0.number all = ap (λ (t : Schedule). t.wait) moved.3 in
        let at_once : wait_out old e.number all ≡ 0 = none_waits all e.number index_unlisted (λ c h. h) in
        let long : duration schedule ≡ wait_out old e.number all + steps (state_path_out e.kind e.state) = ap duration is in
        Dropped other.0 other.1 other.2 (ap (λ (t : Schedule). departure t.state_path) moved.3 ∙ public_start d) (ap (λ (t : Schedule). is_in t.state_path) is ∙ (departs old sound all plannable change has e found).out) (omega arith)
  ]
    where
      there : element_at old e.number ≡ Some e
      there = (departs old sound all plannable change has e found).there

      f : (element : ElementDef) × (type : _) × (element_at old column ≡ Some element) × (element.table ≡ e.table) × (type_of_kind element.kind ≡ Some type) × (element.state ≡ Public)
      f = (sound.elements e.number e there).columns column among

      own : f.0.number ≡ column
      own = (ordered sound).numbered column f.0 f.2

      at_own : element_at old f.0.number ≡ Some f.0
      at_own = subst (λ n. element_at old n ≡ Some f.0) (sym own) f.2

      -- no index lists an index
      index_unlisted : (n : ℕ) (index : ElementDef) → element_at old n ≡ Some index → Contains (indexed_columns index.kind) e.number → ⊥
      index_unlisted n index at lists_it =
          let g = (sound.elements n index at).columns e.number lists_it in
          let same : Some e ≡ Some g.0 = sym there ∙ g.2 in
          let one : e ≡ g.0 = cc in
          none_listed e.kind (has_type e.kind g.1 (ap (λ (x : ElementDef). type_of_kind x.kind) one ∙ g.4)) column among

      public_start : {change : Change} → Departs old change f.0 → departure (state_path_out f.0.kind f.0.state) ≡ At Public Adding
      public_start d = ap (λ s. departure (state_path_out f.0.kind s)) f.5 ∙ (from_public (is_filled f.0.kind)).0

  pub columns_fit : (schedule : Schedule) → Contains (schedules old all) schedule → (column : ℕ) → Contains (indexed_columns schedule.fresh.kind) column → ColumnFits old (schedules old all) schedule column
  columns_fit schedule has column among = pick p.place.from_change
    where
      p : Place old sound all plannable schedule
      p = place_of old sound all plannable schedule has

      pick : From old all p.place.before p.place.change schedule → ColumnFits old (schedules old all) schedule column
      pick (NewIndex table name columns change is) =
          let own = contains_each (column_number old all table) columns column (subst (λ (t : Schedule). Contains (indexed_columns t.fresh.kind) column) is among) in
          subst (ColumnFits old (schedules old all) schedule) (sym own.2) (added_fits table name columns (subst (Contains all) change (has_change old sound all plannable schedule p)) schedule (ap (λ (t : Schedule). t.fresh.table) is) (ap (λ (t : Schedule). is_in t.state_path) is) (ap (λ (t : Schedule). t.wait) is) own.0 own.1)
      pick (NewColumn table name kind change is) =
          absurd (none_listed kind (column_kind old sound all plannable table name kind (subst (Contains all) change (has_change old sound all plannable schedule p))) column (subst (λ (t : Schedule). Contains (indexed_columns t.fresh.kind) column) is among))
      pick (Leaves e found is) = leaving_fits p.place.change (has_change old sound all plannable schedule p) e found schedule is column (subst (λ (t : Schedule). Contains (indexed_columns t.fresh.kind) column) is among)

  -- every index that lists a column which leaves does so too
  -- (an index that a change takes out by its name)
  index_dropped : (number : ℕ) (index : ElementDef) → element_at old number ≡ Some index → is_index index.kind ≡ true → (change : Change) → Contains all change → drops_index index.table index.name change ≡ true → dropped_element old change ≡ Some index
  index_dropped number index at is_kind (DropIndex other own) has e =
      let same = same_name index.table index.name other own e in
      subst (λ t. named_index old t own ≡ Some index) same.0 (subst (λ n. named_index old index.table n ≡ Some index) same.1 (index_named old sound number index at is_kind))
  index_dropped number index at is_kind (Abandon other own) has e =
      let same = same_name index.table index.name other own e in
      abandoned old sound all plannable other own has index (subst (λ t. named old t own ≡ Some index) same.0 (subst (λ n. named old index.table n ≡ Some index) same.1 (own_name old sound number index at)))
  index_dropped number index at is_kind change has e = absurd (true≢false (sym e))

  covers : (change : Change) → Contains all change → (e : ElementDef) → dropped_element old change ≡ Some e → is_index e.kind ≡ false → (number : ℕ) (index : ElementDef) → element_at old number ≡ Some index → Contains (indexed_columns index.kind) e.number → list_any (drops_index index.table index.name) all ≡ true
  covers (AddIndex table name columns) has e is is_column number index at among = absurd (not_both e None is refl)
  covers (AddColumn table name kind) has e is is_column number index at among = absurd (not_both e None is refl)
  covers (DropIndex table name) has e is is_column number index at among = absurd (true≢false (sym (index_there old (ordered sound) table name e is).3 ∙ is_column))
  covers (DropColumn table name) has e is is_column number index at among =
      is_true_if_not_false _ (λ f. clear old sound all plannable (DropColumn table name) has StillIndexed (λ earlier. subst (λ o. IsListed old all table name o) (sym is) (inl (number, index, at, among, f))))
  covers (Abandon table name) has e is is_column number index at among =
      let there = entering_there old (ordered sound) table name e is in
      let column = (sound.elements number index at).columns e.number among in
      let one : Some e ≡ Some column.0 = sym there.0 ∙ column.2 in
      let same : e ≡ column.0 = cc in
      absurd (there.4 (ap (λ (x : ElementDef). x.state) same ∙ column.5))

  leaving_covered : (change : Change) → Contains all change → (e : ElementDef) → dropped_element old change ≡ Some e → is_index e.kind ≡ false → (number : ℕ) (index : ElementDef) → element_at old number ≡ Some index → Contains (indexed_columns index.kind) e.number → (other : Schedule) × Contains (schedules old all) other × (other.number ≡ number)
  leaving_covered change has e is is_column number index at among =
      let dropper = any_element (drops_index index.table index.name) all (covers change has e is is_column number index at among) in
      let is_dropped = index_dropped number index at (is_index_if_lists index.kind among) dropper.0 dropper.1 dropper.2 in
      (out_schedule old all index, made_leaving old all dropper.0 index dropper.1 is_dropped, (ordered sound).numbered number index at)
    where
      is_index_if_lists : (kind : Kind) → Contains (indexed_columns kind) e.number → is_index kind ≡ true
      is_index_if_lists (Index columns) h = refl
      is_index_if_lists (Optional type) h = absurd (contains_none e.number h)
      is_index_if_lists (Required type fallback) h = absurd (contains_none e.number h)

  pub covered : (schedule : Schedule) → Contains (schedules old all) schedule → (number : ℕ) (index : ElementDef) → is_index schedule.fresh.kind ≡ false → element_at old number ≡ Some index → Contains (indexed_columns index.kind) schedule.number → (other : Schedule) × Contains (schedules old all) other × (other.number ≡ number)
  covered schedule has number index is_column at among = pick p.place.from_change
    where
      p : Place old sound all plannable schedule
      p = place_of old sound all plannable schedule has

      small : schedule.number < old.next
      small = let f = (sound.elements number index at).columns schedule.number among in (ordered sound).below schedule.number f.0 f.2

      pick : From old all p.place.before p.place.change schedule → (other : Schedule) × Contains (schedules old all) other × (other.number ≡ number)
      pick (NewIndex table name columns change is) = let n : schedule.number ≡ number_of old.next all p.place.before (wait_in all table columns) = ap (λ (t : Schedule). t.number) is in absurd (omega (arith, small, n))
      pick (NewColumn table name kind change is) = let n : schedule.number ≡ number_of old.next all p.place.before 0 = ap (λ (t : Schedule). t.number) is in absurd (omega (arith, small, n))
      pick (Leaves e found is) = leaving_covered p.place.change (has_change old sound all plannable schedule p) e found (ap (λ (t : Schedule). is_index t.fresh.kind) (sym is) ∙ is_column) number index at (subst (λ (t : Schedule). Contains (indexed_columns index.kind) t.number) is among)
