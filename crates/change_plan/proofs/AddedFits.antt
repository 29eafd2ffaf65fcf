-- An added element meets what its schedule needs.
use Rattle.std.specs.Prelude.{◌≡◌, ℕ, ◌+◌, ◌<◌, ◌≤◌, List, [], ◌∷◌, ◌++◌, Bool, true, false, ◌&&◌, ◌==◌, not, Option, Some, None, IsNone, Contains, ◌⊎◌, count_by, bytes_eq, is_some, refl}
use Rattle.std.specs.List.{list_any}
use mathlib.Core.List.{map as each}
use Rattle.std.proofs.Common.{sym, ap, subst, ◌∙◌, inl, inr, true≢false, arith}
use Rattle.std.proofs.lemmas.List.{append_assoc, length-map}
use Rattle.std.proofs.lemmas.Bool.{cases_lt}
use Rattle.schema_version.specs.Names as names
use Rattle.schema_version.specs.Names.{IsName, is_among, max_elements, max_listed}
use Rattle.schema_version.specs.Moves.{IsFairKind, is_distinct}
use Rattle.schema_version.specs.Checks.{is_fair_kind}
use Rattle.change_plan.proofs.Decides.{fair_kind}
use Rattle.std.proofs.lemmas.Bool.Decides.{Decides-eqb}
use Rattle.std.proofs.lemmas.Slice.Eq.{bytes_eq-Decides}
use Rattle.std.proofs.lemmas.List.Elements.{Contains-append_cases}
use Rattle.schema_version.specs.declared.element.Kind.{Kind}
use Rattle.schema_version.specs.declared.element.Kind.TheVariants.{Index}
use Rattle.schema_version.specs.declared.element.ElementDef.{ElementDef}
use Rattle.schema_version.specs.declared.element.NewElement.{NewElement}
use Rattle.schema_version.specs.Version.{Version, table_at}
use Rattle.schema_version.specs.Sound.{IsSoundVersion}
use Rattle.change_plan.specs.declared.change.Change.{Change}
use Rattle.change_plan.specs.declared.change.Change.TheVariants.{AddIndex, AddColumn}
use Rattle.change_plan.specs.declared.fault.PlanFault.TheVariants.{Unknown, NameTaken, Limit}
use Rattle.change_plan.specs.Batches.{named_column, adds}
use Rattle.change_plan.specs.Refusals.{ChangeFault, IsPlannable, IsTaken, is_addition, IsColumnList as IsNameList}
use Rattle.change_plan.specs.declared.schedule.Schedule.{Schedule}
use Rattle.change_plan.specs.Schedule.{enters_at, column_schedule, schedules, column_number, added_number, number_or}
use Rattle.change_plan.proofs.Named.{contains_first, contains_later, contains_cases, contains_middle, split_at, any_element, same_name_is, not_named, and_true, ordered}
use Rattle.change_plan.proofs.Leaving.{column_there, none_if_not_some, clear}
use Rattle.change_plan.proofs.Schedules.{is_in}
use Rattle.change_plan.proofs.ScheduleRules.{IsAdded}
use Rattle.change_plan.proofs.Batch.{From, NewIndex, NewColumn, Leaves, Placed, placed, any_middle, same_element, comes_in, out_of, Role, Enters, Goes, role, one_is}
use Rattle.change_plan.proofs.EntryNumbers.{count_split, one_if, all_additions}
use Rattle.change_plan.proofs.Places.{not_true, place_of, is_true_if_not_false, has_change, contains_each, Place, any_of}
use Rattle.change_plan.proofs.MadeSchedules.{made_added}

module _ (old : Version) (sound : IsSoundVersion old) (all : List Change) (plannable : IsPlannable old all) where
  -- an added element's change, at its place
  data New (schedule : Schedule) (p : Place old sound all plannable schedule) : Type 0 where
    AnIndex : (table : ℕ) (name : List ℕ) (columns : List (List ℕ)) → p.place.change ≡ AddIndex table name columns → schedule.fresh ≡ record { table = table; name = name; kind = Index (each (column_number old all table) columns) } → New schedule p
    AColumn : (table : ℕ) (name : List ℕ) (kind : Kind) → p.place.change ≡ AddColumn table name kind → schedule.fresh ≡ record { table = table; name = name; kind = kind } → New schedule p

  new_is : (schedule : Schedule) (p : Place old sound all plannable schedule) → is_in schedule.state_path ≡ true → New schedule p
  new_is schedule p new = pick p.place.from_change
    where
      pick : From old all p.place.before p.place.change schedule → New schedule p
      pick (NewIndex table name columns change is) = AnIndex table name columns change (ap (λ (t : Schedule). t.fresh) is)
      pick (NewColumn table name kind change is) = AColumn table name kind change (ap (λ (t : Schedule). t.fresh) is)
      pick (Leaves e found is) = absurd (true≢false (sym new ∙ ap (λ (t : Schedule). is_in t.state_path) is ∙ out_of e.kind e.state))

  -- the number of an added element, between those given and the limit
  new_number : (schedule : Schedule) (p : Place old sound all plannable schedule) → is_in schedule.state_path ≡ true → (old.next ≤ schedule.number) × (schedule.number < old.next + count_by is_addition all)
  new_number schedule p new = pick (role old all p.place.before p.place.change schedule p.place.from_change)
    where
      pick : Role old all p.place.before p.place.change schedule → (old.next ≤ schedule.number) × (schedule.number < old.next + count_by is_addition all)
      pick (Enters e n) = (
        omega (arith, n),
        omega (arith, n, count_split (enters_at all schedule.wait) all p.place.before p.place.after p.place.change p.place.split, one_if (enters_at all schedule.wait p.place.change) e, all_additions all schedule.wait all),
      )
      pick (Goes e found n out) = absurd (true≢false (sym new ∙ out))

  not_taken : (schedule : Schedule) (p : Place old sound all plannable schedule) → is_in schedule.state_path ≡ true → IsTaken old p.place.before schedule.fresh.table schedule.fresh.name → ⊥
  not_taken schedule p new taken = pick (new_is schedule p new)
    where
      pick : New schedule p → ⊥
      pick (AnIndex table name columns is fresh) =
          plannable p.place.before p.place.after p.place.change NameTaken p.place.split
          (subst (λ c. ChangeFault old all p.place.before c NameTaken) (sym is) (subst (λ (f : NewElement). IsTaken old p.place.before f.table f.name) fresh taken))
      pick (AColumn table name kind is fresh) =
          plannable p.place.before p.place.after p.place.change NameTaken p.place.split
          (subst (λ c. ChangeFault old all p.place.before c NameTaken) (sym is) (subst (λ (f : NewElement). IsTaken old p.place.before f.table f.name) fresh taken))

  -- the change of an added element adds its name
  from_adds : (earlier : List Change) (change : Change) (schedule : Schedule) → From old all earlier change schedule → is_in schedule.state_path ≡ true → (table : ℕ) (name : List ℕ) → schedule.fresh.table ≡ table → schedule.fresh.name ≡ name → adds table name change ≡ true
  from_adds earlier change schedule (NewIndex t n columns c is) new table name is_t is_n = ap (adds table name) c ∙ same_name_is table t name n (sym is_t ∙ ap (λ (x : Schedule). x.fresh.table) is) (sym is_n ∙ ap (λ (x : Schedule). x.fresh.name) is)
  from_adds earlier change schedule (NewColumn t n kind c is) new table name is_t is_n = ap (adds table name) c ∙ same_name_is table t name n (sym is_t ∙ ap (λ (x : Schedule). x.fresh.table) is) (sym is_n ∙ ap (λ (x : Schedule). x.fresh.name) is)
  from_adds earlier change schedule (Leaves e found is) new table name is_t is_n = absurd (true≢false (sym new ∙ ap (λ (t : Schedule). is_in t.state_path) is ∙ out_of e.kind e.state))

  earlier_same : (done rest : List Schedule) (schedule other : Schedule) → schedules old all ≡ done ++ schedule ∷ rest → Contains done other → is_in schedule.state_path ≡ true → is_in other.state_path ≡ true → other.fresh.table ≡ schedule.fresh.table → other.fresh.name ≡ schedule.fresh.name → ⊥
  earlier_same done rest schedule other split among new new_other is_t is_n = not_taken schedule p new (inr (inr (any_middle (adds schedule.fresh.table schedule.fresh.name) p.place.before q.before q.after q.change q.split (from_adds _ q.change other q.from_change new_other _ _ is_t is_n))))
    where
      p : Place old sound all plannable schedule
      p = record { done = done; rest = rest; split = split; place = placed old all [] all done rest schedule split }

      s : (before after : List Schedule) × (done ≡ before ++ other ∷ after)
      s = split_at done other among

      q : Placed old all [] p.place.before s.0 other
      q = placed old all [] p.place.before s.0 s.1 other (sym p.place.done_is ∙ s.2)

  no_other_is : (schedule other : Schedule) → Contains (schedules old all) schedule → Contains (schedules old all) other → is_in schedule.state_path ≡ true → is_in other.state_path ≡ true → other.fresh.table ≡ schedule.fresh.table → other.fresh.name ≡ schedule.fresh.name → other.number ≡ schedule.number
  no_other_is schedule other has has_other new new_other is_t is_n = pick (Contains-append_cases s.0 (schedule ∷ s.1) other (subst (λ ts. Contains ts other) s.2 has_other))
    where
      s : (before after : List Schedule) × (schedules old all ≡ before ++ schedule ∷ after)
      s = split_at (schedules old all) schedule has

      behind : Contains s.1 other → other.number ≡ schedule.number
      behind more =
          let b = split_at s.1 other more in
          let whole : schedules old all ≡ (s.0 ++ schedule ∷ b.0) ++ other ∷ b.1 = s.2 ∙ ap (λ r. s.0 ++ schedule ∷ r) b.2 ∙ sym (append_assoc s.0 (schedule ∷ b.0) (other ∷ b.1)) in
          absurd (earlier_same (s.0 ++ schedule ∷ b.0) b.1 other schedule whole (contains_middle s.0 b.0 schedule) new_other new (sym is_t) (sym is_n))

      pick : Contains s.0 other ⊎ Contains (schedule ∷ s.1) other → other.number ≡ schedule.number
      pick (inl before) = absurd (earlier_same s.0 s.1 schedule other s.2 before new new_other is_t is_n)
      pick (inr rest) = elim (contains_cases schedule s.1 other rest) [ inl is ↦ ap (λ (t : Schedule). t.number) (sym is) | inr more ↦ behind more ]

  -- ---- names, lists and limits

  stable_true : (b : Bool) → ¬ (¬ (b ≡ true)) → b ≡ true
  stable_true true h = refl
  stable_true false h = absurd (h (λ e. true≢false (sym e)))

  stable_le : (a b : ℕ) → ¬ (¬ (a ≤ b)) → a ≤ b
  stable_le a b h = elim (cases_lt b a) [ inl more ↦ absurd (h (λ le. omega arith)) | inr le ↦ le ]

  stable_name : (name : List ℕ) → ¬ (¬ (IsName name)) → IsName name
  stable_name [] h = h (λ x. x)
  stable_name (c ∷ cs) h = (
    stable_true _ (λ n. h (λ is. n is.0)),
    stable_true _ (λ n. h (λ is. n is.1)),
    stable_le _ _ (λ n. h (λ is. n is.2)),
  )

  stable_list : (columns : List (List ℕ)) → ¬ (¬ (IsNameList columns)) → IsNameList columns
  stable_list columns h = (
    stable_le _ _ (λ n. h (λ is. n is.0)),
    stable_le _ _ (λ n. h (λ is. n is.1)),
    stable_true _ (λ n. h (λ is. n is.2)),
  )

  new_schedule_number : (schedule : Schedule) → Contains (schedules old all) schedule → is_in schedule.state_path ≡ true → old.next ≤ schedule.number
  new_schedule_number schedule has new = (new_number schedule (place_of old sound all plannable schedule has) new).0

  -- different names, different columns
  one_column : (table : ℕ) (name : List ℕ) (columns : List (List ℕ)) → Contains all (AddIndex table name columns) → (a b : List ℕ) → Contains columns a → Contains columns b → column_number old all table a ≡ column_number old all table b → a ≡ b
  one_column table name columns has a b in_a in_b same = pick (named_column old table a) (named_column old table b) refl refl
    where
      added_at : (own : List ℕ) → Contains columns own → named_column old table own ≡ None → (kind : Kind) × Contains all (AddColumn table own kind) × Contains (schedules old all) (column_schedule (added_number old.next all [] table own all) table own kind)
      added_at own among none = made_added old all [] all table own (is_true_if_not_false _ (λ f. clear old sound all plannable (AddIndex table name columns) has Unknown (λ earlier. inr (own, among, ap is_some_test none, f))))
        where
          is_some_test : Option ElementDef → Bool
          is_some_test None = false
          is_some_test (Some x) = true

      number_of_none : (own : List ℕ) → named_column old table own ≡ None → column_number old all table own ≡ added_number old.next all [] table own all
      number_of_none own none = ap (λ o. number_or o (added_number old.next all [] table own all)) none

      number_of_some : (own : List ℕ) (e : ElementDef) → named_column old table own ≡ Some e → column_number old all table own ≡ e.number
      number_of_some own e found = ap (λ o. number_or o (added_number old.next all [] table own all)) found

      apart : (own new : List ℕ) (e : ElementDef) → Contains columns new → named_column old table own ≡ Some e → named_column old table new ≡ None → column_number old all table own ≡ column_number old all table new → ⊥
      apart own new e among found none is =
          let m = added_at new among none in
          let small : e.number < old.next = (ordered sound).below e.number e (column_there old (ordered sound) table own e found).0 in
          let big : old.next ≤ added_number old.next all [] table new all = new_schedule_number _ m.2 (comes_in m.0) in
          let one : e.number ≡ added_number old.next all [] table new all = sym (number_of_some own e found) ∙ is ∙ number_of_none new none in
          omega arith

      pick : (o p : Option ElementDef) → named_column old table a ≡ o → named_column old table b ≡ p → a ≡ b
      pick (Some e) (Some g) found_a found_b =
          let there_a = column_there old (ordered sound) table a e found_a in
          let there_b = column_there old (ordered sound) table b g found_b in
          let one : e ≡ g = same_element old e g there_a.0 there_b.0 (sym (number_of_some a e found_a) ∙ same ∙ number_of_some b g found_b) in
          sym there_a.2 ∙ ap (λ (x : ElementDef). x.name) one ∙ there_b.2
      pick (Some e) None found_a none_b = absurd (apart a b e in_b found_a none_b same)
      pick None (Some g) none_a found_b = absurd (apart b a g in_a found_b none_a (sym same))
      pick None None none_a none_b =
          let m = added_at a in_a none_a in
          let n = added_at b in_b none_b in
          let one = one_is old sound all plannable _ _ m.2 n.2 (sym (number_of_none a none_a) ∙ same ∙ number_of_none b none_b) in
          ap (λ (t : Schedule). t.fresh.name) one

  distinct_each : (f : List ℕ → ℕ) (xs : List (List ℕ)) → ((a b : List ℕ) → Contains xs a → Contains xs b → f a ≡ f b → a ≡ b) → names.is_distinct xs ≡ true → is_distinct (each f xs) ≡ true
  distinct_each f [] one e = refl
  distinct_each f (x ∷ xs) one e =
      let parts = and_true (not (is_among x xs)) (names.is_distinct xs) e in
      both (not (list_any (λ y. f x == y) (each f xs))) (is_distinct (each f xs))
      (ap not (not_true (list_any (λ y. f x == y) (each f xs)) (λ t.
      let found = any_element (λ y. f x == y) (each f xs) t in
      let own = contains_each f xs found.0 found.1 in
      let same : x ≡ own.0 = one x own.0 (contains_first x xs) (contains_later x xs own.0 own.1) ((Decides-eqb (f x) found.0).0 found.2 ∙ own.2) in
      true≢false (sym (any_of (λ other. bytes_eq other x) xs own.0 own.1 ((bytes_eq-Decides own.0 x).1 (sym same))) ∙ not_is _ parts.0))))
      (distinct_each f xs (λ a b in_a in_b is. one a b (contains_later x xs a in_a) (contains_later x xs b in_b) is) parts.1)
    where
      both : (a b : Bool) → a ≡ true → b ≡ true → (a && b) ≡ true
      both true b e f = f
      both false b e f = absurd (true≢false (sym e))

      not_is : (b : Bool) → not b ≡ true → b ≡ false
      not_is true e = absurd (true≢false (sym e))
      not_is false e = refl

  stable_fair : (kind : Kind) → ¬ (¬ (IsFairKind kind)) → IsFairKind kind
  stable_fair kind h = (fair_kind kind).0 (is_true_if_not_false (is_fair_kind kind) (λ f. h (λ fair. true≢false (sym ((fair_kind kind).1 fair) ∙ f))))

  pub added_is : (schedule : Schedule) → Contains (schedules old all) schedule → is_in schedule.state_path ≡ true → IsAdded old (schedules old all) schedule
  added_is schedule has new = record {
    unused = bounds.0;
    counted = counted (new_is schedule p new);
    table = λ none. no_table none (new_is schedule p new);
    name = name_is (new_is schedule p new);
    fair = fair_is (new_is schedule p new);
    no_key = λ def type at key. not_taken schedule p new (inl (def, type, at, key));
    no_live = λ number element at is_t is_n. not_named old schedule.fresh.table schedule.fresh.name (none_if_not_some _ (λ some. not_taken schedule p new (inr (inl some)))) number element at is_t is_n;
    no_other = λ other has_other new_other is_t is_n. no_other_is schedule other has has_other new new_other is_t is_n;
  }
    where
      p : Place old sound all plannable schedule
      p = place_of old sound all plannable schedule has

      bounds : (old.next ≤ schedule.number) × (schedule.number < old.next + count_by is_addition all)
      bounds = new_number schedule p new

      counted : New schedule p → schedule.number ≤ max_elements
      counted (AnIndex table name columns is fresh) = elim (cases_lt (max_elements + 1) (old.next + count_by is_addition all)) [
        | inl over ↦ absurd (clear old sound all plannable (AddIndex table name columns) (subst (Contains all) is (has_change old sound all plannable schedule p)) Limit (λ earlier. inr (inr (inr over))))
        | inr within ↦ omega (arith, bounds.1)
      ]
      counted (AColumn table name kind is fresh) = elim (cases_lt (max_elements + 1) (old.next + count_by is_addition all)) [
        | inl over ↦ absurd (clear old sound all plannable (AddColumn table name kind) (subst (Contains all) is (has_change old sound all plannable schedule p)) Limit (λ earlier. inr (inr (inr over))))
        | inr within ↦ omega (arith, bounds.1)
      ]

      no_table : table_at old schedule.fresh.table ≡ None → New schedule p → ⊥
      no_table none (AnIndex table name columns is fresh) = clear old sound all plannable (AddIndex table name columns) (subst (Contains all) is (has_change old sound all plannable schedule p)) Unknown (λ earlier. inl (none_is (ap (λ (f : NewElement). table_at old f.table) (sym fresh) ∙ none)))
        where
          none_is : {A : Type 0} {o : Option A} → o ≡ None → IsNone o
          none_is e = ap is_some e
      no_table none (AColumn table name kind is fresh) = clear old sound all plannable (AddColumn table name kind) (subst (Contains all) is (has_change old sound all plannable schedule p)) Unknown (λ earlier. inl (none_is (ap (λ (f : NewElement). table_at old f.table) (sym fresh) ∙ none)))
        where
          none_is : {A : Type 0} {o : Option A} → o ≡ None → IsNone o
          none_is e = ap is_some e

      name_is : New schedule p → IsName schedule.fresh.name
      name_is (AnIndex table name columns is fresh) = subst (λ (f : NewElement). IsName f.name) (sym fresh) (stable_name name (λ n. clear old sound all plannable (AddIndex table name columns) (subst (Contains all) is (has_change old sound all plannable schedule p)) Limit (λ earlier. inl n)))
      name_is (AColumn table name kind is fresh) = subst (λ (f : NewElement). IsName f.name) (sym fresh) (stable_name name (λ n. clear old sound all plannable (AddColumn table name kind) (subst (Contains all) is (has_change old sound all plannable schedule p)) Limit (λ earlier. inl n)))

      fair_is : New schedule p → IsFairKind schedule.fresh.kind
      fair_is (AnIndex table name columns is fresh) =
          let has_add : Contains all (AddIndex table name columns) = subst (Contains all) is (has_change old sound all plannable schedule p) in
          let list : IsNameList columns = stable_list columns (λ n. clear old sound all plannable (AddIndex table name columns) has_add Limit (λ earlier. inr (inl n))) in
          subst (λ (f : NewElement). IsFairKind f.kind) (sym fresh) (
            subst (λ n. 1 ≤ n) (sym (length-map columns (column_number old all table))) list.0,
            subst (λ n. n ≤ max_listed) (sym (length-map columns (column_number old all table))) list.1,
            distinct_each (column_number old all table) columns (λ a b in_a in_b same. one_column table name columns has_add a b in_a in_b same) list.2,
          )
      fair_is (AColumn table name kind is fresh) = subst (λ (f : NewElement). IsFairKind f.kind) (sym fresh) (stable_fair kind (λ n. clear old sound all plannable (AddColumn table name kind) (subst (Contains all) is (has_change old sound all plannable schedule p)) Limit (λ earlier. inr (inl n))))
