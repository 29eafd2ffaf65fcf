-- No lawful plan has fewer steps than the schedule.
use Rattle.std.specs.Prelude.{◌≡◌, ℕ, zero, suc, ◌+◌, ◌≤◌, List, [], ◌∷◌, ◌++◌, length, Bool, true, false, ◌==◌, if◌then◌else◌, Option, Some, None, Contains, ◌⊎◌, refl}
use Rattle.std.specs.List.{list_any, AllZip}
use Rattle.std.proofs.Common.{sym, ap, subst, ◌∙◌, inl, inr, true≢false, arith}
use Rattle.std.proofs.lemmas.List.{append_assoc}
use Rattle.std.proofs.lemmas.List.Elements.{All-contains, All-from_recursion, Contains-append_cases}
use Rattle.schema_version.proofs.Lists.{any_from}
use Rattle.schema_version.specs.Edges.{is_filled}
use Rattle.std.proofs.Math.Nat.{max-le, le-max_left, le-max_right}
use Rattle.std.proofs.lemmas.Bool.{cases_lt}
use Rattle.std.proofs.lemmas.Bool.Decides.{Decides-eqb}
use Rattle.schema_version.specs.declared.element.ElementState.TheVariants.{Public}
use Rattle.schema_version.specs.declared.element.Kind.{Kind}
use Rattle.schema_version.specs.declared.element.ElementDef.{ElementDef}
use Rattle.schema_version.specs.Version.{Version, element_at, indexed_columns, type_of_kind}
use Rattle.schema_version.specs.Sound.{IsSoundVersion}
use Rattle.schema_version.specs.Steps.{IsOrdered}
use Rattle.change_plan.proofs.MoveEffects.{not_both}
use Rattle.change_plan.specs.declared.change.Change.{Change}
use Rattle.change_plan.specs.declared.change.Change.TheVariants.{AddIndex, AddColumn}
use Rattle.change_plan.specs.declared.fault.PlanFault.{PlanFault}
use Rattle.change_plan.specs.declared.fault.PlanFault.TheVariants.{NameTaken}
use Rattle.change_plan.specs.declared.least_plan.PlanStep.{PlanStep}
use Rattle.change_plan.specs.Plans.{after_plan, AreAllowed, IsTarget, IsLawful, Adds, IsAddition, IsColumnNamed}
use Rattle.change_plan.specs.Batches.{named, dropped_element, is_same_name, adds, adds_column, lists}
use Rattle.change_plan.specs.Refusals.{ChangeFault, IsPlannable}
use Rattle.change_plan.specs.declared.schedule.StatePath.TheVariants.{PlainIn, FilledIn}
use Rattle.change_plan.specs.declared.schedule.Schedule.{Schedule}
use Rattle.change_plan.specs.Schedule.{steps, state_path_in, state_path_out, steps_to, steps_until, wait_in, duration, longest, steps_from, steps_on, wait_out, out_schedule, schedule_out, schedule_of, schedules_from, schedules, planned_steps}
use Rattle.change_plan.proofs.Bounds.{height, height_by, height_in, distance, height_over, distance_over, two_dropped, two_added, still_in_the_end}
use Rattle.change_plan.proofs.Leaving.{none_if_not_some, Departs, departs}
use Rattle.change_plan.proofs.Named.{not_named, any_element, same_name, same_name_is, contains_middle, split_at, contains_none, contains_cases, contains_first, contains_later, ordered}

-- an element that comes takes a step for each edge
height_steps : (kind : Kind) → height_in kind Public ≡ steps (state_path_in kind)
height_steps kind = by (is_filled kind)
  where
    by : (filled : Bool) → height_by filled Public ≡ steps (if filled then FilledIn else PlainIn)
    by true = refl
    by false = refl

-- what stands beside an element
zip_element : {A B : Type 0} (R : A → B → Type 0) (xs : List A) (ys : List B) → AllZip R xs ys → (x : A) → Contains xs x → (y : B) × Contains ys y × R x y
zip_element R [] ys zip x h = absurd (contains_none x h)
zip_element R (a ∷ xs) [] zip x h = absurd zip
zip_element R (a ∷ xs) (b ∷ ys) zip x h = elim (contains_cases a xs x h) [
  | inl is ↦ (b, contains_first b ys, subst (λ z. R z b) is zip.0)
  | inr more ↦ let rest = zip_element R xs ys zip.1 x more in (rest.0, contains_later b ys rest.0 rest.1, rest.2)
]

-- the change is one that adds this column
pub adds_column_is : (table : ℕ) (name : List ℕ) (change : Change) → adds_column table name change ≡ true → (kind : Kind) × (change ≡ AddColumn table name kind)
adds_column_is table name (AddColumn other own kind) e = let same = same_name table name other own e in (kind, ap (λ t. AddColumn t own kind) (sym same.0) ∙ ap (λ n. AddColumn table n kind) (sym same.1))
adds_column_is table name change e = absurd (true≢false (sym e))

lists_is : (column : ℕ) (index : ElementDef) → lists column index ≡ true → Contains (indexed_columns index.kind) column
lists_is column index e =
    let found = any_element (λ other. other == column) (indexed_columns index.kind) e in
    subst (Contains (indexed_columns index.kind)) ((Decides-eqb found.0 column).0 found.2) found.1

-- an element that waits does so for an index that lists it
data Waits (old : Version) (number : ℕ) (changes : List Change) : Type 0 where
  AtOnce : wait_out old number changes ≡ 0 → Waits old number changes
  For : (change : Change) (index : ElementDef) → Contains changes change → dropped_element old change ≡ Some index → Contains (indexed_columns index.kind) number → wait_out old number changes ≡ steps (state_path_out index.kind index.state) → Waits old number changes

steps_of : (old : Version) (number : ℕ) (change : Change) → (steps_on number (dropped_element old change) ≡ 0) ⊎ ((index : ElementDef) × (dropped_element old change ≡ Some index) × Contains (indexed_columns index.kind) number × (steps_on number (dropped_element old change) ≡ steps (state_path_out index.kind index.state)))
steps_of old number change = pick (dropped_element old change) refl
  where
    by : (index : ElementDef) → dropped_element old change ≡ Some index → (b : Bool) → lists number index ≡ b → (steps_on number (dropped_element old change) ≡ 0) ⊎ ((index : ElementDef) × (dropped_element old change ≡ Some index) × Contains (indexed_columns index.kind) number × (steps_on number (dropped_element old change) ≡ steps (state_path_out index.kind index.state)))
    by index is true t = inr (index, is, lists_is number index t, ap (steps_on number) is ∙ ap (λ b. if b then steps (state_path_out index.kind index.state) else 0) t)
    by index is false t = inl (ap (steps_on number) is ∙ ap (λ b. if b then steps (state_path_out index.kind index.state) else 0) t)

    pick : (o : Option ElementDef) → dropped_element old change ≡ o → (steps_on number (dropped_element old change) ≡ 0) ⊎ ((index : ElementDef) × (dropped_element old change ≡ Some index) × Contains (indexed_columns index.kind) number × (steps_on number (dropped_element old change) ≡ steps (state_path_out index.kind index.state)))
    pick None is = inl (ap (steps_on number) is)
    pick (Some index) is = by index is (lists number index) refl

waits_for : (old : Version) (number : ℕ) (changes : List Change) → Waits old number changes
waits_for old number [] = AtOnce refl
waits_for old number (change ∷ changes) = pick (waits_for old number changes) (steps_of old number change)
  where
    pick : Waits old number changes → (steps_on number (dropped_element old change) ≡ 0) ⊎ ((index : ElementDef) × (dropped_element old change ≡ Some index) × Contains (indexed_columns index.kind) number × (steps_on number (dropped_element old change) ≡ steps (state_path_out index.kind index.state))) → Waits old number (change ∷ changes)
    pick (AtOnce none) (inl none_on) = AtOnce (omega arith)
    pick (AtOnce none) (inr (index, is, on, long)) = For change index (contains_first change changes) is on (omega (arith, long))
    pick (For other index has is on long) (inl none_on) = For other index (contains_later change changes other has) is on (omega arith)
    pick (For other index has is on long) (inr (first, is_first, on_first, long_first)) = elim (cases_lt (steps_on number (dropped_element old change)) (wait_out old number changes)) [
      | inl less ↦ For other index (contains_later change changes other has) is on (omega (arith, less))
      | inr more ↦ For change first (contains_first change changes) is_first on_first (omega (arith, more, long_first))
    ]

-- an index that waits does so for a column that the batch adds
data WaitsIn (all : List Change) (table : ℕ) (columns : List (List ℕ)) : Type 0 where
  NoWait : wait_in all table columns ≡ 0 → WaitsIn all table columns
  Until : (name : List ℕ) (kind : Kind) → Contains columns name → Contains all (AddColumn table name kind) → wait_in all table columns ≡ steps (state_path_in kind) → WaitsIn all table columns

steps_to_is : (table : ℕ) (name : List ℕ) (change : Change) → (steps_to table name change ≡ 0) ⊎ ((kind : Kind) × (change ≡ AddColumn table name kind) × (steps_to table name change ≡ steps (state_path_in kind)))
steps_to_is table name (AddColumn other own kind) = pick (is_same_name table name other own) refl
  where
    pick : (b : Bool) → is_same_name table name other own ≡ b → (steps_to table name (AddColumn other own kind) ≡ 0) ⊎ ((k : Kind) × (AddColumn other own kind ≡ AddColumn table name k) × (steps_to table name (AddColumn other own kind) ≡ steps (state_path_in k)))
    pick true is =
        let same = same_name table name other own is in
        inr (kind, ap (λ t. AddColumn t own kind) (sym same.0) ∙ ap (λ n. AddColumn table n kind) (sym same.1), ap (λ b. if b then steps (state_path_in kind) else 0) is)
    pick false is = inl (ap (λ b. if b then steps (state_path_in kind) else 0) is)
steps_to_is table name change = inl refl

until_is : (table : ℕ) (name : List ℕ) (changes : List Change) → (steps_until table name changes ≡ 0) ⊎ ((kind : Kind) × Contains changes (AddColumn table name kind) × (steps_until table name changes ≡ steps (state_path_in kind)))
until_is table name [] = inl refl
until_is table name (x ∷ xs) = pick (until_is table name xs) (steps_to_is table name x)
  where
    pick : (steps_until table name xs ≡ 0) ⊎ ((kind : Kind) × Contains xs (AddColumn table name kind) × (steps_until table name xs ≡ steps (state_path_in kind)))
        → (steps_to table name x ≡ 0) ⊎ ((kind : Kind) × (x ≡ AddColumn table name kind) × (steps_to table name x ≡ steps (state_path_in kind)))
        → (steps_until table name (x ∷ xs) ≡ 0) ⊎ ((kind : Kind) × Contains (x ∷ xs) (AddColumn table name kind) × (steps_until table name (x ∷ xs) ≡ steps (state_path_in kind)))
    pick (inl none) (inl no_first) = inl (omega (arith, none, no_first))
    pick (inl none) (inr (kind, is, long)) = inr (kind, subst (Contains (x ∷ xs)) is (contains_first x xs), omega (arith, none, long))
    pick (inr (kind, has, long)) (inl no_first) = inr (kind, contains_later x xs _ has, omega (arith, long, no_first))
    pick (inr (kind, has, long)) (inr (first, is, long_first)) = elim (cases_lt (steps_to table name x) (steps_until table name xs)) [
      | inl less ↦ inr (kind, contains_later x xs _ has, omega (arith, long, less))
      | inr more ↦ inr (first, subst (Contains (x ∷ xs)) is (contains_first x xs), omega (arith, more, long_first))
    ]

waits_in : (all : List Change) (table : ℕ) (columns : List (List ℕ)) → WaitsIn all table columns
waits_in all table [] = NoWait refl
waits_in all table (name ∷ names) = pick (waits_in all table names) (until_is table name all)
  where
    pick : WaitsIn all table names → (steps_until table name all ≡ 0) ⊎ ((kind : Kind) × Contains all (AddColumn table name kind) × (steps_until table name all ≡ steps (state_path_in kind))) → WaitsIn all table (name ∷ names)
    pick (NoWait none) (inl no_first) = NoWait (omega (arith, none, no_first))
    pick (NoWait none) (inr (kind, has, long)) = Until name kind (contains_first name names) has (omega (arith, none, long))
    pick (Until own kind among has long) (inl no_first) = Until own kind (contains_later name names own among) has (omega (arith, long, no_first))
    pick (Until own kind among has long) (inr (first, has_first, long_first)) = elim (cases_lt (steps_until table name all) (wait_in all table names)) [
      | inl less ↦ Until own kind (contains_later name names own among) has (omega (arith, long, less))
      | inr more ↦ Until name first (contains_first name names) has_first (omega (arith, more, long_first))
    ]

module _ (old : Version) (sound : IsSoundVersion old) (numbered : IsOrdered old) (all : List Change) (plannable : IsPlannable old all) (other : List PlanStep) (allowed : AreAllowed old other) (target : IsTarget old all (after_plan old other)) where
  new : Version
  new = after_plan old other

  clear : (change : Change) → Contains all change → (fault : PlanFault) → ((earlier : List Change) → ChangeFault old all earlier change fault) → ⊥
  clear change has fault faulty = let split = split_at all change has in plannable split.0 split.1 change fault split.2 (faulty split.0)

  -- what a change adds
  abbrev Addition : Change → Type 0
  Addition change = (number : ℕ) × (element : ElementDef) × (element_at old number ≡ None) × (element_at (after_plan old other) number ≡ Some element) × (element.state ≡ Public) × Adds (after_plan old other) element change

  addition : (change : Change) → Contains all change → IsAddition change → Addition change
  addition change has is = All-contains (λ c. IsAddition c → Addition c) all change (All-from_recursion _ all target.added) has is

  -- an element that has come took a step for each edge
  comes : (number : ℕ) (e : ElementDef) → element_at old number ≡ None → element_at (after_plan old other) number ≡ Some e → e.state ≡ Public → height_in e.kind Public ≤ length other
  comes number e before after is_public =
      let one : height (element_at (after_plan old other) number) ≤ height (element_at old number) + length other = height_over other old numbered allowed number in
      let start : height (element_at old number) ≡ 0 = ap height before in
      let end : height (element_at (after_plan old other) number) ≡ height_in e.kind Public = ap height after ∙ ap (height_in e.kind) is_public in
      omega arith

  column_added : (table : ℕ) (name : List ℕ) (kind : Kind) → Contains all (AddColumn table name kind) → steps (state_path_in kind) ≤ length other
  column_added table name kind has =
      let a = addition (AddColumn table name kind) has tt in
      let tall : height_in a.1.kind Public ≡ steps (state_path_in kind) = ap (λ k. height_in k Public) a.5.2 ∙ height_steps kind in
      let bound : height_in a.1.kind Public ≤ length other = comes a.0 a.1 a.2 a.3 a.4 in
      omega arith

  index_added : (table : ℕ) (name : List ℕ) (columns : List (List ℕ)) → Contains all (AddIndex table name columns) → 3 ≤ length other
  index_added table name columns has =
      let a = addition (AddIndex table name columns) has tt in
      let tall : height_in a.1.kind Public ≡ 3 = ap (λ k. height_in k Public) a.5.3 in
      let bound : height_in a.1.kind Public ≤ length other = comes a.0 a.1 a.2 a.3 a.4 in
      omega arith

  -- the batch adds a name once
  behind_none : (table : ℕ) (name : List ℕ) (before after : List Change) (change : Change) → all ≡ before ++ change ∷ after → adds table name change ≡ true → list_any (adds table name) before ≡ true → ⊥
  behind_none table name before after (AddIndex other own columns) split is earlier =
      let same = same_name table name other own is in
      plannable before after (AddIndex other own columns) NameTaken split (inr (inr (subst (λ t. list_any (adds t own) before ≡ true) same.0 (subst (λ n. list_any (adds table n) before ≡ true) same.1 earlier))))
  behind_none table name before after (AddColumn other own kind) split is earlier =
      let same = same_name table name other own is in
      plannable before after (AddColumn other own kind) NameTaken split (inr (inr (subst (λ t. list_any (adds t own) before ≡ true) same.0 (subst (λ n. list_any (adds table n) before ≡ true) same.1 earlier))))
  behind_none table name before after change split is earlier = absurd (true≢false (sym is))

  adds_once : (table : ℕ) (name : List ℕ) (a b : Change) → Contains all a → Contains all b → adds table name a ≡ true → adds table name b ≡ true → a ≡ b
  adds_once table name a b has_a has_b is_a is_b = pick (Contains-append_cases s.0 (a ∷ s.1) b (subst (λ cs. Contains cs b) s.2 has_b))
    where
      s : (before after : List Change) × (all ≡ before ++ a ∷ after)
      s = split_at all a has_a

      behind : Contains s.1 b → a ≡ b
      behind has =
          let t = split_at s.1 b has in
          let whole : all ≡ (s.0 ++ a ∷ t.0) ++ b ∷ t.1 = s.2 ∙ ap (λ r. s.0 ++ a ∷ r) t.2 ∙ sym (append_assoc s.0 (a ∷ t.0) (b ∷ t.1)) in
          absurd (behind_none table name (s.0 ++ a ∷ t.0) t.1 b whole is_b (any_from (adds table name) (s.0 ++ a ∷ t.0) a (contains_middle s.0 t.0 a) is_a))

      pick : Contains s.0 b ⊎ Contains (a ∷ s.1) b → a ≡ b
      pick (inl has) = absurd (behind_none table name s.0 s.1 a s.2 is_a (any_from (adds table name) s.0 b has is_b))
      pick (inr has) = elim (contains_cases a s.1 b has) [ inl is ↦ is | inr more ↦ behind more ]

  -- what has come under the name of an added column has its kind
  kind_of_added : (table : ℕ) (name : List ℕ) (kind : Kind) → Contains all (AddColumn table name kind) → (e : ElementDef) (type : _) → e.table ≡ table → e.name ≡ name → type_of_kind e.kind ≡ Some type → (change : Change) → Contains all change → Adds (after_plan old other) e change → e.kind ≡ kind
  kind_of_added table name kind has e type is_table is_name is_type (AddIndex t n columns) among adds_it = absurd (not_both type (type_of_kind e.kind) is_type (ap type_of_kind adds_it.3))
  kind_of_added table name kind has e type is_table is_name is_type (AddColumn t n k) among adds_it =
      let same : AddColumn t n k ≡ AddColumn table name kind = adds_once table name (AddColumn t n k) (AddColumn table name kind) among has (same_name_is table t name n (sym is_table ∙ adds_it.0) (sym is_name ∙ adds_it.1)) (same_name_is table table name name refl refl) in
      let one : k ≡ kind = cc in
      adds_it.2 ∙ one
  kind_of_added table name kind has e type is_table is_name is_type change among adds_it = absurd adds_it

  -- a column of this name has come, and is public
  new_column : (table : ℕ) (name : List ℕ) (kind : Kind) → Contains all (AddColumn table name kind) → (number : ℕ) → IsColumnNamed (after_plan old other) table name number → (element_at old number ≡ None) × (height (element_at (after_plan old other) number) ≡ steps (state_path_in kind))
  new_column table name kind has number column =
      let before : element_at old number ≡ None = pick (element_at old number) refl in
      let came = target.only number column.0 before column.2 in
      let is_kind : column.0.kind ≡ kind = kind_of_added table name kind has column.0 column.1 column.3 column.4 column.5 came.0 came.1 came.3 in
      (before, ap height column.2 ∙ ap (height_in column.0.kind) came.2 ∙ ap (λ k. height_in k Public) is_kind ∙ height_steps kind)
    where
      not_live : named old table name ≡ None
      not_live = none_if_not_some _ (λ t. clear (AddColumn table name kind) has NameTaken (λ earlier. inr (inl t)))

      pick : (o : Option ElementDef) → element_at old number ≡ o → element_at old number ≡ None
      pick None at = at
      pick (Some e) at =
          let still = still_in_the_end other old numbered allowed number e column.0 at column.2 in
          absurd (not_named old table name not_live number e at (sym still.0 ∙ column.3) (sym still.1 ∙ column.4))

  late_index_added : (table : ℕ) (name : List ℕ) (columns : List (List ℕ)) → Contains all (AddIndex table name columns) → WaitsIn all table columns → wait_in all table columns + 3 ≤ length other
  late_index_added table name columns has (NoWait none) = omega (arith, none, index_added table name columns has)
  late_index_added table name columns has (Until own kind among has_column long) =
      let a = addition (AddIndex table name columns) has tt in
      let beside = zip_element (IsColumnNamed (after_plan old other) table) columns a.5.0 a.5.4 own among in
      let column = new_column table own kind has_column beside.0 beside.2 in
      let near : height (element_at (after_plan old other) a.0) + height (element_at (after_plan old other) beside.0) ≤ (height (element_at old a.0) + height (element_at old beside.0)) + length other =
      two_added other old numbered allowed a.0 beside.0 a.1 a.3 (subst (λ k. Contains (indexed_columns k) beside.0) (sym a.5.3) beside.1) in
      let index_start : height (element_at old a.0) ≡ 0 = ap height a.2 in
      let column_start : height (element_at old beside.0) ≡ 0 = ap height column.0 in
      let index_end : height (element_at (after_plan old other) a.0) ≡ 3 = ap height a.3 ∙ ap (height_in a.1.kind) a.4 ∙ ap (λ k. height_in k Public) a.5.3 in
      let column_end : height (element_at (after_plan old other) beside.0) ≡ steps (state_path_in kind) = column.1 in
      omega (arith, near, index_start, column_start, index_end, column_end, long)

  -- one that has gone took a step for each move
  goes : (change : Change) → Contains all change → (e : ElementDef) → dropped_element old change ≡ Some e → steps (state_path_out e.kind e.state) ≤ length other
  goes change has e is =
      let d = departs old sound all plannable change has e is in
      let gone : element_at (after_plan old other) e.number ≡ None = target.dropped e.number e change d.there has d.taken in
      let one : distance (element_at old e.number) ≤ distance (element_at (after_plan old other) e.number) + length other = distance_over other old numbered allowed e.number in
      let start : distance (element_at old e.number) ≡ steps (state_path_out e.kind e.state) = ap distance d.there ∙ sym d.moves in
      let end : distance (element_at (after_plan old other) e.number) ≡ 0 = ap distance gone in
      omega arith

  leaves : (change : Change) → Contains all change → (e : ElementDef) → dropped_element old change ≡ Some e → duration (out_schedule old all e) ≤ length other
  leaves change has e is = pick (waits_for old e.number all)
    where
      d : Departs old change e
      d = departs old sound all plannable change has e is

      gone : element_at (after_plan old other) e.number ≡ None
      gone = target.dropped e.number e change d.there has d.taken

      pick : Waits old e.number all → wait_out old e.number all + steps (state_path_out e.kind e.state) ≤ length other
      pick (AtOnce none) = omega (arith, goes change has e is)
      pick (For dropper index has_dropper is_index on long) =
          let i = departs old sound all plannable dropper has_dropper index is_index in
          let c = (sound.elements index.number index i.there).columns e.number on in
          let same : e ≡ c.0 = let two : Some e ≡ Some c.0 = sym d.there ∙ c.2 in cc in
          let index_gone : element_at (after_plan old other) index.number ≡ None = target.dropped index.number index dropper i.there has_dropper i.taken in
          let both : distance (Some index) + distance (Some e) ≤ length other = two_dropped other old numbered allowed index.number e.number index e c.1 i.there on d.there (ap (λ (x : ElementDef). type_of_kind x.kind) same ∙ c.4) (ap (λ (x : ElementDef). x.state) same ∙ c.5) index_gone gone in
          let one : steps (state_path_out index.kind index.state) ≡ distance (Some index) = i.moves in
          let two : steps (state_path_out e.kind e.state) ≡ distance (Some e) = d.moves in
          omega arith

  -- ---- the longest schedule

  schedule_out_short : (o : Option ElementDef) → ((e : ElementDef) → o ≡ Some e → duration (out_schedule old all e) ≤ length other) → longest (schedule_out old all o) ≤ length other
  schedule_out_short None h = omega arith
  schedule_out_short (Some e) h = max-le {b = 0} (h e refl) (omega arith)

  schedule_short : (change : Change) → Contains all change → (earlier : List Change) → longest (schedule_of old all earlier change) ≤ length other
  schedule_short (AddIndex table name columns) has earlier = max-le {b = 0} (late_index_added table name columns has (waits_in all table columns)) (omega arith)
  schedule_short (AddColumn table name kind) has earlier = max-le {b = 0} (let bound = column_added table name kind has in omega (arith, bound)) (omega arith)
  schedule_short change has earlier = schedule_out_short (dropped_element old change) (leaves change has)

  longest_append : (xs ys : List Schedule) → longest xs ≤ length other → longest ys ≤ length other → longest (xs ++ ys) ≤ length other
  longest_append [] ys one two = two
  longest_append (x ∷ xs) ys one two =
      let head : duration x ≤ length other = omega (arith, le-max_left (duration x) (longest xs)) in
      let tail : longest xs ≤ length other = omega (arith, le-max_right (duration x) (longest xs)) in
      max-le head (longest_append xs ys tail two)

  schedules_short : (changes : List Change) → ((change : Change) → Contains changes change → Contains all change) → (earlier : List Change) → longest (schedules_from old all earlier changes) ≤ length other
  schedules_short [] among earlier = omega arith
  schedules_short (change ∷ changes) among earlier =
      longest_append (schedule_of old all earlier change) _ (schedule_short change (among change (contains_first change changes)) earlier)
      (schedules_short changes (λ c has. among c (contains_later change changes c has)) _)

-- a plan of so many steps
steps_length : (schedules : List Schedule) (time count : ℕ) → length (steps_from schedules time count) ≡ count
steps_length schedules time zero = refl
steps_length schedules time (suc count) = ap suc (steps_length schedules (suc time) count)

-- no lawful plan has fewer steps than the schedule
pub planned_short : (old : Version) → IsSoundVersion old → (changes : List Change) → IsPlannable old changes → (other : List PlanStep) → IsLawful old changes other → length (planned_steps old changes) ≤ length other
planned_short old sound changes plannable other lawful =
    subst (λ n. n ≤ length other) (sym (steps_length (schedules old changes) 0 (longest (schedules old changes))))
    (schedules_short old sound (ordered sound) changes plannable other lawful.allowed lawful.target changes (λ c has. has) [])
