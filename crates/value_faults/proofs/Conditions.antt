-- What is found of conditions is the first wrong value.
use Rattle.std.proofs.Common.{◌≡◌, ◌≢◌, ◌&&◌, ◌||◌, ◌++◌, ◌+◌, ◌<◌, ℕ, Bool, true, false, cond, List, [], ◌∷◌, length, Option, Some, None, Ok, Err, option_map, refl, sym, ap, subst, ◌∙◌, arith, is_some}
use Rattle.std.specs.Prelude.{is_none, IfSome, IfNone}
use Rattle.std.specs.List.{AllByRecursion}
use Rattle.std.specs.Option.{option_or}
use mathlib.Core.List.{map as each}
use Rattle.collections.specs.Answers.{◌>>>=◌}
use Rattle.collections.specs.Refusal.{IsFirst, IsClear}
use Rattle.keycode.specs.declared.value.Value.{Value}
use Rattle.row_map.specs.declared.shape.ColumnType.{ColumnType}
use Rattle.schema_version.specs.declared.element.ElementDef.{ElementDef}
use Rattle.schema_version.specs.Columns.{column_type}
use Rattle.schema_version.specs.Sound.{IsSoundVersion}
use Rattle.schema_version.specs.Version.{Version, Table, table_at, live}
use Rattle.row_query.specs.declared.query.Cond.{Cond}
use Rattle.row_query.specs.declared.query.Cond.TheVariants.{Key, Equal, Between}
use Rattle.row_query.specs.declared.query.Query.{Query}
use Rattle.row_query.specs.declared.fault.QueryFault.{QueryFault}
use Rattle.row_query.specs.declared.fault.QueryFault.TheVariants.{NoTable, NotPublic, WrongType}
use Rattle.row_query.specs.Kinds.{has_kind}
use Rattle.row_query.specs.Refused.{Part, Named, Where, rank, PartFault, IsFirstPartFault, IsRefused}
use Rattle.row_query.specs.inner.Checks.{is_key_for, may_equal, is_bound, tested, condition_check, conditions_check, columns_check, check_in, query_check}
use Rattle.row_query.proofs.Decides.{Checks, passed, SayAll, parts_say, check_refuses, check_passes}
use Rattle.row_query.proofs.Unique.{only_one, sound_clear}
use Rattle.value_faults.specs.declared.fault.ValueCause.{ValueCause}
use Rattle.value_faults.specs.declared.fault.ValueFault.{ValueFault}
use Rattle.value_faults.specs.declared.finding.Finding.{Finding}
use Rattle.value_faults.specs.declared.finding.Finding.TheVariants.{Clear, Other, Wrong}
use Rattle.value_faults.specs.Faults.{has_kind_or_null, wrong_key, wrong_for, wrong_bound, wrong_condition, IsQueryFault}
use Rattle.value_faults.specs.inner.Found.{of_cause, decided, names_hidden, condition_found, conditions_found, found_of, query_found}
use Rattle.value_faults.proofs.Tests.{both_same, none_or, none_key, none_for}

abbrev failed : QueryFault → Checks
failed fault = Err fault

fault_same : (f g : QueryFault) → failed f ≡ failed g → f ≡ g
fault_same f g e = cc

not_three : (fault : QueryFault) → rank fault < 3 → fault ≢ WrongType
not_three fault lt e = let r : rank fault ≡ 3 = ap rank e in omega (arith, lt, r)

-- ---- one condition

-- what is found of a condition with this wrong value, or with none, beside what its test says
abbrev Says : Option ValueCause → Checks → Finding → Type 0
Says wrong check Clear = check ≡ passed
Says wrong check Other = (fault : QueryFault) × (check ≡ Err fault) × (rank fault < 3)
Says wrong check (Wrong cause) = (check ≡ Err WrongType) × (wrong ≡ Some cause)

judged : (wrong : Option ValueCause) (b : Bool) → is_none wrong ≡ b → Says wrong (cond b (Ok tt) (Err WrongType)) (of_cause wrong)
judged None b e = ap (λ (x : Bool). cond x passed (Err WrongType)) (sym e)
judged (Some cause) b e = (ap (λ (x : Bool). cond x passed (Err WrongType)) (sym e), refl)

none_bound : (column : ℕ) (wanted : ColumnType) (bound : Option Value) → is_none (wrong_bound column (Some wanted) bound) ≡ is_bound wanted bound
none_bound column wanted None = refl
none_bound column wanted (Some value) = none_for has_kind column wanted value

-- ---- conditions in turn

-- the first wrong value, of conditions of which the first is at this place
record FoundFrom (elements : List ElementDef) (number : ℕ) (columns : List (List ℕ × ColumnType)) (start : ℕ) (cs : List Cond) (found : ValueFault) : Type 0 where
  before : List Cond
  after : List Cond
  condition : Cond
  split : cs ≡ before ++ condition ∷ after
  place : found.item ≡ start + length before
  earlier : conditions_check elements number columns before ≡ passed
  decides : condition_check elements number columns condition ≡ Err WrongType
  cause : wrong_condition columns elements number condition ≡ Some found.cause

abbrev FirstOf : List ElementDef → ℕ → List (List ℕ × ColumnType) → ℕ → List Cond → Checks → Option ValueFault → Type 0
FirstOf elements number columns start cs check None = check ≢ Err WrongType
FirstOf elements number columns start cs check (Some found) = (check ≡ Err WrongType) × FoundFrom elements number columns start cs found

abbrev ColumnsSay : Checks → Bool → Type 0
ColumnsSay check true = (fault : QueryFault) × (check ≡ Err fault) × (rank fault < 3)
ColumnsSay check false = check ≡ passed

module _ (elements : List ElementDef) (number : ℕ) (columns : List (List ℕ × ColumnType)) where
  condition_says : (c : Cond) → Says (wrong_condition columns elements number c) (condition_check elements number columns c) (condition_found columns elements number c)
  condition_says (Key key) = judged (wrong_key has_kind columns key) (is_key_for columns key) (none_key has_kind columns key)
  condition_says (Equal column value) =
      elim (column_type elements number column) as (λ o. Says (wrong_for has_kind_or_null column o value) (tested column o (λ type. may_equal type value)) (cond (is_none o) Other (of_cause (wrong_for has_kind_or_null column o value)))) [
        | None ↦ (NotPublic column, refl, omega arith)
        | Some wanted ↦ judged (wrong_for has_kind_or_null column (Some wanted) value) (may_equal wanted value) (none_for has_kind_or_null column wanted value)
      ]
  condition_says (Between column low high) =
      elim (column_type elements number column) as (λ o. Says (option_or (wrong_bound column o low) (wrong_bound column o high)) (tested column o (λ type. is_bound type low && is_bound type high)) (cond (is_none o) Other (of_cause (option_or (wrong_bound column o low) (wrong_bound column o high))))) [
        | None ↦ (NotPublic column, refl, omega arith)
        | Some wanted ↦ judged (option_or (wrong_bound column (Some wanted) low) (wrong_bound column (Some wanted) high)) (is_bound wanted low && is_bound wanted high)
            (none_or (wrong_bound column (Some wanted) low) (wrong_bound column (Some wanted) high) ∙ both_same (none_bound column wanted low) (none_bound column wanted high))
      ]

  -- ---- conditions in turn

  abbrev AllSay : ℕ → List Cond → Checks → Option ValueFault → Type 0
  AllSay = FirstOf elements number columns

  more : (start : ℕ) (c : Cond) (cs : List Cond) (check : Checks) (o : Option ValueFault) → condition_check elements number columns c ≡ passed → AllSay (start + 1) cs check o → AllSay start (c ∷ cs) check o
  more start c cs check None clear rest = rest
  more start c cs check (Some found) clear rest = (
    rest.0,
    record {
      before = c ∷ rest.1.before;
      after = rest.1.after;
      condition = rest.1.condition;
      split = ap (λ l. c ∷ l) rest.1.split;
      place = let p = rest.1.place in omega (arith, p);
      earlier = ap (λ (r : Checks). r >>>= λ _. conditions_check elements number columns rest.1.before) clear ∙ rest.1.earlier;
      decides = rest.1.decides;
      cause = rest.1.cause;
    },
  )

  conditions_say : (start : ℕ) (cs : List Cond) → AllSay start cs (conditions_check elements number columns cs) (conditions_found start columns elements number cs)
  conditions_say start [] = λ e. (let x : passed ≡ Err WrongType = e in cc)
  conditions_say start (c ∷ cs) =
      elim (condition_found columns elements number c) as (λ f. Says (wrong_condition columns elements number c) (condition_check elements number columns c) f
      → AllSay start (c ∷ cs) (condition_check elements number columns c >>>= λ _. conditions_check elements number columns cs) (decided start f (conditions_found (start + 1) columns elements number cs))) [
        | Clear ↦ λ s.
            subst (λ check. AllSay start (c ∷ cs) check (conditions_found (start + 1) columns elements number cs)) (ap (λ (r : Checks). r >>>= λ _. conditions_check elements number columns cs) (sym s))
            (more start c cs (conditions_check elements number columns cs) (conditions_found (start + 1) columns elements number cs) s (conditions_say (start + 1) cs))
        | Other ↦ λ s e. not_three s.0 s.2 (fault_same s.0 WrongType (sym (ap (λ (r : Checks). r >>>= λ _. conditions_check elements number columns cs) s.1) ∙ e))
        | Wrong cause ↦ λ s. (
          ap (λ (r : Checks). r >>>= λ _. conditions_check elements number columns cs) s.0,
          record {
            before = [];
            after = cs;
            condition = c;
            split = refl;
            place = omega arith;
            earlier = refl;
            decides = s.0;
            cause = s.1;
          },
        )
      ] (condition_says c)

  -- ---- the named columns

  columns_say : (named : List ℕ) → ColumnsSay (columns_check elements number named) (names_hidden elements number named)
  columns_say [] = refl
  columns_say (n ∷ named) =
      elim (column_type elements number n) as (λ o. ColumnsSay (cond (is_some o) (columns_check elements number named) (Err (NotPublic n))) (is_none o || names_hidden elements number named)) [
        | None ↦ (NotPublic n, refl, omega arith)
        | Some wanted ↦ columns_say named
      ]

-- ---- a query

record FoundIn (v : Version) (query : Query) (found : ValueFault) : Type 0 where
  table : Table
  known : table_at v query.table ≡ Some table
  named : columns_check (live v) query.table query.columns ≡ passed
  first : FoundFrom (live v) query.table table.key 0 query.conditions found

abbrev QuerySays : Version → Query → Checks → Option ValueFault → Type 0
QuerySays v query check None = check ≢ Err WrongType
QuerySays v query check (Some found) = (check ≡ Err WrongType) × FoundIn v query found

at_table : (v : Version) (query : Query) (table : Table) → table_at v query.table ≡ Some table → QuerySays v query (check_in (live v) (Some table.key) query) (found_of (live v) (Some table.key) query)
at_table v query table known =
    elim (names_hidden (live v) query.table query.columns) as (λ b. ColumnsSay (columns_check (live v) query.table query.columns) b
    → QuerySays v query (columns_check (live v) query.table query.columns >>>= λ _. conditions_check (live v) query.table table.key query.conditions) (cond b None (conditions_found 0 table.key (live v) query.table query.conditions))) [
      | true ↦ λ s e. not_three s.0 s.2 (fault_same s.0 WrongType (sym (ap (λ (r : Checks). r >>>= λ _. conditions_check (live v) query.table table.key query.conditions) s.1) ∙ e))
      | false ↦ λ s.
          subst (λ check. QuerySays v query check (conditions_found 0 table.key (live v) query.table query.conditions)) (ap (λ (r : Checks). r >>>= λ _. conditions_check (live v) query.table table.key query.conditions) (sym s))
          (lifted s (conditions_found 0 table.key (live v) query.table query.conditions) (conditions_say (live v) query.table table.key 0 query.conditions))
    ] (columns_say (live v) query.table table.key query.columns)
  where
    lifted : columns_check (live v) query.table query.columns ≡ passed → (o : Option ValueFault) → FirstOf (live v) query.table table.key 0 query.conditions (conditions_check (live v) query.table table.key query.conditions) o
        → QuerySays v query (conditions_check (live v) query.table table.key query.conditions) o
    lifted s None says = says
    lifted s (Some found) says = (says.0, record { table = table; known = known; named = s; first = says.1 })

query_says : (v : Version) (query : Query) → QuerySays v query (query_check v query) (query_found v query)
query_says v query =
    elim (table_at v query.table) as (λ o. table_at v query.table ≡ o → QuerySays v query (check_in (live v) (option_map (λ (t : Table). t.key) o) query) (found_of (live v) (option_map (λ (t : Table). t.key) o) query)) [
      | None ↦ λ _ e. (let x : NoTable ≡ WrongType = fault_same NoTable WrongType e in cc)
      | Some table ↦ λ known. at_table v query table known
    ] refl

only_part : (part other : Part) (before after : List Part) → part ∷ [] ≡ before ++ other ∷ after → other ≡ part
only_part part other [] after e = cc
only_part part other (b ∷ []) after e = absurd cc
only_part part other (b ∷ d ∷ before) after e = absurd cc

module _ (v : Version) (sound : IsSoundVersion v) (query : Query) where
  first_part : (table : Table) (c : Cond) → condition_check (live v) query.table table.key c ≡ Err WrongType → IsFirst rank (PartFault v query.table table (Where c)) WrongType
  first_part table c e =
      let one : IsFirstPartFault v query.table table (Where c ∷ []) WrongType =
      subst (SayAll v sound query.table table (Where c ∷ [])) (ap (λ (r : Checks). r >>>= λ _. passed) e) (parts_say v sound query.table table [] (c ∷ [])) in
      from one
    where
      from : IsFirstPartFault v query.table table (Where c ∷ []) WrongType → IsFirst rank (PartFault v query.table table (Where c)) WrongType
      from (before, after, part, split, first, others) = subst (λ p. IsFirst rank (PartFault v query.table table p) WrongType) (only_part (Where c) part before after split) first

  clear_parts : (table : Table) (before : List Cond) → columns_check (live v) query.table query.columns ≡ passed → conditions_check (live v) query.table table.key before ≡ passed
      → AllByRecursion (λ part. IsClear (PartFault v query.table table part)) (each Named query.columns ++ each Where before)
  clear_parts table before named earlier =
      subst (SayAll v sound query.table table (each Named query.columns ++ each Where before)) (ap (λ (r : Checks). r >>>= λ _. conditions_check (live v) query.table table.key before) named ∙ earlier) (parts_say v sound query.table table query.columns before)

  wrong_is : (found : ValueFault) → query_check v query ≡ Err WrongType → FoundIn v query found → IsQueryFault v query found
  wrong_is found e f = record {
    refused = check_refuses v sound query (Err WrongType) (sym e);
    before = f.first.before;
    after = f.first.after;
    condition = f.first.condition;
    split = f.first.split;
    place = let p = f.first.place in omega (arith, p);
    table = f.table;
    known = f.known;
    decides = first_part f.table f.first.condition f.first.decides;
    earlier = clear_parts f.table f.first.before f.named f.first.earlier;
    cause = f.first.cause;
  }

  other_fault : (fault : QueryFault) → fault ≢ WrongType → query_check v query ≡ Err fault → IsRefused v query WrongType → ⊥
  other_fault fault ne e h = ne (only_one v query fault WrongType (check_refuses v sound query (Err fault) (sym e)) h)

  none_refused : query_check v query ≢ Err WrongType → ¬ (IsRefused v query WrongType)
  none_refused ne h =
      elim (query_check v query) as (λ r. query_check v query ≡ r → ⊥) [
        | Ok u ↦ λ e. sound_clear v query (check_passes v sound query (Ok u) (sym e)) WrongType h
        | Err fault ↦ λ e. other_fault fault (λ same. ne (e ∙ ap (λ (f : QueryFault). Err f) same)) e h
      ] refl

  pub found_is : (r : Option ValueFault) → r ≡ query_found v query → IfSome r (IsQueryFault v query)
  found_is None e = tt
  found_is (Some found) e = let s : QuerySays v query (query_check v query) (Some found) = subst (QuerySays v query (query_check v query)) (sym e) (query_says v query) in wrong_is found s.0 s.1

  pub none_is : (r : Option ValueFault) → r ≡ query_found v query → IfNone r (¬ (IsRefused v query WrongType))
  none_is None e = none_refused (subst (QuerySays v query (query_check v query)) (sym e) (query_says v query))
  none_is (Some found) e = tt
