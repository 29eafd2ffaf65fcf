-- The tests find the fault that decides.
use Rattle.std.proofs.Common.{◌≡◌, ◌≢◌, ◌&&◌, ◌||◌, ◌<◌, ◌++◌, ℕ, Bool, true, false, cond, List, [], ◌∷◌, Option, Some, None, Result, Ok, Err, option_map, inl, inr, refl, sym, ap, subst, ◌∙◌, arith, is_some, true≢false}
use Rattle.std.specs.Prelude.{IfErr, OnOk}
use Rattle.std.specs.List.{AllByRecursion}
use Rattle.std.specs.Cmp.Lexicographic.{pointwise}
use mathlib.Core.List.{map as each}
use Rattle.collections.specs.Answers.{◌>>>=◌}
use Rattle.collections.specs.Refusal.{IsFirst, IsClear}
use Rattle.keycode.specs.declared.value.Value.{Value}
use Rattle.keycode.specs.declared.value.Value.TheVariants.{Null, Int, Text, Bool as Flag}
use Rattle.row_map.specs.declared.shape.ColumnType.{ColumnType}
use Rattle.row_map.specs.Shape.{is_null}
use Rattle.schema_version.specs.Shape.{key_types}
use Rattle.schema_version.specs.Sound.{IsSoundVersion}
use Rattle.schema_version.specs.Version.{Version, Table, table_at, live}
use Rattle.schema_version.proofs.Lists.{some_same, not_both}
use Rattle.row_query.specs.declared.fault.QueryFault.{QueryFault}
use Rattle.row_query.specs.declared.fault.QueryFault.TheVariants.{NoTable, NotPublic, WrongType, Memory}
use Rattle.row_query.specs.declared.query.Cond.{Cond}
use Rattle.row_query.specs.declared.query.Cond.TheVariants.{Key, Equal, Between}
use Rattle.row_query.specs.declared.query.Query.{Query}
use Rattle.schema_version.specs.Columns.{column_type}
use Rattle.row_query.specs.inner.Checks.{is_key_for, may_equal, is_bound, tested, condition_check, conditions_check, columns_check, check_in, query_check}
use Rattle.row_query.specs.Kinds.{has_kind}
use Rattle.row_query.specs.Refused.{IsColumn, IsHidden, Part, Named, Where, parts, IsBadBound, PartFault, rank, IsFirstPartFault, IsRefused, IsSound}
use Rattle.row_query.proofs.Columns.{column_says, column_from}

abbrev pub Checks : Type 0
Checks = Result (Unit {0}) QueryFault

abbrev pub passed : Checks
passed = Ok tt

-- ---- keys and values

pointwise_each : (columns : List (List ℕ × ColumnType)) (key : List Value) → is_key_for columns key ≡ pointwise has_kind (key_types columns) key
pointwise_each [] [] = refl
pointwise_each [] (v ∷ vs) = refl
pointwise_each (c ∷ cs) [] = refl
pointwise_each (c ∷ cs) (v ∷ vs) = ap (λ b. has_kind c.1 v && b) (pointwise_each cs vs)

null_is : (v : Value) → is_null v ≡ true → v ≡ Null
null_is Null e = refl
null_is (Int n) e = absurd cc
null_is (Text t) e = absurd cc
null_is (Flag b) e = absurd cc

null_test : (v : Value) → is_null v ≡ false → v ≢ Null
null_test v e is = not_both (ap is_null is) e

either : (a b : Bool) → (a || b) ≡ true → a ≡ false → b ≡ true
either true b e f = absurd (not_both refl f)
either false b e f = e

neither : (a b : Bool) → (a || b) ≡ false → (a ≡ false) × (b ≡ false)
neither true b e = absurd (true≢false e)
neither false b e = (refl, e)

module _ (v : Version) (sound : IsSoundVersion v) (number : ℕ) (table : Table) where
  abbrev Fault : Part → QueryFault → Type 0
  Fault part fault = PartFault v number table part fault

  -- ---- columns

  hidden : (column : ℕ) → column_type (live v) number column ≡ None → IsHidden v number column
  hidden column none type has = let there : column_type (live v) number column ≡ Some type = column_from v sound number column type has in cc

  shown : (column : ℕ) (type : ColumnType) → column_type (live v) number column ≡ Some type → ¬ (IsHidden v number column)
  shown column type is never = never type (column_says v sound number column type is)

  same_type : (column : ℕ) (s t : ColumnType) → column_type (live v) number column ≡ Some s → IsColumn v number column t → t ≡ s
  same_type column s t is has = some_same (sym (column_from v sound number column t has) ∙ is)

  named_first : (column : ℕ) → column_type (live v) number column ≡ None → IsFirst rank (Fault (Named column)) (NotPublic column)
  named_first column none = ((refl, hidden column none), lower)
    where
      lower : (other : QueryFault) → rank other < 2 → ¬ (Fault (Named column) other)
      lower NoTable lt h = h
      lower (NotPublic c) lt h = absurd (omega (arith, lt))
      lower WrongType lt h = h
      lower Memory lt h = h

  named_clear : (column : ℕ) (type : ColumnType) → column_type (live v) number column ≡ Some type → IsClear (Fault (Named column))
  named_clear column type is NoTable h = h
  named_clear column type is (NotPublic c) h = shown column type is h.1
  named_clear column type is WrongType h = h
  named_clear column type is Memory h = h

  -- ---- a condition on the key

  key_first : (key : List Value) → is_key_for table.key key ≡ false → IsFirst rank (Fault (Where (Key key))) WrongType
  key_first key e = (λ typed. not_both (pointwise_each table.key key ∙ typed) e, lower)
    where
      lower : (other : QueryFault) → rank other < 3 → ¬ (Fault (Where (Key key)) other)
      lower NoTable lt h = h
      lower (NotPublic c) lt h = h
      lower WrongType lt h = absurd (omega (arith, lt))
      lower Memory lt h = h

  key_clear : (key : List Value) → is_key_for table.key key ≡ true → IsClear (Fault (Where (Key key)))
  key_clear key e NoTable h = h
  key_clear key e (NotPublic c) h = h
  key_clear key e WrongType h = h (sym (pointwise_each table.key key) ∙ e)
  key_clear key e Memory h = h

  -- ---- a condition on a value

  equal_hidden : (column : ℕ) (value : Value) → column_type (live v) number column ≡ None → IsFirst rank (Fault (Where (Equal column value))) (NotPublic column)
  equal_hidden column value none = ((refl, hidden column none), lower)
    where
      lower : (other : QueryFault) → rank other < 2 → ¬ (Fault (Where (Equal column value)) other)
      lower NoTable lt h = h
      lower (NotPublic c) lt h = absurd (omega (arith, lt))
      lower WrongType lt h = absurd (omega (arith, lt))
      lower Memory lt h = h

  equal_first : (column : ℕ) (value : Value) (type : ColumnType) → column_type (live v) number column ≡ Some type → may_equal type value ≡ false → IsFirst rank (Fault (Where (Equal column value))) WrongType
  equal_first column value type is e =
      let n = neither (has_kind type value) (is_null value) e in
      ((null_test value n.1, (type, column_says v sound number column type is, λ fits. not_both fits n.0)), lower)
    where
      lower : (other : QueryFault) → rank other < 3 → ¬ (Fault (Where (Equal column value)) other)
      lower NoTable lt h = h
      lower (NotPublic c) lt h = shown column type is h.1
      lower WrongType lt h = absurd (omega (arith, lt))
      lower Memory lt h = h

  fits_same : (column : ℕ) (value : Value) (s t : ColumnType) → column_type (live v) number column ≡ Some s → IsColumn v number column t → has_kind s value ≡ true → has_kind t value ≡ true
  fits_same column value s t is has e = ap (λ k. has_kind k value) (same_type column s t is has) ∙ e

  equal_clear : (column : ℕ) (value : Value) (type : ColumnType) → column_type (live v) number column ≡ Some type → may_equal type value ≡ true → IsClear (Fault (Where (Equal column value)))
  equal_clear column value type is e NoTable h = h
  equal_clear column value type is e (NotPublic c) h = shown column type is h.1
  equal_clear column value type is e WrongType h =
      elim (has_kind type value) as (λ b. has_kind type value ≡ b → ⊥) [
        | true ↦ λ p. h.1.2 (fits_same column value type h.1.0 is h.1.1 p)
        | false ↦ λ p. h.0 (null_is value (either (has_kind type value) (is_null value) e p))
      ] refl
  equal_clear column value type is e Memory h = h

  -- ---- a condition on bounds

  bad_bound : (column : ℕ) (bound : Option Value) (type : ColumnType) → column_type (live v) number column ≡ Some type → is_bound type bound ≡ false → IsBadBound v number column bound
  bad_bound column None type is e = absurd (true≢false e)
  bad_bound column (Some value) type is e = (type, column_says v sound number column type is, λ fits. not_both fits e)

  good_bound : (column : ℕ) (bound : Option Value) (type : ColumnType) → column_type (live v) number column ≡ Some type → is_bound type bound ≡ true → ¬ (IsBadBound v number column bound)
  good_bound column None type is e h = h
  good_bound column (Some value) type is e h = h.2 (fits_same column value type h.0 is h.1 e)

  between_hidden : (column : ℕ) (low high : Option Value) → column_type (live v) number column ≡ None → IsFirst rank (Fault (Where (Between column low high))) (NotPublic column)
  between_hidden column low high none = ((refl, hidden column none), lower)
    where
      lower : (other : QueryFault) → rank other < 2 → ¬ (Fault (Where (Between column low high)) other)
      lower NoTable lt h = h
      lower (NotPublic c) lt h = absurd (omega (arith, lt))
      lower WrongType lt h = absurd (omega (arith, lt))
      lower Memory lt h = h

  between_first : (column : ℕ) (low high : Option Value) (type : ColumnType) → column_type (live v) number column ≡ Some type → (is_bound type low && is_bound type high) ≡ false → IsFirst rank (Fault (Where (Between column low high))) WrongType
  between_first column low high type is e = (bad, lower)
    where
      bad : Fault (Where (Between column low high)) WrongType
      bad = elim (is_bound type low) as (λ b. is_bound type low ≡ b → (b && is_bound type high) ≡ false → Fault (Where (Between column low high)) WrongType) [
        | true ↦ λ _ q. inr (bad_bound column high type is q)
        | false ↦ λ p _. inl (bad_bound column low type is p)
      ] refl e

      lower : (other : QueryFault) → rank other < 3 → ¬ (Fault (Where (Between column low high)) other)
      lower NoTable lt h = h
      lower (NotPublic c) lt h = shown column type is h.1
      lower WrongType lt h = absurd (omega (arith, lt))
      lower Memory lt h = h

  between_clear : (column : ℕ) (low high : Option Value) (type : ColumnType) → column_type (live v) number column ≡ Some type → (is_bound type low && is_bound type high) ≡ true → IsClear (Fault (Where (Between column low high)))
  between_clear column low high type is e NoTable h = h
  between_clear column low high type is e (NotPublic c) h = shown column type is h.1
  between_clear column low high type is e WrongType h =
      elim (is_bound type low) as (λ b. is_bound type low ≡ b → (b && is_bound type high) ≡ true → ⊥) [
        | true ↦ λ p q. elim h [ inl bad ↦ good_bound column low type is p bad | inr bad ↦ good_bound column high type is q bad ]
        | false ↦ λ _ q. absurd (true≢false (sym q))
      ] refl e
  between_clear column low high type is e Memory h = h

  -- ---- one condition

  -- what a test says of a part: nothing stands against it, or the fault is its first
  abbrev Says : Part → Checks → Type 0
  Says part (Ok u) = IsClear (Fault part)
  Says part (Err fault) = IsFirst rank (Fault part) fault

  condition_says : (c : Cond) → Says (Where c) (condition_check (live v) number table.key c)
  condition_says (Key key) =
      elim (is_key_for table.key key) as (λ b. is_key_for table.key key ≡ b → Says (Where (Key key)) (cond b (Ok tt) (Err WrongType))) [
        | true ↦ λ e. key_clear key e
        | false ↦ λ e. key_first key e
      ] refl
  condition_says (Equal column value) =
      elim (column_type (live v) number column) as (λ o. column_type (live v) number column ≡ o → Says (Where (Equal column value)) (tested column o (λ type. may_equal type value))) [
        | None ↦ λ is. equal_hidden column value is
        | Some type ↦ λ is. elim (may_equal type value) as (λ b. may_equal type value ≡ b → Says (Where (Equal column value)) (cond b (Ok tt) (Err WrongType))) [
          | true ↦ λ e. equal_clear column value type is e
          | false ↦ λ e. equal_first column value type is e
        ] refl
      ] refl
  condition_says (Between column low high) =
      elim (column_type (live v) number column) as (λ o. column_type (live v) number column ≡ o → Says (Where (Between column low high)) (tested column o (λ type. is_bound type low && is_bound type high))) [
        | None ↦ λ is. between_hidden column low high is
        | Some type ↦ λ is. elim (is_bound type low && is_bound type high) as (λ b. (is_bound type low && is_bound type high) ≡ b → Says (Where (Between column low high)) (cond b (Ok tt) (Err WrongType))) [
          | true ↦ λ e. between_clear column low high type is e
          | false ↦ λ e. between_first column low high type is e
        ] refl
      ] refl

  -- ---- lists of parts

  abbrev AreClear : List Part → Type 0
  AreClear = AllByRecursion (λ part. IsClear (Fault part))

  -- what tests in turn say of parts
  abbrev pub SayAll : List Part → Checks → Type 0
  SayAll all (Ok u) = AreClear all
  SayAll all (Err fault) = IsFirstPartFault v number table all fault

  -- a part whose test is after us
  more : (part : Part) (all : List Part) (r : Checks) → IsClear (Fault part) → SayAll all r → SayAll (part ∷ all) r
  more part all (Ok u) clear rest = (clear, rest)
  more part all (Err fault) clear (before, after, first, split, of, others) = (part ∷ before, after, first, ap (λ l. part ∷ l) split, of, (clear, others))

  step : (part : Part) (all : List Part) (r s : Checks) → Says part r → SayAll all s → SayAll (part ∷ all) (r >>>= λ _. s)
  step part all (Ok u) s clear rest = more part all s clear rest
  step part all (Err fault) s first rest = ([], all, part, refl, first, tt)

  conditions_say : (cs : List Cond) → SayAll (each Where cs) (conditions_check (live v) number table.key cs)
  conditions_say [] = tt
  conditions_say (c ∷ cs) = step (Where c) (each Where cs) (condition_check (live v) number table.key c) (conditions_check (live v) number table.key cs) (condition_says c) (conditions_say cs)

  columns_say : (columns : List ℕ) (all : List Part) (s : Checks) → SayAll all s → SayAll (each Named columns ++ all) (columns_check (live v) number columns >>>= λ _. s)
  columns_say [] all s rest = rest
  columns_say (c ∷ columns) all s rest =
      elim (column_type (live v) number c) as (λ o. column_type (live v) number c ≡ o → SayAll (Named c ∷ each Named columns ++ all) (cond (is_some o) (columns_check (live v) number columns) (Err (NotPublic c)) >>>= λ _. s)) [
        | None ↦ λ is. ([], each Named columns ++ all, Named c, refl, named_first c is, tt)
        | Some type ↦ λ is. more (Named c) (each Named columns ++ all) (columns_check (live v) number columns >>>= λ _. s) (named_clear c type is) (columns_say columns all s rest)
      ] refl

  pub parts_say : (columns : List ℕ) (conditions : List Cond) → SayAll (each Named columns ++ each Where conditions) (columns_check (live v) number columns >>>= λ _. conditions_check (live v) number table.key conditions)
  parts_say columns conditions = columns_say columns (each Where conditions) (conditions_check (live v) number table.key conditions) (conditions_say conditions)

  -- ---- what a part's faults are not

  no_table_part : (part : Part) → ¬ (Fault part NoTable)
  no_table_part (Named c) h = h
  no_table_part (Where (Key key)) h = h
  no_table_part (Where (Equal column value)) h = h
  no_table_part (Where (Between column low high)) h = h

  pub never_no_table : (all : List Part) → ¬ (IsFirstPartFault v number table all NoTable)
  never_no_table all (before, after, part, split, of, others) = no_table_part part of.0

-- ---- a query

-- what its tests say of a query
abbrev SaysQuery : Version → Query → Checks → Type 0
SaysQuery v query (Ok u) = IsSound v query
SaysQuery v query (Err fault) = IsRefused v query fault

refused_by : (v : Version) (sound : IsSoundVersion v) (query : Query) (table : Table) → table_at v query.table ≡ Some table → (fault : QueryFault) → IsFirstPartFault v query.table table (parts query) fault → IsRefused v query fault
refused_by v sound query table known NoTable h = absurd (never_no_table v sound query.table table (parts query) h)
refused_by v sound query table known (NotPublic c) h = (table, known, h)
refused_by v sound query table known WrongType h = (table, known, h)
refused_by v sound query table known Memory h = (table, known, h)

at_table : (v : Version) (sound : IsSoundVersion v) (query : Query) (table : Table) → table_at v query.table ≡ Some table → (r : Checks) → SayAll v sound query.table table (parts query) r → SaysQuery v query r
at_table v sound query table known (Ok u) clear = record { table = table; known = known; clear = clear }
at_table v sound query table known (Err fault) first = refused_by v sound query table known fault first

query_says : (v : Version) (sound : IsSoundVersion v) (query : Query) → SaysQuery v query (query_check v query)
query_says v sound query =
    elim (table_at v query.table) as (λ o. table_at v query.table ≡ o → SaysQuery v query (check_in (live v) (option_map (λ (t : Table). t.key) o) query)) [
      | None ↦ λ none. ap is_some none
      | Some table ↦ λ known.
          at_table v sound query table known (columns_check (live v) query.table query.columns >>>= λ _. conditions_check (live v) query.table table.key query.conditions) (parts_say v sound query.table table query.columns query.conditions)
    ] refl

-- what a check that made these tests tells
pub check_refuses : (v : Version) (sound : IsSoundVersion v) (query : Query) (r : Checks) → r ≡ query_check v query → IfErr r (λ fault. IsRefused v query fault)
check_refuses v sound query (Ok u) e = tt
check_refuses v sound query (Err fault) e = subst (SaysQuery v query) (sym e) (query_says v sound query)

pub check_passes : (v : Version) (sound : IsSoundVersion v) (query : Query) (r : Checks) → r ≡ query_check v query → OnOk r (IsSound v query)
check_passes v sound query (Ok u) e = subst (SaysQuery v query) (sym e) (query_says v sound query)
check_passes v sound query (Err fault) e = tt
