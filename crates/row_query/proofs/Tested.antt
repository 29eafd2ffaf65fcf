-- What a query that is not refused has.
use Rattle.std.proofs.Common.{◌≡◌, ℕ, Bool, true, false, cond, ◌&&◌, ◌||◌, ◌==◌, ◌<◌, ◌^◌, List, [], ◌∷◌, get_or, Option, Some, None, option_map, refl, sym, ap, subst, ◌∙◌, is_some, Result, Ok, Err, arith}
use Rattle.std.specs.declared.cmp.Ordering.{Ordering}
use Rattle.std.specs.declared.cmp.Ordering.TheVariants.{Less, Equal, Greater}
use Rattle.std.specs.Prelude.{IfOk}
use Rattle.std.specs.Ordering.{is_eq, eq_by_cmp, nat_cmp, ordering_then}
use Rattle.std.specs.List.{AllByRecursion, cons_option, list_all}
use Rattle.std.specs.FinMap as map
use Rattle.std.specs.FinMap.{nat_cmp-IsAntisymmetric}
use Rattle.std.specs.List.Sorted.{IsStrictlySortedBy}
use Rattle.std.specs.Cmp.{Equal-is, tied_itself}
use Rattle.collections.specs.Answers.{◌>>>=◌}
use Rattle.keycode.specs.declared.value.Value.{Value}
use Rattle.keycode.specs.Order.{bytes_cmp, values_cmp}
use Rattle.keycode.specs.Valid.{AreValues}
use Rattle.keycode.proofs.Orders.{bytes_cmp_total, values_cmp-IsAntisymmetric}
use Rattle.row_map.specs.declared.shape.Row.{Row}
use Rattle.row_map.specs.declared.shape.ColumnType.{ColumnType}
use Rattle.row_map.specs.declared.key.KeyOf.{KeyOf}
use Rattle.row_map.specs.declared.key.KeyOf.TheVariants.{Exists, Column, Index}
use Rattle.row_map.specs.Keys.{IsKey, AreKeyValues, row_code, index_code, key_code}
use Rattle.row_map.specs.Rows.{Bytes, RowKey, Cells, row_cmp, Rows, Pairs, value_or_null}
use Rattle.row_map.proofs.KeyOrder.{row_keys}
use Rattle.row_map.proofs.Orders.{row_cmp_total, row_cmp-IsAntisymmetric}
use Rattle.schema_version.specs.Sound.{IsSoundVersion}
use Rattle.schema_version.specs.Version.{Version, Table, table_at, live}
use Rattle.row_query.specs.declared.fault.QueryFault.TheVariants.{NotPublic}
use Rattle.row_query.specs.declared.query.Cond.{Cond}
use Rattle.row_query.specs.declared.query.Cond.TheVariants.{Key, Equal as Same, Between}
use Rattle.row_query.specs.declared.query.Query.{Query}
use Rattle.row_query.specs.Answer.{meets, is_named, plain_answer}
use Rattle.row_query.specs.inner.Bounds.{first_key}
use Rattle.schema_version.specs.Columns.{column_type}
use Rattle.row_query.specs.inner.Checks.{public_numbers, may_equal, is_bound, tested, condition_check, conditions_check, columns_check, check_in, query_check, AreKnown}
use Rattle.row_query.specs.inner.Found.{cells_in, row_of, row_in, one_row}
use Rattle.element_state.specs.Elements.{HasForm}
use Rattle.row_query.proofs.Columns.{type_named, both_true}
use Rattle.row_query.proofs.Decides.{Checks, passed}
use Rattle.row_query.proofs.Premise.{Reads}
use Rattle.row_query.proofs.Sorted.{tied}
use Rattle.row_query.proofs.Rows.{IsOnPublic, IsOpen, asked, asked_of, of_table, candidates}

both_pass : (r s : Checks) → (r >>>= λ _. s) ≡ passed → (r ≡ passed) × (s ≡ passed)
both_pass (Ok u) s e = (refl, e)
both_pass (Err f) s e = absurd cc

tested_open : (column : ℕ) (o : Option ColumnType) (test : ColumnType → Bool) → tested column o test ≡ passed → is_some o ≡ true
tested_open column None test e = absurd cc
tested_open column (Some type) test e = refl

module _ (v : Version) (sound : IsSoundVersion v) (table : ℕ) where
  columns_open : (cs : List ℕ) → columns_check (live v) table cs ≡ passed → AllByRecursion (λ c. is_named (public_numbers (live v) table) c ≡ true) cs
  columns_open [] e = tt
  columns_open (c ∷ cs) e =
      elim (is_some (column_type (live v) table c)) as (λ b. is_some (column_type (live v) table c) ≡ b → cond b (columns_check (live v) table cs) (Err (NotPublic c)) ≡ passed → AllByRecursion (λ c. is_named (public_numbers (live v) table) c ≡ true) (c ∷ cs)) [
        | true ↦ λ s g. (type_named v sound table c s, columns_open cs g)
        | false ↦ λ s g. absurd cc
      ] refl e

  condition_open : (key : List (List ℕ × ColumnType)) (c : Cond) → condition_check (live v) table key c ≡ passed → IsOnPublic (public_numbers (live v) table) c
  condition_open key (Key wanted) e = tt
  condition_open key (Same column value) e = type_named v sound table column (tested_open column _ (λ type. may_equal type value) e)
  condition_open key (Between column low high) e = type_named v sound table column (tested_open column _ (λ type. is_bound type low && is_bound type high) e)

  conditions_open : (key : List (List ℕ × ColumnType)) (cs : List Cond) → conditions_check (live v) table key cs ≡ passed → AllByRecursion (IsOnPublic (public_numbers (live v) table)) cs
  conditions_open key [] e = tt
  conditions_open key (c ∷ cs) e =
      let p = both_pass (condition_check (live v) table key c) (conditions_check (live v) table key cs) e in
      (condition_open key c p.0, conditions_open key cs p.1)

-- the table is there, and the conditions are tested against it
table_there : (v : Version) (query : Query) → query_check v query ≡ passed
    → (table : Table) × (table_at v query.table ≡ Some table) × (columns_check (live v) query.table query.columns ≡ passed) × (conditions_check (live v) query.table table.key query.conditions ≡ passed)
table_there v query e =
    elim (table_at v query.table) as (λ o. table_at v query.table ≡ o → check_in (live v) (option_map (λ (t : Table). t.key) o) query ≡ passed → (table : Table) × (table_at v query.table ≡ Some table) × (columns_check (live v) query.table query.columns ≡ passed) × (conditions_check (live v) query.table table.key query.conditions ≡ passed)) [
      | None ↦ λ s g. absurd cc
      | Some table ↦ λ s g. let p = both_pass (columns_check (live v) query.table query.columns) (conditions_check (live v) query.table table.key query.conditions) g in (table, s, p.0, p.1)
    ] refl e

pub query_open : (v : Version) → IsSoundVersion v → (query : Query) → query_check v query ≡ passed → IsOpen v query
query_open v sound query e =
    let t = table_there v query e in
    record { named = columns_open v sound query.table query.columns t.2; tested = conditions_open v sound query.table t.0.key query.conditions t.3 }

-- ---- the key that is asked for

key_known : (cs : List Cond) (wanted : List Value) → AreKnown cs → first_key cs ≡ Some wanted → AreValues wanted
key_known [] wanted known is = absurd cc
key_known (Key other ∷ cs) wanted known is = let same : other ≡ wanted = cc in subst AreValues same known.0
key_known (Same column value ∷ cs) wanted known is = key_known cs wanted known.1 is
key_known (Between column low high ∷ cs) wanted known is = key_known cs wanted known.1 is

key_met : (key : List Value) (value : ℕ → Value) (cs : List Cond) (wanted : List Value) → first_key cs ≡ Some wanted → list_all (meets key value) cs ≡ true → key ≡ wanted
key_met key value [] wanted is all = absurd cc
key_met key value (Key other ∷ cs) wanted is all =
    let same : other ≡ wanted = cc in
    exact_tie key other (both_true (is_eq (values_cmp key other)) (list_all (meets key value) cs) all).0 ∙ same
  where
    exact_tie : (a b : List Value) → is_eq (values_cmp a b) ≡ true → a ≡ b
    exact_tie a b e = values_cmp-IsAntisymmetric a b ((Equal-is (values_cmp a b)).0 e)
key_met key value (Same column v ∷ cs) wanted is all = key_met key value cs wanted is (both_true (meets key value (Same column v)) (list_all (meets key value) cs) all).1
key_met key value (Between column low high ∷ cs) wanted is all = key_met key value cs wanted is (both_true (meets key value (Between column low high)) (list_all (meets key value) cs) all).1

both_tied : (o p : Ordering) → ordering_then o p ≡ Equal → (o ≡ Equal) × (p ≡ Equal)
both_tied Less p e = absurd cc
both_tied Equal p e = (refl, e)
both_tied Greater p e = absurd cc

no_index : (table : ℕ) (key : List Value) (element : ℕ) (values : List Value) → row_code table key 0 ≡ index_code element values → ⊥
unfolding row_code index_code
no_index table key element values is = omega (arith, ap (λ (l : List ℕ). get_or l 0 0) is)

-- a pair's key is encoded by values that can be stored, and no other values are encoded so: a key
-- with a long text has no pair
found_form : (table : ℕ) (key : List Value) → table < 2 ^ 32 → AreValues key → HasForm (row_code table key 0) → IsKey (Exists table key)
found_form table key small values form = of form.key form.form form.encoded
  where
    same_parts : (t : ℕ) (other : List Value) (element : ℕ) → t < 2 ^ 32 → AreKeyValues 1 4 other → element < 2 ^ 24 → row_code table key 0 ≡ row_code t other element → (key ≡ other) × (0 ≡ element)
    same_parts t other element p q r is =
        let all = both_tied (nat_cmp table t) (ordering_then (values_cmp key other) (nat_cmp 0 element))
        (sym (row_keys table t key other 0 element small p values q.values (omega arith) r) ∙ ap (bytes_cmp (row_code table key 0)) (sym is) ∙ tied_itself bytes_cmp_total (row_code table key 0)) in
        let rest = both_tied (values_cmp key other) (nat_cmp 0 element) all.1 in
        (values_cmp-IsAntisymmetric key other rest.0, nat_cmp-IsAntisymmetric 0 element rest.1)

    of : (k : KeyOf) → IsKey k → row_code table key 0 ≡ key_code k → IsKey (Exists table key)
    of (Exists t other) f is = (small, subst (AreKeyValues 1 4) (sym (same_parts t other 0 f.0 f.1 (omega arith) is).0) f.1)
    of (Column t other element) f is = absurd (omega (arith, (same_parts t other element f.0 f.1 f.3 is).1, f.2))
    of (Index element others) f is = absurd (no_index table key element others is)

as_list : (o : Option Row) → one_row o ≡ cons_option o []
as_list None = refl
as_list (Some row) = refl

module _ (version : Version) (rows : Rows) (pairs : Pairs) (agree : Reads version rows pairs) (query : Query) (wanted : List Value) (plain : IsOpen version query) (is : first_key query.conditions ≡ Some wanted) where
  -- only the row of that key can be asked for
  row_asked : (row : RowKey) (cells : Cells) → asked version rows pairs agree query plain row ≡ Some cells → (row ≡ (query.table, wanted)) × (map.get rows row ≡ Some cells)
  row_asked row cells a =
      let at = asked_of version rows pairs agree query plain row (map.get rows row) cells a in
      let table_is = of_table version rows pairs agree query plain row cells at.1 in
      let met : list_all (meets row.1 (value_or_null cells)) query.conditions ≡ true = (both_true (row.0 == query.table) _ at.1).1 in
      let key_same : row.1 ≡ wanted = key_met row.1 (value_or_null cells) query.conditions wanted is met in
      (λ i. (table_is i, key_same i), at.0)

  key_missing : map.get pairs (row_code query.table wanted 0) ≡ None → one_row (row_in pairs (public_numbers (live version) query.table) query wanted) ≡ plain_answer rows query
  unfolding row_in IsStrictlySortedBy
  key_missing none =
      ap (λ (o : Option Bytes). one_row (cond (is_some o) (row_of query wanted (cells_in pairs query.table wanted (public_numbers (live version) query.table))) None)) none
      ∙ candidates version rows pairs agree query plain [] tt tt (λ row cells a.
      let at = row_asked row cells a in
      let clash : None ≡ Some [] = sym none ∙ agree.each_row query.table wanted cells (ap (map.get rows) (sym at.0) ∙ at.1) in
      absurd cc)

  key_there : IsKey (Exists query.table wanted) → one_row (row_in pairs (public_numbers (live version) query.table) query wanted) ≡ plain_answer rows query
  unfolding IsStrictlySortedBy
  key_there form =
      as_list (row_in pairs (public_numbers (live version) query.table) query wanted)
      ∙ candidates version rows pairs agree query plain ((query.table, wanted) ∷ []) (tt, tt) ((refl, form), tt) (λ row cells a.
      ap (λ r. eq_by_cmp row_cmp row r || false) (sym (row_asked row cells a).0) ∙ ap (λ b. b || false) (tied row_cmp_total row_cmp-IsAntisymmetric row))

pub key_is : (version : Version) (rows : Rows) (pairs : Pairs) (agree : Reads version rows pairs) (query : Query) (wanted : List Value) → query_check version query ≡ passed → IsOpen version query → AreKnown query.conditions → first_key query.conditions ≡ Some wanted
    → one_row (row_in pairs (public_numbers (live version) query.table) query wanted) ≡ plain_answer rows query
key_is version rows pairs agree query wanted e plain known is =
    let t = table_there version query e in
    let small = (agree.tables query.table t.0 t.1).0 in
    elim (map.get pairs (row_code query.table wanted 0)) as (λ o. map.get pairs (row_code query.table wanted 0) ≡ o → one_row (row_in pairs (public_numbers (live version) query.table) query wanted) ≡ plain_answer rows query) [
      | None ↦ λ none. key_missing version rows pairs agree query wanted plain is none
      | Some v ↦ λ there. key_there version rows pairs agree query wanted plain is (found_form query.table wanted small (key_known query.conditions wanted known is) (agree.forms (row_code query.table wanted 0) v there))
    ] refl

pub ok_then : {X E : Type 0} (r : Result X E) (P Q : X → Type 0) → ((x : X) → P x → Q x) → IfOk r P → IfOk r Q
ok_then (Ok x) P Q f p = f x p
ok_then (Err e) P Q f p = tt
