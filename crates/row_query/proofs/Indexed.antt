-- The rows that an index gives are the plain answer.
use Rattle.std.proofs.Common.{◌≡◌, ℕ, drop, ◌<◌, ◌+◌, true, false, cond, ◌&&◌, ◌||◌, ◌==◌, not, List, [], ◌∷◌, ◌++◌, Some, None, refl, sym, ap, subst, ◌∙◌, unwrap_or, Ok, arith, true≢false, length}
use mathlib.Core.List.{map as each}
use Rattle.std.proofs.lemmas.List.{append-nil}
use Rattle.std.specs.declared.cmp.Ordering.TheVariants.{Less, Equal, Greater}
use Rattle.std.specs.Ordering.{is_lt, is_le, ordering_reverse, is_eq, eq_by_cmp, nat_cmp, ordering_then}
use Rattle.std.specs.Cmp.{nat_cmp_total, tied_itself}
use Rattle.std.specs.Cmp.Lexicographic.{slice_cmp}
use Rattle.std.specs.List.{find, AllByRecursion, filter_map, cons_option, list_any, list_all}
use Rattle.std.specs.List.Sorted.{IsStrictlySortedBy}
use Rattle.std.specs.FinMap as map
use Rattle.keycode.specs.declared.value.Value.{Value}
use Rattle.keycode.specs.declared.value.Value.TheVariants.{Null, Int, Text, Bool as Flag}
use Rattle.keycode.specs.Code.{code, codes_of}
use Rattle.keycode.specs.Order.{value_cmp, values_cmp}
use Rattle.keycode.specs.Valid.{IsValue, IsShort, AreValues, AreShort}
use Rattle.keycode.proofs.Orders.{value_cmp_total, bytes_cmp_total, bytes_cmp-IsAntisymmetric}
use Rattle.row_map.specs.declared.key.KeyOf.{KeyOf}
use Rattle.row_map.specs.declared.key.KeyOf.TheVariants.{Exists, Column, Index}
use Rattle.row_map.specs.Keys.{IsKey, key_code, index_code}
use Rattle.row_map.specs.ReadKey.{key_at}
use Rattle.row_map.proofs.KeyLaws.{key_again}
use Rattle.keycode.specs.Order.{bytes_cmp}
use Rattle.row_map.specs.Rows.{Bytes, RowKey, row_cmp, Cells, Rows, Pairs, value_or_null}
use Rattle.row_map.specs.Shape.{is_null}
use Rattle.schema_version.specs.Version.{Version, live, indexed_columns, is_public}
use Rattle.schema_version.specs.declared.element.ElementDef.{ElementDef}
use Rattle.row_query.specs.declared.query.Cond.{Cond}
use Rattle.row_query.specs.declared.query.Cond.TheVariants.{Key, Equal as Same, Between}
use Rattle.schema_version.specs.declared.element.Kind.{Kind}
use Rattle.schema_version.specs.declared.element.Kind.TheVariants as kind
use Rattle.row_query.specs.declared.query.Query.{Query}
use Rattle.row_query.specs.Answer.{is_from, is_between, meets, plain_answer}
use Rattle.row_map.specs.Walk.{key_range}
use Rattle.row_map.specs.Ranges.{is_within}
use Rattle.row_query.specs.inner.Found.{rows_in, row_in}
use Rattle.row_query.specs.inner.Checks.{public_numbers, IsKnown, AreKnown}
use Rattle.row_query.specs.Path.{is_on, leads, serves}
use Rattle.row_query.specs.inner.Bounds.{leading, from_bytes, to_bytes, low_bound, high_bound, key_of_index, index_key_in, gathered}
use Rattle.element_state.specs.Elements.{HasForm}
use Rattle.row_query.proofs.Premise.{HasExactly, Reads}
use Rattle.row_query.proofs.Sorted.{all_found}
use Rattle.row_map.proofs.KeyRanges.{key_range_sorted, find_key_range}
use Rattle.std.specs.Cmp.{Equal-is}
use Rattle.collections.proofs.Steps.{AllByRecursion-append}
use Rattle.keycode.proofs.ByteOrder.{code_order, same_value}
use Rattle.row_query.proofs.Rows.{same_number, is_number, low_tags, low_tag, not_below_empty, behind_prefix, IsOpen, asked, asked_of, of_table, candidates, some_of}
use Rattle.row_query.proofs.Columns.{both_true, find_says}
use Rattle.row_query.proofs.Gathered.{gathered_sorted, gathered_all, gathered_has}

-- ---- bounds

code_from : (v w : Value) (x : List ℕ) → IsValue v → IsValue w → is_le (value_cmp w v) ≡ true → is_lt (slice_cmp nat_cmp (code v ++ x) (code w)) ≡ false
code_from v w x p q le =
    ap (λ (y : List ℕ). is_lt (slice_cmp nat_cmp (code v ++ x) y)) (sym (append-nil (code w))) ∙ ap is_lt (code_order v w x [] p q)
    ∙ ap (λ o. is_lt (ordering_then o (slice_cmp nat_cmp x []))) (value_cmp_total.antisymm v w)
    ∙ elim (value_cmp w v) as (λ r. is_le r ≡ true → is_lt (ordering_then (ordering_reverse r) (slice_cmp nat_cmp x [])) ≡ false) [
      | Less ↦ λ _. refl
      | Equal ↦ λ _. not_below_empty x
      | Greater ↦ λ e. absurd (true≢false (sym e))
    ] le

code_to : (v w : Value) (x : List ℕ) → IsValue v → IsValue w → is_le (value_cmp v w) ≡ true → slice_cmp nat_cmp x (5 ∷ []) ≡ Less → is_lt (slice_cmp nat_cmp (code v ++ x) (code w ++ 5 ∷ [])) ≡ true
code_to v w x p q le low =
    ap is_lt (code_order v w x (5 ∷ []) p q)
    ∙ elim (value_cmp v w) as (λ r. is_le r ≡ true → is_lt (ordering_then r (slice_cmp nat_cmp x (5 ∷ []))) ≡ true) [
      | Less ↦ λ _. refl
      | Equal ↦ λ _. ap is_lt low
      | Greater ↦ λ e. absurd (true≢false (sym e))
    ] le

some_value : (v : Value) (x : List ℕ) → not (is_null v) ≡ true → is_lt (slice_cmp nat_cmp (code v ++ x) (2 ∷ [])) ≡ false
some_value Null x e = absurd (true≢false (sym e))
some_value (Int n) x e = refl
some_value (Text t) x e = refl
some_value (Flag false) x e = refl
some_value (Flag true) x e = refl

ties : (v w : Value) → is_eq (value_cmp v w) ≡ true → v ≡ w
ties v w e = same_value v w ((Equal-is (value_cmp v w)).0 e)

le_itself : (v : Value) → is_le (value_cmp v v) ≡ true
le_itself v = ap is_le (tied_itself value_cmp_total v)

-- a value that meets a condition stands between its bounds
pub at_low : (number : ℕ) (key : List Value) (value : ℕ → Value) (c : Cond) (x : List ℕ) → is_on number c ≡ true → meets key value c ≡ true → IsValue (value number) → IsKnown c → is_lt (slice_cmp nat_cmp (code (value number) ++ x) (from_bytes c)) ≡ false
at_low number key value (Key wanted) x on met p q = absurd (true≢false (sym on))
at_low number key value (Same column w) x on met p q =
    let is : column ≡ number = is_number column number on in
    let same : value number ≡ w = ap value (sym is) ∙ ties (value column) w met in
    code_from (value number) w x p q (ap (λ v. is_le (value_cmp w v)) same ∙ le_itself w)
at_low number key value (Between column None high) x on met p q =
    let is : column ≡ number = is_number column number on in
    some_value (value number) x (ap (λ n. not (is_null (value n))) (sym is) ∙ not_null (value column) met)
  where
    not_null : (v : Value) → is_between None high v ≡ true → not (is_null v) ≡ true
    not_null Null e = absurd (true≢false (sym e))
    not_null (Int n) e = refl
    not_null (Text t) e = refl
    not_null (Flag b) e = refl
at_low number key value (Between column (Some low) high) x on met p q =
    let is : column ≡ number = is_number column number on in
    code_from (value number) low x p q.0 (ap (λ n. is_le (value_cmp low (value n))) (sym is) ∙ from_low (value column) met)
  where
    from_low : (v : Value) → is_between (Some low) high v ≡ true → is_le (value_cmp low v) ≡ true
    from_low Null e = absurd (true≢false (sym e))
    from_low (Int n) e = (both_true (is_le (value_cmp low (Int n))) _ e).0
    from_low (Text t) e = (both_true (is_le (value_cmp low (Text t))) _ e).0
    from_low (Flag b) e = (both_true (is_le (value_cmp low (Flag b))) _ e).0

pub at_high : (number : ℕ) (key : List Value) (value : ℕ → Value) (c : Cond) (x : List ℕ) → is_on number c ≡ true → meets key value c ≡ true → IsValue (value number) → IsKnown c → slice_cmp nat_cmp x (5 ∷ []) ≡ Less → is_lt (slice_cmp nat_cmp (code (value number) ++ x) (to_bytes c)) ≡ true
at_high number key value (Key wanted) x on met p q low = absurd (true≢false (sym on))
at_high number key value (Same column w) x on met p q low =
    let is : column ≡ number = is_number column number on in
    let same : value number ≡ w = ap value (sym is) ∙ ties (value column) w met in
    code_to (value number) w x p q (ap (λ v. is_le (value_cmp v w)) same ∙ le_itself w) low
at_high number key value (Between column bound None) x on met p q low = ap is_lt (low_tag (value number) x)
at_high number key value (Between column bound (Some high)) x on met p q low =
    let is : column ≡ number = is_number column number on in
    code_to (value number) high x p q.1 (ap (λ n. is_le (value_cmp (value n) high)) (sym is) ∙ up_to (value column) met) low
  where
    up_to : (v : Value) → is_between bound (Some high) v ≡ true → is_le (value_cmp v high) ≡ true
    up_to Null e = absurd (true≢false (sym e))
    up_to (Int n) e = (both_true (is_from bound (Int n)) _ e).1
    up_to (Text t) e = (both_true (is_from bound (Text t)) _ e).1
    up_to (Flag b) e = (both_true (is_from bound (Flag b)) _ e).1

-- ---- the index

kind_is : (conditions : List Cond) (k : Kind) (c : Cond) → leading conditions (indexed_columns k) ≡ Some c → (first : ℕ) × (others : List ℕ) × (k ≡ kind.Index (first ∷ others)) × (find (is_on first) conditions ≡ Some c)
kind_is conditions (kind.Index []) c e = absurd cc
kind_is conditions (kind.Index (first ∷ others)) c e = (first, others, refl, e)
kind_is conditions (kind.Optional type) c e = absurd cc
kind_is conditions (kind.Required type fallback) c e = absurd cc

first_met : (number : ℕ) (conditions : List Cond) (c : Cond) (key : List Value) (value : ℕ → Value) → find (is_on number) conditions ≡ Some c → list_all (meets key value) conditions ≡ true → AreKnown conditions → (is_on number c ≡ true) × (meets key value c ≡ true) × IsKnown c
first_met number [] c key value e all known = absurd cc
first_met number (x ∷ conditions) c key value e all known =
    let met = both_true (meets key value x) (list_all (meets key value) conditions) all in
    elim (is_on number x) as (λ b. is_on number x ≡ b → cond b (Some x) (find (is_on number) conditions) ≡ Some c → (is_on number c ≡ true) × (meets key value c ≡ true) × IsKnown c) [
      | true ↦ λ on g. let is : x ≡ c = cc in subst (λ c. (is_on number c ≡ true) × (meets key value c ≡ true) × IsKnown c) is (on, met.0, known.0)
      | false ↦ λ on g. first_met number conditions c key value g met.1 known.1
    ] refl e

drop_each : {A B : Type 0} (f : A → B) (xs : List A) (ys : List B) → drop (length xs) (each f xs ++ ys) ≡ ys
drop_each f [] ys = refl
drop_each f (x ∷ xs) ys = drop_each f xs ys

length_each : {A B : Type 0} (f : A → B) (xs : List A) (ys : List B) → length (each f xs ++ ys) ≡ length xs + length ys
length_each f [] ys = omega arith
length_each f (x ∷ xs) ys = omega (arith, length_each f xs ys)

-- ---- row keys of one table

same_table : (table : ℕ) (k l : List Value) → row_cmp (table, k) (table, l) ≡ values_cmp k l
same_table table k l = ap (λ o. ordering_then o (values_cmp k l)) (tied_itself nat_cmp_total table)

sorted_rows : (table : ℕ) (ks : List (List Value)) → IsStrictlySortedBy values_cmp ks → IsStrictlySortedBy row_cmp (each (λ k. (table, k)) ks)
unfolding IsStrictlySortedBy
sorted_rows table [] h = tt
sorted_rows table (k ∷ ks) h = (below ks h.0, sorted_rows table ks h.1)
  where
    below : (ls : List (List Value)) → AllByRecursion (λ l. values_cmp k l ≡ Less) ls → AllByRecursion (λ l. row_cmp (table, k) l ≡ Less) (each (λ k. (table, k)) ls)
    below [] a = tt
    below (l ∷ ls) a = (same_table table k l ∙ a.0, below ls a.1)

has_rows : (table : ℕ) (k : List Value) (ks : List (List Value)) → list_any (eq_by_cmp row_cmp (table, k)) (each (λ k. (table, k)) ks) ≡ list_any (eq_by_cmp values_cmp k) ks
has_rows table k [] = refl
has_rows table k (l ∷ ks) = ap (λ o. is_eq o || list_any (eq_by_cmp row_cmp (table, k)) (each (λ k. (table, k)) ks)) (same_table table k l) ∙ ap (λ b. eq_by_cmp values_cmp k l || b) (has_rows table k ks)

rows_each : (pairs : Pairs) (columns : List ℕ) (query : Query) (table : ℕ) (ks : List (List Value)) → rows_in pairs columns query ks ≡ filter_map (λ (row : RowKey). row_in pairs columns query row.1) (each (λ k. (table, k)) ks)
rows_each pairs columns query table [] = refl
rows_each pairs columns query table (k ∷ ks) = ap (cons_option (row_in pairs columns query k)) (rows_each pairs columns query table ks)

module _ (version : Version) (rows : Rows) (pairs : Pairs) (agree : Reads version rows pairs) (query : Query) (plain : IsOpen version query) (known : AreKnown query.conditions)
    (number first : ℕ) (others : List ℕ) (index : HasExactly rows pairs query.table number (first ∷ others)) (c : Cond) (leads : find (is_on first) query.conditions ≡ Some c) where
  abbrev indexed : Cells → List Value
  indexed cells = each (value_or_null cells) (first ∷ others)

  abbrev width : ℕ
  width = length (first ∷ others)

  abbrev walk : List (Bytes × Bytes)
  walk = key_range pairs (low_bound number c) (high_bound number c)

  -- ---- the pair of a row

  module _ (key : List Value) (cells : Cells) (here : map.get rows (query.table, key) ≡ Some cells) where
    can_be_stored : (column : ℕ) → IsValue (value_or_null cells column) × IsShort (value_or_null cells column)
    can_be_stored column = elim (map.get cells column) as (λ o. map.get cells column ≡ o → IsValue (unwrap_or o Null) × IsShort (unwrap_or o Null)) [
      | None ↦ λ n. (tt, tt)
      | Some v ↦ λ s. agree.values query.table key cells column v here s
    ] refl

    all_stored : (columns : List ℕ) → AreValues (each (value_or_null cells) columns) × AreShort (each (value_or_null cells) columns)
    all_stored [] = (tt, tt)
    all_stored (x ∷ columns) =
        let one = can_be_stored x in
        let rest = all_stored columns in
        ((one.0, rest.0), (one.1, rest.1))

    row_form : IsKey (Exists query.table key)
    row_form = agree.keys query.table key cells here

    index_form : IsKey (Index number (indexed cells ++ key))
    index_form =
        let stored = all_stored (first ∷ others) in
        let many : length (indexed cells ++ key) ≡ length (first ∷ others) + length key = length_each (value_or_null cells) (first ∷ others) key in (
          index.number_fits,
          record {
            low_number = omega (arith, many, row_form.1.low_number);
            high_number = omega (arith, many, row_form.1.high_number, index.most);
            values = AllByRecursion-append IsValue (indexed cells) key stored.0 row_form.1.values;
            short = AllByRecursion-append IsShort (indexed cells) key stored.1 row_form.1.short;
          },
        )

    index_key_again : index_key_in number width (index_code number (indexed cells ++ key)) ≡ Some key
    unfolding index_key_in
    index_key_again =
        ap (key_of_index number width) (key_again (Index number (indexed cells ++ key)) index_form)
        ∙ ap (λ b. cond b (Some (drop width (indexed cells ++ key))) None) (same_number number)
        ∙ ap (λ k. Some k) (drop_each (value_or_null cells) (first ∷ others) key)

    index_within : list_all (meets key (value_or_null cells)) query.conditions ≡ true → is_within (low_bound number c) (high_bound number c) (index_code number (indexed cells ++ key)) ≡ true
    unfolding index_code
    index_within all =
        let met = first_met first query.conditions c key (value_or_null cells) leads all known in
        let rest : List Value = each (value_or_null cells) others ++ key in
        let some : 0 < length rest = omega (arith, length_each (value_or_null cells) others key, row_form.1.low_number) in
        let behind : slice_cmp nat_cmp (codes_of rest) (5 ∷ []) ≡ Less = ap (λ (x : List ℕ). slice_cmp nat_cmp x (5 ∷ [])) (sym (append-nil (codes_of rest))) ∙ low_tags rest [] some in
        let value = can_be_stored first in
        let low : is_lt (bytes_cmp (index_code number (indexed cells ++ key)) (low_bound number c)) ≡ false =
        ap is_lt (behind_prefix number (codes_of (indexed cells ++ key)) (from_bytes c) index.number_fits) ∙ at_low first key (value_or_null cells) c (codes_of rest) met.0 met.1 value.0 met.2 in
        let high : is_lt (bytes_cmp (index_code number (indexed cells ++ key)) (high_bound number c)) ≡ true =
        ap is_lt (behind_prefix number (codes_of (indexed cells ++ key)) (to_bytes c) index.number_fits) ∙ at_high first key (value_or_null cells) c (codes_of rest) met.0 met.1 value.0 met.2 behind in
        ap (λ b. not b && is_lt (bytes_cmp (index_code number (indexed cells ++ key)) (high_bound number c))) low ∙ high

    index_has : list_all (meets key (value_or_null cells)) query.conditions ≡ true → list_any (eq_by_cmp values_cmp key) (gathered number width [] walk) ≡ true
    index_has all = gathered_has number width (index_code number (indexed cells ++ key)) [] key [] walk
        (find_key_range pairs (low_bound number c) (high_bound number c) (index_code number (indexed cells ++ key))
        ∙ ap (λ b. cond b (map.get pairs (index_code number (indexed cells ++ key))) None) (index_within all) ∙ index.each_row key cells here)
        index_key_again

  -- ---- the pairs of the index

  abbrev IsPair : Bytes × Bytes → Type 0
  IsPair pair = (map.get pairs pair.0 ≡ Some pair.1) × HasForm pair.0

  all_pairs : AllByRecursion IsPair walk
  all_pairs = all_found bytes_cmp_total bytes_cmp-IsAntisymmetric IsPair walk (key_range_sorted pairs (low_bound number c) (high_bound number c)) (λ q x is.
      let there = some_of version rows pairs agree query plain (is_within (low_bound number c) (high_bound number c) q) (map.get pairs q) x (sym (find_key_range pairs (low_bound number c) (high_bound number c) q) ∙ is) in
      (there, agree.forms q x there))

  key_found : (pair : Bytes × Bytes) (k : List Value) → IsPair pair → index_key_in number width pair.0 ≡ Some k → IsKey (Exists query.table k)
  unfolding index_key_in
  key_found pair k p e = of p.1.key p.1.form p.1.encoded (ap (key_of_index number width) (sym (ap key_at p.1.encoded ∙ key_again p.1.key p.1.form)) ∙ e)
    where
      of : (form : KeyOf) → IsKey form → pair.0 ≡ key_code form → key_of_index number width (Ok form) ≡ Some k → IsKey (Exists query.table k)
      of (Exists t other) f is e = absurd cc
      of (Column t other element) f is e = absurd cc
      of (Index element values) f is e =
          elim (element == number) as (λ b. (element == number) ≡ b → cond b (Some (drop width values)) None ≡ Some k → IsKey (Exists query.table k)) [
            | true ↦ λ s g.
                let same : element ≡ number = is_number element number s in
                let behind : drop width values ≡ k = cc in
                let here = index.only_rows values pair.1 (subst (λ n. IsKey (Index n values)) same f) (ap (map.get pairs) (sym (is ∙ ap (λ n. index_code n values) same)) ∙ p.0) in
                let key_is : here.0 ≡ k = sym (ap (drop width) here.3 ∙ drop_each (value_or_null here.1) (first ∷ others) here.0) ∙ behind in
                subst (λ k. IsKey (Exists query.table k)) key_is (agree.keys query.table here.0 here.1 here.2)
            | false ↦ λ s g. absurd cc
          ] refl e

  candidate_rows : (ks : List (List Value)) → AllByRecursion (λ k. IsKey (Exists query.table k)) ks → AllByRecursion (λ (row : RowKey). (row.0 ≡ query.table) × IsKey (Exists row.0 row.1)) (each (λ k. (query.table, k)) ks)
  candidate_rows [] all = tt
  candidate_rows (k ∷ ks) all = ((refl, all.0), candidate_rows ks all.1)

  covers : (row : RowKey) (cells : Cells) → asked version rows pairs agree query plain row ≡ Some cells → list_any (eq_by_cmp row_cmp row) (each (λ k. (query.table, k)) (gathered number width [] walk)) ≡ true
  covers row cells e =
      let a = asked_of version rows pairs agree query plain row (map.get rows row) cells e in
      let of = of_table version rows pairs agree query plain row cells a.1 in
      let all : list_all (meets row.1 (value_or_null cells)) query.conditions ≡ true = (both_true (row.0 == query.table) _ a.1).1 in
      subst (λ (t : ℕ). map.get rows (t, row.1) ≡ Some cells → list_any (eq_by_cmp row_cmp (t, row.1)) (each (λ k. (query.table, k)) (gathered number width [] walk)) ≡ true) (sym of)
      (λ here. has_rows query.table row.1 (gathered number width [] walk) ∙ index_has row.1 cells here all) a.0

  pub index_is : rows_in pairs (public_numbers (live version) query.table) query (gathered number width [] walk) ≡ plain_answer rows query
  unfolding IsStrictlySortedBy
  index_is =
      let keys = gathered number width [] walk in
      rows_each pairs (public_numbers (live version) query.table) query query.table keys
      ∙ candidates version rows pairs agree query plain (each (λ k. (query.table, k)) keys)
      (sorted_rows query.table keys (gathered_sorted number width [] walk tt))
      (candidate_rows keys (gathered_all number width (λ k. IsKey (Exists query.table k)) IsPair key_found [] walk tt all_pairs))
      covers

-- an index that serves gives the plain answer
pub index_answers : (version : Version) (rows : Rows) (pairs : Pairs) → Reads version rows pairs → (query : Query) → IsOpen version query → AreKnown query.conditions
    → (e : ElementDef) (c : Cond) → find (serves query) (live version) ≡ Some e → leading query.conditions (indexed_columns e.kind) ≡ Some c
    → rows_in pairs (public_numbers (live version) query.table) query (gathered e.number (length (indexed_columns e.kind)) [] (key_range pairs (low_bound e.number c) (high_bound e.number c))) ≡ plain_answer rows query
index_answers version rows pairs agree query plain known e c is leads_by =
    let found = find_says (serves query) (live version) e is in
    let served = both_true ((e.table == query.table) && is_public e.state) (leads query.conditions (indexed_columns e.kind)) found.1 in
    let public = both_true (e.table == query.table) (is_public e.state) served.0 in
    let k = kind_is query.conditions e.kind c leads_by in
    let exact = subst (λ t. HasExactly rows pairs t e.number (k.0 ∷ k.1)) (is_number e.table query.table public.0) (agree.indexes e found.0 (k.0 ∷ k.1) k.2 public.1) in
    ap (λ (columns : List ℕ). rows_in pairs (public_numbers (live version) query.table) query (gathered e.number (length columns) [] (key_range pairs (low_bound e.number c) (high_bound e.number c)))) (ap indexed_columns k.2)
    ∙ index_is version rows pairs agree query plain known e.number k.0 k.1 exact c k.3
