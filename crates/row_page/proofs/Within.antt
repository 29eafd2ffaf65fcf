-- What a walk within a range finds are the rows of the plain answer that are in the range.
use Rattle.std.proofs.Common.{◌≡◌, ℕ, Bool, true, false, cond, ◌&&◌, not, List, [], ◌∷◌, ◌++◌, Option, Some, None, filter, filter_map, Ok, refl, sym, ap, ap₂, subst, ◌∙◌, ◌==◌, is_some, arith}
use Rattle.std.proofs.lemmas.List.{append-nil}
use Rattle.std.specs.declared.cmp.Ordering.{Ordering}
use Rattle.std.specs.declared.cmp.Ordering.TheVariants.{Less, Equal, Greater}
use Rattle.std.specs.Ordering.{is_lt, nat_cmp, ordering_then, ordering_reverse}
use Rattle.std.specs.Cmp.{nat_cmp_total, tied_itself}
use Rattle.std.specs.Cmp.Lexicographic.{slice_cmp}
use Rattle.std.specs.Int.{w32, to_be_bytes}
use Rattle.std.specs.List.{AllByRecursion, cons_option, list_all}
use Rattle.std.specs.FinMap as map
use Rattle.std.specs.FinMap.Entries.{where_key}
use Rattle.keycode.specs.declared.value.Value.{Value}
use Rattle.keycode.specs.Code.{codes_of}
use Rattle.keycode.specs.Order.{bytes_cmp, values_cmp}
use Rattle.keycode.proofs.Orders.{bytes_cmp_total, bytes_cmp-IsAntisymmetric, values_cmp_total}
use Rattle.row_map.specs.declared.shape.Row.{Row}
use Rattle.row_map.specs.declared.key.KeyOf.{KeyOf}
use Rattle.row_map.specs.declared.key.KeyOf.TheVariants.{Exists, Column, Index}
use Rattle.row_map.specs.Keys.{IsKey, key_code, row_code}
use Rattle.row_map.specs.Ranges.{is_within, table_prefix}
use Rattle.row_map.specs.ReadKey.{key_at}
use Rattle.row_map.specs.Rows.{Bytes, Rows, Pairs}
use Rattle.row_map.specs.Walk.{key_range}
use Rattle.row_map.proofs.KeyLaws.{key_again, row_code_is}
use Rattle.row_map.proofs.KeyOrder.{row_keys}
use Rattle.schema_version.specs.Version.{Version, live}
use Rattle.element_state.specs.Elements.{HasForm}
use Rattle.row_query.specs.declared.query.Query.{Query}
use Rattle.row_query.specs.Answer.{meets, is_named, plain_answer}
use Rattle.row_query.specs.inner.Bounds.{table_end}
use Rattle.row_query.specs.inner.Checks.{public_numbers}
use Rattle.row_query.specs.inner.Found.{cells_in, value_in, row_of, row_in, key_of_row, row_key_in, row_of_key, row_at, rows_at}
use Rattle.row_query.proofs.Premise.{Reads}
use Rattle.row_query.proofs.Rows.{IsOpen, scan_is, is_number, low_tags, behind_prefix, not_below_empty}
use Rattle.row_query.proofs.Sorted.{all_found, same_given}
use Rattle.row_page.specs.Page.{is_after, is_before, is_in_range, rows_within}
use Rattle.row_page.specs.declared.range.KeyRange.{KeyRange}
use Rattle.row_page.specs.inner.Bounds.{low_bound, high_bound, IsKnownKey, IsKnownRange}

-- ---- lists

abbrev nothing : Option Row
nothing = None

cond_none : (b : Bool) → nothing ≡ cond b nothing nothing
cond_none true = refl
cond_none false = refl

-- what passes a test
abbrev kept : {Y : Type 0} → (Y → Bool) → Option Y → Option Y
kept p None = None
kept p (Some y) = cond (p y) (Some y) None

kept_none : {Y : Type 0} (p : Y → Bool) (b : Bool) → kept p (cond b None None) ≡ None
kept_none p true = refl
kept_none p false = refl

filter_found : {X Y : Type 0} (p : Y → Bool) (f : X → Option Y) (xs : List X) → filter p (filter_map f xs) ≡ filter_map (λ x. kept p (f x)) xs
filter_found p f [] = refl
filter_found {X} {Y} p f (x ∷ xs) =
    elim (f x) as (λ o. filter p (cons_option o (filter_map f xs)) ≡ cons_option (kept p o) (filter_map (λ x. kept p (f x)) xs)) [
      | None ↦ filter_found p f xs
      | Some y ↦ elim (p y) as (λ b. cond b (y ∷ filter p (filter_map f xs)) (filter p (filter_map f xs)) ≡ cons_option (cond b (Some y) None) (filter_map (λ x. kept p (f x)) xs)) [
        | true ↦ ap (λ (r : List Y). y ∷ r) (filter_found p f xs)
        | false ↦ filter_found p f xs
      ]
    ]

where_found : {Y : Type 0} (p : Bytes → Bool) (f : Bytes × Bytes → Option Y) (es : List (Bytes × Bytes)) → filter_map f (where_key bytes_cmp p es) ≡ filter_map (λ e. cond (p e.0) (f e) None) es
where_found p f [] = refl
where_found p f (e ∷ es) =
    elim (p e.0) as (λ b. filter_map f (cond b (e ∷ where_key bytes_cmp p es) (where_key bytes_cmp p es)) ≡ cons_option (cond b (f e) None) (filter_map (λ e. cond (p e.0) (f e) None) es)) [
      | true ↦ ap (cons_option (f e)) (where_found p f es)
      | false ↦ where_found p f es
    ]

-- ---- the keys of rows

then_equal : (o : Ordering) → ordering_then o Equal ≡ o
then_equal Less = refl
then_equal Equal = refl
then_equal Greater = refl

not_below : (o : Ordering) → not (is_lt (ordering_then o Less)) ≡ is_lt (ordering_reverse o)
not_below Less = refl
not_below Equal = refl
not_below Greater = refl

-- an `exists` pair is the pair of one row
row_key_is : (table : ℕ) (bytes : List ℕ) (key : List Value) → HasForm bytes → row_key_in table bytes ≡ Some key → (bytes ≡ row_code table key 0) × IsKey (Exists table key)
unfolding row_key_in
row_key_is table bytes key form e = from form.key form.form form.encoded
  where
    from : (k : KeyOf) → IsKey k → bytes ≡ key_code k → (bytes ≡ row_code table key 0) × IsKey (Exists table key)
    from k f is = of k f is (ap (key_of_row table) (sym (ap key_at is ∙ key_again k f)) ∙ e)
      where
        of : (k : KeyOf) → IsKey k → bytes ≡ key_code k → key_of_row table (Ok k) ≡ Some key → (bytes ≡ row_code table key 0) × IsKey (Exists table key)
        of (Exists t other) f is e =
            elim (t == table) as (λ b. (t == table) ≡ b → cond b (Some other) None ≡ Some key → (bytes ≡ row_code table key 0) × IsKey (Exists table key)) [
              | true ↦ λ s g.
                  let table_is : t ≡ table = is_number t table s in
                  let key_is : other ≡ key = cc in
                  (is ∙ ap (λ t. row_code t other 0) table_is ∙ ap (λ k. row_code table k 0) key_is, subst (λ k. IsKey (Exists table k)) key_is (subst (λ t. IsKey (Exists t other)) table_is f))
              | false ↦ λ s g. absurd cc
            ] refl e
        of (Column t other element) f is e = absurd cc
        of (Index element values) f is e = absurd cc

-- a row's pair is within its table's
above_prefix : (table : ℕ) (key : List Value) → IsKey (Exists table key) → is_lt (bytes_cmp (row_code table key 0) (table_prefix table)) ≡ false
above_prefix table key f =
    let rest = codes_of key ++ to_be_bytes w32 0 in
    ap (λ l. is_lt (bytes_cmp l (table_prefix table))) (row_code_is table key 0)
    ∙ ap (λ (y : List ℕ). is_lt (slice_cmp nat_cmp (to_be_bytes w32 table ++ rest) y)) (sym (append-nil (to_be_bytes w32 table)))
    ∙ ap is_lt (behind_prefix table rest [] f.0) ∙ not_below_empty rest

below_end : (table : ℕ) (key : List Value) → IsKey (Exists table key) → is_lt (bytes_cmp (row_code table key 0) (table_end table)) ≡ true
below_end table key f =
    ap (λ l. is_lt (bytes_cmp l (table_end table))) (row_code_is table key 0)
    ∙ ap is_lt (behind_prefix table (codes_of key ++ to_be_bytes w32 0) (5 ∷ []) f.0) ∙ ap is_lt (low_tags key (to_be_bytes w32 0) (omega (arith, f.1.low_number)))

-- ---- a row's pair is within the bounds if and only if its key is in the range

from_low : (table : ℕ) (after : Option (List Value)) → IsKnownKey after → (key : List Value) → IsKey (Exists table key) → not (is_lt (bytes_cmp (row_code table key 0) (low_bound table after))) ≡ is_after after key
from_low table None known key f = ap not (above_prefix table key f)
from_low table (Some low) known key f =
    ap (λ o. not (is_lt o)) (row_keys table table key low 0 1 f.0 f.0 f.1.values known (omega arith) (omega arith) ∙ ap (λ o. ordering_then o (ordering_then (values_cmp key low) (nat_cmp 0 1))) (tied_itself nat_cmp_total table))
    ∙ not_below (values_cmp key low) ∙ ap is_lt (sym (values_cmp_total.antisymm low key))

to_high : (table : ℕ) (before : Option (List Value)) → IsKnownKey before → (key : List Value) → IsKey (Exists table key) → is_lt (bytes_cmp (row_code table key 0) (high_bound table before)) ≡ is_before before key
to_high table None known key f = below_end table key f
to_high table (Some high) known key f =
    ap is_lt (row_keys table table key high 0 0 f.0 f.0 f.1.values known (omega arith) (omega arith)
    ∙ ap (λ o. ordering_then o (ordering_then (values_cmp key high) (nat_cmp 0 0))) (tied_itself nat_cmp_total table) ∙ then_equal (values_cmp key high))

module _ (version : Version) (rows : Rows) (pairs : Pairs) (agree : Reads version rows pairs) (query : Query) (plain : IsOpen version query) (range : KeyRange) (known : IsKnownRange range) where
  abbrev columns : List ℕ
  columns = public_numbers (live version) query.table

  abbrev in_bounds : Bytes → Bool
  in_bounds = is_within (low_bound query.table range.after) (high_bound query.table range.before)

  abbrev in_table : Bytes → Bool
  in_table = is_within (table_prefix query.table) (table_end query.table)

  abbrev found : Bytes × Bytes → Option Row
  found pair = row_at pairs columns query pair.0

  abbrev passes : Row → Bool
  passes row = is_in_range range row.key

  within_is : (key : List Value) → IsKey (Exists query.table key) → in_bounds (row_code query.table key 0) ≡ is_in_range range key
  within_is key f = ap₂ (λ (a b : Bool). a && b) (from_low query.table range.after known.0 key f) (to_high query.table range.before known.1 key f)

  row_within : (key : List Value) → IsKey (Exists query.table key) → in_table (row_code query.table key 0) ≡ true
  row_within key f = ap₂ (λ (a b : Bool). not a && b) (above_prefix query.table key f) (below_end query.table key f)

  -- the row that is found has the key
  kept_row : (key : List Value) → kept passes (row_in pairs columns query key) ≡ cond (is_in_range range key) (row_in pairs columns query key) None
  unfolding row_in
  kept_row key =
      let cells = cells_in pairs query.table key columns in
      let row : Row = record { key = key; cells = filter (λ cell. is_named query.columns cell.0) cells } in
      elim (is_some (map.get pairs (row_code query.table key 0))) as (λ b. kept passes (cond b (row_of query key cells) None) ≡ cond (is_in_range range key) (cond b (row_of query key cells) None) None) [
        | true ↦ elim (list_all (meets key (value_in cells)) query.conditions) as (λ c. kept passes (cond c (Some row) None) ≡ cond (is_in_range range key) (cond c (Some row) None) None) [ true ↦ refl | false ↦ cond_none (is_in_range range key) ]
        | false ↦ cond_none (is_in_range range key)
      ]

  at_pair : (e : Bytes × Bytes) → HasForm e.0 → cond (in_bounds e.0) (found e) None ≡ kept passes (cond (in_table e.0) (found e) None)
  at_pair e form =
      elim (row_key_in query.table e.0) as (λ o. row_key_in query.table e.0 ≡ o → cond (in_bounds e.0) (row_of_key pairs columns query o) None ≡ kept passes (cond (in_table e.0) (row_of_key pairs columns query o) None)) [
        | None ↦ λ _. sym (kept_none passes (in_table e.0) ∙ cond_none (in_bounds e.0))
        | Some key ↦ λ s.
            let k = row_key_is query.table e.0 key form s in
            ap (λ b. cond b (row_in pairs columns query key) None) (ap in_bounds k.0 ∙ within_is key k.1)
            ∙ sym (kept_row key)
            ∙ sym (ap (λ b. kept passes (cond b (row_in pairs columns query key) None)) (ap in_table k.0 ∙ row_within key k.1))
      ] refl

  all_forms : AllByRecursion (λ (e : Bytes × Bytes). HasForm e.0) (map.entries pairs)
  all_forms = all_found bytes_cmp_total bytes_cmp-IsAntisymmetric (λ e. HasForm e.0) (map.entries pairs) (map.entries_sorted pairs) (λ q x is. agree.forms q x (map.get-entries pairs q ∙ is))

  pub within_range : rows_at pairs columns query (key_range pairs (low_bound query.table range.after) (high_bound query.table range.before)) ≡ rows_within range (plain_answer rows query)
  within_range =
      where_found in_bounds found (map.entries pairs)
      ∙ same_given (λ (e : Bytes × Bytes). HasForm e.0) (λ e. cond (in_bounds e.0) (found e) None) (λ e. kept passes (cond (in_table e.0) (found e) None)) at_pair (map.entries pairs) all_forms
      ∙ sym (filter_found passes (λ (e : Bytes × Bytes). cond (in_table e.0) (found e) None) (map.entries pairs))
      ∙ ap (filter passes) (sym (where_found in_table found (map.entries pairs)))
      ∙ ap (rows_within range) (scan_is version rows pairs agree query plain)
