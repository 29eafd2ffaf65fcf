-- What a query finds in pairs is the plain answer.
use Rattle.std.proofs.Common.{◌≡◌, ℕ, ◌<◌, ◌^◌, Bool, true, false, cond, ◌&&◌, ◌||◌, ◌==◌, not, T, List, [], ◌∷◌, ◌++◌, Option, Some, None, refl, sym, ap, subst, ◌∙◌, option_map, is_some, unwrap_or, Ok, arith, true≢false, append_assoc, length}
use mathlib.Core.List.{map as each}
use Rattle.std.proofs.lemmas.List.{append-nil}
use Rattle.std.proofs.lemmas.Bool.Decides.{nat_tests}
use Rattle.std.specs.declared.cmp.Ordering.{Ordering}
use Rattle.std.specs.declared.cmp.Ordering.TheVariants.{Less, Equal, Greater}
use Rattle.std.specs.Ordering.{is_lt, eq_by_cmp, nat_cmp, ordering_then}
use Rattle.std.specs.Cmp.{nat_cmp_total, tied_itself}
use Rattle.std.specs.Cmp.Lexicographic.{slice_cmp}
use Rattle.std.specs.Int.{w32, to_be_bytes}
use Rattle.std.specs.List.{AllByRecursion, filter, filter_map, cons_option, list_any, list_all}
use Rattle.std.specs.List.Sorted.{IsStrictlySortedBy}
use Rattle.std.specs.FinMap as map
use Rattle.std.specs.FinMap.{nat_cmp-IsAntisymmetric}
use Rattle.std.specs.FinMap.Entries.{find, is_sorted, same_entries, find-where_key, is_sorted-where_key}
use Rattle.keycode.specs.declared.value.Value.{Value}
use Rattle.keycode.specs.declared.value.Value.TheVariants.{Null, Int, Text, Bool as Flag}
use Rattle.keycode.specs.Code.{code, codes_of}
use Rattle.keycode.specs.Order.{values_cmp}
use Rattle.keycode.proofs.Orders.{bytes_cmp_total, bytes_cmp-IsAntisymmetric}
use Rattle.row_map.specs.declared.shape.Row.{Row}
use Rattle.row_map.specs.declared.key.KeyOf.{KeyOf}
use Rattle.row_map.specs.declared.key.KeyOf.TheVariants.{Exists, Column, Index}
use Rattle.row_map.specs.Keys.{IsKey, key_code, row_code}
use Rattle.row_map.specs.ReadKey.{key_at}
use Rattle.row_map.proofs.Cells.{only_again}
use Rattle.row_map.proofs.KeyLaws.{key_again, row_code_is}
use Rattle.row_map.proofs.KeyOrder.{row_keys, number_order}
use Rattle.keycode.specs.Order.{bytes_cmp}
use Rattle.row_query.specs.declared.query.Cond.{Cond}
use Rattle.row_query.specs.declared.query.Cond.TheVariants.{Key, Equal as Same, Between}
use Rattle.row_query.specs.declared.query.Query.{Query}
use Rattle.row_map.specs.Rows.{RowKey, row_cmp, Cells, Rows, Pairs, value_or_null}
use Rattle.row_map.proofs.Orders.{row_cmp_total, row_cmp-IsAntisymmetric}
use Rattle.row_query.specs.Answer.{meets, is_asked, is_named, cut, plain_answer}
use Rattle.row_query.specs.inner.Bounds.{table_end}
use Rattle.schema_version.specs.Version.{Version, live}
use Rattle.element_state.specs.Elements.{HasForm}
use Rattle.row_query.proofs.Premise.{Reads}
use Rattle.row_map.specs.Walk.{key_range}
use Rattle.row_map.specs.Ranges.{is_within, table_prefix}
use Rattle.row_map.specs.Cell.{value_from, cell_in}
use Rattle.row_query.specs.inner.Found.{cells_in, value_in, row_of, row_in, key_of_row, row_key_in, row_of_key, row_at, rows_at}
use Rattle.row_query.specs.inner.Checks.{public_numbers}
use Rattle.row_query.proofs.Sorted.{kept, find_kept, sorted_kept, passing, sorted_filter, find_filter, all_found, member_of, sorted_map, all_given, same_given, tied}
use Rattle.row_map.proofs.KeyRanges.{key_range_sorted, find_key_range}

-- ---- numbers

eq_tie : (a b : ℕ) → (a == b) ≡ eq_by_cmp nat_cmp a b
eq_tie a b = grind (arith, nat_tests)

pub same_number : (a : ℕ) → (a == a) ≡ true
same_number a = grind (arith, nat_tests)

pub is_number : (a b : ℕ) → (a == b) ≡ true → a ≡ b
is_number a b e = grind (arith, nat_tests)

listed_tie : (columns : List ℕ) (c : ℕ) → is_named columns c ≡ list_any (eq_by_cmp nat_cmp c) columns
listed_tie [] c = refl
listed_tie (x ∷ columns) c = ap (λ b. b || is_named columns c) (eq_tie c x) ∙ ap (λ b. eq_by_cmp nat_cmp c x || b) (listed_tie columns c)

-- ---- cells

find_tie : (columns : List ℕ) (q : ℕ) (x y : ℕ) → nat_cmp q x ≡ Equal → is_named columns x ≡ is_named columns q
find_tie columns q x y e = ap (is_named columns) (sym (nat_cmp-IsAntisymmetric q x e))

-- what holds of all named numbers
named_is : (P : ℕ → Type 0) (columns : List ℕ) (c : ℕ) → AllByRecursion P columns → is_named columns c ≡ true → P c
named_is P [] c all e = absurd cc
named_is P (x ∷ columns) c all e =
    elim (c == x) as (λ b. (c == x) ≡ b → (b || is_named columns c) ≡ true → P c) [
      | true ↦ λ t h. subst P (sym (is_number c x t)) all.0
      | false ↦ λ t h. named_is P columns c all.1 h
    ] refl e

then_equal : (o : Ordering) → ordering_then o Equal ≡ o
then_equal Less = refl
then_equal Equal = refl
then_equal Greater = refl

-- ---- the keys of rows

-- an `exists` pair is the pair of one row
row_key_is : (table : ℕ) (bytes : List ℕ) (key : List Value) → HasForm bytes → row_key_in table bytes ≡ Some key → (bytes ≡ row_code table key 0) × IsKey (Exists table key)
unfolding row_key_in
row_key_is table bytes key form e = from form.key form.form form.encoded
  where
    from : (k : KeyOf) → IsKey k → bytes ≡ key_code k → (bytes ≡ row_code table key 0) × IsKey (Exists table key)
    from k f is = of k f is (ap (key_of_row table) (sym (ap key_at is ∙ key_again k f)) ∙ e)
      where
        of : (k : KeyOf) → IsKey k → bytes ≡ key_code k → key_of_row table (Ok k) ≡ Some key → (bytes ≡ row_code table key 0) × IsKey (Exists table key)
        of (Exists t other) f is e =
            elim (t == table) as (λ b. (t == table) ≡ b → cond b (Some other) None ≡ Some key → (bytes ≡ row_code table key 0) × IsKey (Exists table key)) [
              | true ↦ λ s g.
                  let table_is : t ≡ table = is_number t table s in
                  let key_is : other ≡ key = cc in
                  (is ∙ ap (λ t. row_code t other 0) table_is ∙ ap (λ k. row_code table k 0) key_is, subst (λ k. IsKey (Exists table k)) key_is (subst (λ t. IsKey (Exists t other)) table_is f))
              | false ↦ λ s g. absurd cc
            ] refl e
        of (Column t other element) f is e = absurd cc
        of (Index element values) f is e = absurd cc

row_key_again : (table : ℕ) (key : List Value) → IsKey (Exists table key) → row_key_in table (row_code table key 0) ≡ Some key
unfolding row_key_in
row_key_again table key f = ap (key_of_row table) (key_again (Exists table key) f) ∙ ap (λ b. cond b (Some key) None) (same_number table)

-- a value's tag is below 5
pub low_tag : (v : Value) (x : List ℕ) → slice_cmp nat_cmp (code v ++ x) (5 ∷ []) ≡ Less
low_tag Null x = refl
low_tag (Int n) x = refl
low_tag (Text t) x = refl
low_tag (Flag false) x = refl
low_tag (Flag true) x = refl

pub low_tags : (key : List Value) (x : List ℕ) → 0 < length key → slice_cmp nat_cmp (codes_of key ++ x) (5 ∷ []) ≡ Less
low_tags [] x some = absurd (omega arith)
low_tags (v ∷ key) x some = ap (λ (l : List ℕ). slice_cmp nat_cmp l (5 ∷ [])) (append_assoc (code v) (codes_of key) x) ∙ low_tag v (codes_of key ++ x)

pub not_below_empty : (x : List ℕ) → is_lt (slice_cmp nat_cmp x []) ≡ false
not_below_empty [] = refl
not_below_empty (b ∷ x) = refl

pub behind_prefix : (n : ℕ) (x y : List ℕ) → n < 2 ^ 32 → slice_cmp nat_cmp (to_be_bytes w32 n ++ x) (to_be_bytes w32 n ++ y) ≡ slice_cmp nat_cmp x y
behind_prefix n x y lt = number_order n n x y lt lt ∙ ap (λ o. ordering_then o (slice_cmp nat_cmp x y)) (tied_itself nat_cmp_total n)

-- a row is in the key range of its table
row_within : (table : ℕ) (key : List Value) → IsKey (Exists table key) → is_within (table_prefix table) (table_end table) (row_code table key 0) ≡ true
row_within table key f =
    let rest = codes_of key ++ to_be_bytes w32 0 in
    let low : is_lt (bytes_cmp (row_code table key 0) (table_prefix table)) ≡ false =
    ap (λ l. is_lt (bytes_cmp l (table_prefix table))) (row_code_is table key 0)
    ∙ ap (λ (y : List ℕ). is_lt (slice_cmp nat_cmp (to_be_bytes w32 table ++ rest) y)) (sym (append-nil (to_be_bytes w32 table)))
    ∙ ap is_lt (behind_prefix table rest [] f.0) ∙ not_below_empty rest in
    let high : is_lt (bytes_cmp (row_code table key 0) (table_end table)) ≡ true =
    ap (λ l. is_lt (bytes_cmp l (table_end table))) (row_code_is table key 0)
    ∙ ap is_lt (behind_prefix table rest (5 ∷ []) f.0) ∙ ap is_lt (low_tags key (to_be_bytes w32 0) (omega (arith, f.1.low_number))) in
    ap (λ b. not b && is_lt (bytes_cmp (row_code table key 0) (table_end table))) low ∙ high

abbrev bound : {Y Z : Type 0} → (Y → Option Z) → Option Y → Option Z
bound f None = None
bound f (Some y) = f y

bind_map : {X Y Z : Type 0} (g : X → Option Y) (f : Y → Option Z) (h : X → Option Z) → ((x : X) (o : Option Y) → g x ≡ o → h x ≡ bound f o) → (xs : List X) → filter_map h xs ≡ filter_map f (filter_map g xs)
bind_map g f h is [] = refl
bind_map g f h is (x ∷ xs) =
    elim (g x) as (λ o. g x ≡ o → cons_option (h x) (filter_map h xs) ≡ filter_map f (cons_option o (filter_map g xs))) [
      | None ↦ λ e. ap (λ o. cons_option o (filter_map h xs)) (is x None e) ∙ bind_map g f h is xs
      | Some y ↦ λ e. ap (λ o. cons_option o (filter_map h xs)) (is x (Some y) e) ∙ ap (cons_option (f y)) (bind_map g f h is xs)
    ] refl

-- a condition on public columns alone
abbrev pub IsOnPublic : List ℕ → Cond → Type 0
IsOnPublic columns (Key wanted) = Unit {0}
IsOnPublic columns (Same column value) = is_named columns column ≡ true
IsOnPublic columns (Between column low high) = is_named columns column ≡ true

-- a query on public columns alone
pub record IsOpen (version : Version) (query : Query) : Type 0 where
  pub named : AllByRecursion (λ c. is_named (public_numbers (live version) query.table) c ≡ true) query.columns
  pub tested : AllByRecursion (IsOnPublic (public_numbers (live version) query.table)) query.conditions

no_some : {X : Type 0} (x : X) (o : Option X) → o ≡ None → o ≡ Some x → ⊥
no_some x o n s = let clash : None ≡ Some x = sym n ∙ s in cc

module _ (version : Version) (rows : Rows) (pairs : Pairs) (agree : Reads version rows pairs) (query : Query) (plain : IsOpen version query) where
  abbrev pub columns : List ℕ
  columns = public_numbers (live version) query.table

  -- ---- one row

  module _ (key : List Value) (cells : Cells) (here : map.get rows (query.table, key) ≡ Some cells) where
    abbrev read : List (ℕ × Value)
    read = cells_in pairs query.table key columns

    cell_is : (c : ℕ) → is_named columns c ≡ true → cell_in pairs query.table key c ≡ map.get cells c
    cell_is c p =
        ap value_from (agree.columns query.table key cells c here p)
        ∙ elim (map.get cells c) as (λ o. map.get cells c ≡ o → value_from (option_map code o) ≡ o) [
          | None ↦ λ n. refl
          | Some v ↦ λ s. only_again v (agree.values query.table key cells c v here s)
        ] refl

    found_is : (c : ℕ) → is_named columns c ≡ true → find nat_cmp c read ≡ map.get cells c
    found_is c p =
        find_kept nat_cmp_total nat_cmp-IsAntisymmetric (cell_in pairs query.table key) c columns
        ∙ ap (λ b. cond b (cell_in pairs query.table key c) None) (sym (listed_tie columns c) ∙ p) ∙ cell_is c p

    value_is : (c : ℕ) → is_named columns c ≡ true → value_in read c ≡ value_or_null cells c
    value_is c p = ap (λ o. unwrap_or o Null) (found_is c p)

    meets_is : (condition : Cond) → IsOnPublic columns condition → meets key (value_in read) condition ≡ meets key (value_or_null cells) condition
    meets_is (Key wanted) p = refl
    meets_is (Same column value) p = ap (λ v. meets key (λ _. v) (Same column value)) (value_is column p)
    meets_is (Between column low high) p = ap (λ v. meets key (λ _. v) (Between column low high)) (value_is column p)

    all_meet : (conditions : List Cond) → AllByRecursion (IsOnPublic columns) conditions → list_all (meets key (value_in read)) conditions ≡ list_all (meets key (value_or_null cells)) conditions
    all_meet [] all = refl
    all_meet (c ∷ cs) all = ap (λ b. b && list_all (meets key (value_in read)) cs) (meets_is c all.0) ∙ ap (λ b. meets key (value_or_null cells) c && b) (all_meet cs all.1)

    named_cells : filter (λ cell. is_named query.columns cell.0) read ≡ filter (λ cell. is_named query.columns cell.0) (map.entries cells)
    named_cells =
        let read_sorted : T (is_sorted nat_cmp read) = sorted_kept nat_cmp_total nat_cmp-IsAntisymmetric (cell_in pairs query.table key) columns (agree.rising query.table) in
        same_entries nat_cmp nat_cmp_total nat_cmp-IsAntisymmetric _ _
        (is_sorted-where_key nat_cmp (is_named query.columns) read read_sorted)
        (is_sorted-where_key nat_cmp (is_named query.columns) (map.entries cells) (map.entries_sorted cells))
        (λ c. find-where_key nat_cmp (is_named query.columns) c (λ x e. ap (is_named query.columns) (sym (nat_cmp-IsAntisymmetric c x e))) read
        ∙ same c ∙ sym (find-where_key nat_cmp (is_named query.columns) c (λ x e. ap (is_named query.columns) (sym (nat_cmp-IsAntisymmetric c x e))) (map.entries cells)))
      where
        same : (c : ℕ) → cond (is_named query.columns c) (find nat_cmp c read) None ≡ cond (is_named query.columns c) (find nat_cmp c (map.entries cells)) None
        same c = elim (is_named query.columns c) as (λ b. is_named query.columns c ≡ b → cond b (find nat_cmp c read) None ≡ cond b (find nat_cmp c (map.entries cells)) None) [
          | true ↦ λ t. found_is c (named_is (λ c. is_named columns c ≡ true) query.columns c plain.named t) ∙ map.get-entries cells c
          | false ↦ λ t. refl
        ] refl

    row_of_is : row_of query key read ≡ cond (list_all (meets key (value_or_null cells)) query.conditions) (Some (cut query.columns ((query.table, key), cells))) None
    row_of_is =
        ap (λ b. cond b (Some (record { key = key; cells = filter (λ cell. is_named query.columns cell.0) read })) None) (all_meet query.conditions plain.tested)
        ∙ ap (λ (cs : List (ℕ × Value)). cond (list_all (meets key (value_or_null cells)) query.conditions) (Some (record { key = key; cells = cs })) None) named_cells

  -- the cells of a row that is asked for
  abbrev pub asked : RowKey → Option Cells
  asked row = passing row_cmp_total row_cmp-IsAntisymmetric (is_asked query) row (map.get rows row)

  choose_map : {X Y : Type 0} (f : X → Y) (b : Bool) (x : X) → option_map f (cond b (Some x) None) ≡ cond b (Some (f x)) None
  choose_map f true x = refl
  choose_map f false x = refl

  row_is : (key : List Value) → IsKey (Exists query.table key) → row_in pairs columns query key ≡ option_map (λ cells. cut query.columns ((query.table, key), cells)) (asked (query.table, key))
  unfolding row_in
  row_is key form =
      elim (map.get rows (query.table, key)) as (λ o. map.get rows (query.table, key) ≡ o → row_in pairs columns query key ≡ option_map (λ cells. cut query.columns ((query.table, key), cells)) (passing row_cmp_total row_cmp-IsAntisymmetric (is_asked query) (query.table, key) o)) [
        | None ↦ λ n. elim (map.get pairs (row_code query.table key 0)) as (λ o. map.get pairs (row_code query.table key 0) ≡ o → cond (is_some o) (row_of query key (cells_in pairs query.table key columns)) None ≡ None) [
          | None ↦ λ _. refl
          | Some v ↦ λ s. absurd (true≢false (sym (agree.only_rows query.table key v form s) ∙ ap is_some n))
        ] refl
        | Some cells ↦ λ s.
            ap (λ o. cond (is_some o) (row_of query key (cells_in pairs query.table key columns)) None) (agree.each_row query.table key cells s)
            ∙ row_of_is key cells s
            ∙ ap (λ b. cond (b && list_all (meets key (value_or_null cells)) query.conditions) (Some (cut query.columns ((query.table, key), cells))) None) (sym (same_number query.table))
            ∙ sym (choose_map (λ cells. cut query.columns ((query.table, key), cells)) (is_asked query ((query.table, key), cells)) cells)
      ] refl

  -- ---- candidates: keys in order, with every row that is asked for among them

  abbrev pub IsCandidate : RowKey → Type 0
  IsCandidate row = (row.0 ≡ query.table) × IsKey (Exists row.0 row.1)

  each_kept : (a : RowKey → Option Cells) (f : RowKey × Cells → Row) (ks : List RowKey) → each f (kept a ks) ≡ filter_map (λ k. option_map (λ cells. f (k, cells)) (a k)) ks
  each_kept a f [] = refl
  each_kept a f (k ∷ ks) = elim (a k) as (λ o. each f (cons_option (option_map (λ x. (k, x)) o) (kept a ks)) ≡ cons_option (option_map (λ cells. f (k, cells)) o) (filter_map (λ k. option_map (λ cells. f (k, cells)) (a k)) ks)) [
    | None ↦ each_kept a f ks
    | Some x ↦ ap (λ r. f (k, x) ∷ r) (each_kept a f ks)
  ]

  all_asked : (a : Option Cells) (b : Bool) → ((c : Cells) → a ≡ Some c → b ≡ true) → cond b a None ≡ a
  all_asked None true h = refl
  all_asked None false h = refl
  all_asked (Some c) b h = ap (λ b. cond b (Some c) None) (h c refl)

  pub candidates : (ks : List RowKey) → IsStrictlySortedBy row_cmp ks → AllByRecursion IsCandidate ks → ((row : RowKey) (cells : Cells) → asked row ≡ Some cells → list_any (eq_by_cmp row_cmp row) ks ≡ true)
      → filter_map (λ (row : RowKey). row_in pairs columns query row.1) ks ≡ plain_answer rows query
  candidates ks rising all covers =
      same_given IsCandidate (λ (row : RowKey). row_in pairs columns query row.1) (λ row. option_map (λ cells. cut query.columns (row, cells)) (asked row))
      (λ row p. subst (λ (t : ℕ). IsKey (Exists t row.1) → row_in pairs columns query row.1 ≡ option_map (λ cells. cut query.columns ((t, row.1), cells)) (asked (t, row.1))) (sym p.0) (row_is row.1) p.1) ks all
      ∙ sym (each_kept asked (cut query.columns) ks)
      ∙ ap (each (cut query.columns)) (same_entries row_cmp row_cmp_total row_cmp-IsAntisymmetric (kept asked ks) (filter (is_asked query) (map.entries rows))
      (sorted_kept row_cmp_total row_cmp-IsAntisymmetric asked ks rising) (sorted_filter row_cmp_total row_cmp-IsAntisymmetric (is_asked query) (map.entries rows) (map.entries_sorted rows))
      (λ row. find_kept row_cmp_total row_cmp-IsAntisymmetric asked row ks ∙ all_asked (asked row) _ (covers row)
      ∙ ap (passing row_cmp_total row_cmp-IsAntisymmetric (is_asked query) row) (map.get-entries rows row)
      ∙ sym (find_filter row_cmp_total row_cmp-IsAntisymmetric (is_asked query) row (map.entries rows) (map.entries_sorted rows))))

  -- ---- the key range of a table

  pub asked_of : (row : RowKey) (o : Option Cells) (cells : Cells) → passing row_cmp_total row_cmp-IsAntisymmetric (is_asked query) row o ≡ Some cells → (o ≡ Some cells) × (is_asked query (row, cells) ≡ true)
  asked_of row None cells e = absurd cc
  asked_of row (Some found) cells e =
      elim (is_asked query (row, found)) as (λ b. is_asked query (row, found) ≡ b → cond b (Some found) None ≡ Some cells → (Some found ≡ Some cells) × (is_asked query (row, cells) ≡ true)) [
        | true ↦ λ t g. (g, let is : found ≡ cells = cc in ap (λ c. is_asked query (row, c)) (sym is) ∙ t)
        | false ↦ λ t g. absurd cc
      ] refl e

  pub of_table : (row : RowKey) (cells : Cells) → is_asked query (row, cells) ≡ true → row.0 ≡ query.table
  of_table row cells e = is_number row.0 query.table (left (row.0 == query.table) _ e)
    where
      left : (a b : Bool) → (a && b) ≡ true → a ≡ true
      left true b e = refl
      left false b e = absurd (true≢false (sym e))

  abbrev key_of_pair : List ℕ × List ℕ → Option RowKey
  key_of_pair pair = option_map (λ key. (query.table, key)) (row_key_in query.table pair.0)

  pair_gives : (pair : List ℕ × List ℕ) (row : RowKey) (o : Option (List Value)) → row_key_in query.table pair.0 ≡ o → option_map (λ key. (query.table, key)) o ≡ Some row → (row.0 ≡ query.table) × (row_key_in query.table pair.0 ≡ Some row.1)
  pair_gives pair row None is e = absurd cc
  pair_gives pair row (Some key) is e =
      let same : (query.table, key) ≡ row = cc in
      (ap (λ r. r.0) (sym same), is ∙ ap (λ r. Some r.1) same)

  abbrev walked : List (List ℕ × List ℕ)
  walked = key_range pairs (table_prefix query.table) (table_end query.table)

  pub some_of : {X : Type 0} (b : Bool) (o : Option X) (x : X) → cond b o None ≡ Some x → o ≡ Some x
  some_of true o x e = e
  some_of false o x e = absurd cc

  pub all_forms : (low high : List ℕ) → AllByRecursion (λ (e : List ℕ × List ℕ). HasForm e.0) (key_range pairs low high)
  all_forms low high = all_found bytes_cmp_total bytes_cmp-IsAntisymmetric (λ e. HasForm e.0) (key_range pairs low high) (key_range_sorted pairs low high)
      (λ q x is. agree.forms q x (some_of (is_within low high q) (map.get pairs q) x (sym (find_key_range pairs low high q) ∙ is)))

  at_pair : (pair : List ℕ × List ℕ) → row_at pairs columns query pair.0 ≡ bound (λ (row : RowKey). row_in pairs columns query row.1) (key_of_pair pair)
  at_pair pair = elim (row_key_in query.table pair.0) as (λ o. row_of_key pairs columns query o ≡ bound (λ (row : RowKey). row_in pairs columns query row.1) (option_map (λ key. (query.table, key)) o)) [ None ↦ refl | Some key ↦ refl ]

  in_order : (e f : List ℕ × List ℕ) (k l : RowKey) → HasForm e.0 → HasForm f.0 → bytes_cmp e.0 f.0 ≡ Less → key_of_pair e ≡ Some k → key_of_pair f ≡ Some l → row_cmp k l ≡ Less
  in_order e f k l p q lt is so =
      let a = pair_gives e k (row_key_in query.table e.0) refl is in
      let b = pair_gives f l (row_key_in query.table f.0) refl so in
      let x = row_key_is query.table e.0 k.1 p a.1 in
      let y = row_key_is query.table f.0 l.1 q b.1 in
      ap (λ t. ordering_then (nat_cmp t l.0) (values_cmp k.1 l.1)) a.0
      ∙ ap (λ t. ordering_then (nat_cmp query.table t) (values_cmp k.1 l.1)) b.0
      ∙ ap (ordering_then (nat_cmp query.table query.table)) (sym (then_equal (values_cmp k.1 l.1)))
      ∙ sym (row_keys query.table query.table k.1 l.1 0 0 x.1.0 x.1.0 x.1.1.values y.1.1.values (omega arith) (omega arith))
      ∙ ap (λ m. bytes_cmp m (row_code query.table l.1 0)) (sym x.0) ∙ ap (bytes_cmp e.0) (sym y.0) ∙ lt

  is_candidate : (e : List ℕ × List ℕ) (k : RowKey) → HasForm e.0 → key_of_pair e ≡ Some k → IsCandidate k
  is_candidate e k p is =
      let a = pair_gives e k (row_key_in query.table e.0) refl is in
      let x = row_key_is query.table e.0 k.1 p a.1 in
      (a.0, subst (λ t. IsKey (Exists t k.1)) (sym a.0) x.1)

  covers_at : (key : List Value) (cells : Cells) → map.get rows (query.table, key) ≡ Some cells → list_any (eq_by_cmp row_cmp (query.table, key)) (filter_map key_of_pair walked) ≡ true
  covers_at key cells here =
      let form = agree.keys query.table key cells here in
      member_of bytes_cmp_total bytes_cmp-IsAntisymmetric key_of_pair (eq_by_cmp row_cmp (query.table, key)) (row_code query.table key 0) [] (query.table, key) walked
      (find_key_range pairs (table_prefix query.table) (table_end query.table) (row_code query.table key 0)
      ∙ ap (λ b. cond b (map.get pairs (row_code query.table key 0)) None) (row_within query.table key form) ∙ agree.each_row query.table key cells here)
      (ap (option_map (λ key. (query.table, key))) (row_key_again query.table key form))
      (tied row_cmp_total row_cmp-IsAntisymmetric (query.table, key))

  covers : (row : RowKey) (cells : Cells) → asked row ≡ Some cells → list_any (eq_by_cmp row_cmp row) (filter_map key_of_pair walked) ≡ true
  covers row cells e =
      let a = asked_of row (map.get rows row) cells e in
      let of = of_table row cells a.1 in
      subst (λ (t : ℕ). map.get rows (t, row.1) ≡ Some cells → list_any (eq_by_cmp row_cmp (t, row.1)) (filter_map key_of_pair walked) ≡ true) (sym of) (covers_at row.1 cells) a.0

  pub scan_is : rows_at pairs columns query (key_range pairs (table_prefix query.table) (table_end query.table)) ≡ plain_answer rows query
  scan_is =
      let forms = all_forms (table_prefix query.table) (table_end query.table) in
      bind_map key_of_pair (λ (row : RowKey). row_in pairs columns query row.1) (λ pair. row_at pairs columns query pair.0) (λ pair o e. at_pair pair ∙ ap (bound (λ (row : RowKey). row_in pairs columns query row.1)) e) walked
      ∙ candidates (filter_map key_of_pair walked)
      (sorted_map bytes_cmp row_cmp (λ e. HasForm e.0) key_of_pair in_order walked forms (key_range_sorted pairs _ _))
      (all_given (λ (e : List ℕ × List ℕ). HasForm e.0) IsCandidate key_of_pair is_candidate walked forms)
      covers
