-- Pages, each after the last row of the one before, are together the rows in the range.
use Rattle.std.proofs.Common.{◌≡◌, ℕ, zero, suc, Bool, true, false, cond, ◌&&◌, T, List, [], ◌∷◌, ◌++◌, Option, Some, None, filter, take, drop, ◌⊎◌, inl, inr, refl, sym, ap, subst, ◌∙◌, arith, ◌==◌}
use Rattle.std.proofs.lemmas.List.{append-nil, take_all, take-append-drop}
use mathlib.Core.List.{map as each}
use Rattle.std.specs.declared.cmp.Ordering.{Ordering}
use Rattle.std.specs.declared.cmp.Ordering.TheVariants.{Less}
use Rattle.std.specs.Ordering.{is_lt, nat_cmp, ordering_then, ordering_reverse}
use Rattle.std.specs.Cmp.{nat_cmp_total, tied_itself}
use Rattle.std.specs.List.{AllByRecursion}
use Rattle.std.specs.FinMap as map
use Rattle.std.specs.FinMap.Entries.{below_all, is_sorted}
use Rattle.byte_map.proofs.Order.{first, second, to_less}
use Rattle.keycode.specs.declared.value.Value.{Value}
use Rattle.keycode.specs.Order.{values_cmp}
use Rattle.keycode.proofs.Orders.{values_cmp_total}
use Rattle.row_map.specs.declared.shape.Row.{Row}
use Rattle.row_map.specs.Rows.{RowKey, Cells, Rows, row_cmp}
use Rattle.row_map.proofs.Orders.{row_cmp_total, row_cmp-IsAntisymmetric}
use Rattle.row_query.specs.declared.query.Query.{Query}
use Rattle.row_query.specs.Answer.{is_asked, cut, plain_answer}
use Rattle.row_query.proofs.Rows.{is_number}
use Rattle.row_query.proofs.Sorted.{sorted_filter}
use Rattle.row_page.specs.Page.{is_after, is_before, is_in_range, rows_within, has_more, page_of, last_key, range_after, IsPage, ArePages, all_rows}
use Rattle.row_page.specs.declared.page.RowPage.{RowPage}
use Rattle.row_page.specs.declared.range.KeyRange.{KeyRange}
use Rattle.row_page.proofs.Limits.{few_rows}

-- ---- booleans

both : (a b : Bool) → (a && b) ≡ true → (a ≡ true) × (b ≡ true)
both true b e = (refl, e)
both false b e = absurd cc

less_of : (o : Ordering) → is_lt o ≡ true → o ≡ Less
less_of o e = to_less o (subst T (sym e) tt)

-- ---- rising rows

abbrev AreAbove : List Value → List Row → Type 0
AreAbove key rows = AllByRecursion (λ (row : Row). values_cmp key row.key ≡ Less) rows

abbrev IsRising : List Row → Type 0
IsRising [] = Unit {0}
IsRising (row ∷ rows) = AreAbove row.key rows × IsRising rows

above_filter : (p : Row → Bool) (key : List Value) (rows : List Row) → AreAbove key rows → AreAbove key (filter p rows)
above_filter p key [] all = tt
above_filter p key (row ∷ rows) all =
    let rest = above_filter p key rows all.1 in
    elim (p row) as (λ b. AreAbove key (cond b (row ∷ filter p rows) (filter p rows))) [ true ↦ (all.0, rest) | false ↦ rest ]

rising_filter : (p : Row → Bool) (rows : List Row) → IsRising rows → IsRising (filter p rows)
rising_filter p [] all = tt
rising_filter p (row ∷ rows) all =
    let rest = rising_filter p rows all.1 in
    elim (p row) as (λ b. IsRising (cond b (row ∷ filter p rows) (filter p rows))) [ true ↦ (above_filter p row.key rows all.0, rest) | false ↦ rest ]

-- ---- the plain answer rises

abbrev IsOf : ℕ → RowKey × Cells → Type 0
IsOf table entry = entry.0.0 ≡ table

all_of_table : (query : Query) (es : List (RowKey × Cells)) → AllByRecursion (IsOf query.table) (filter (is_asked query) es)
all_of_table query [] = tt
all_of_table query (e ∷ es) =
    let rest = all_of_table query es in
    elim (is_asked query e) as (λ b. is_asked query e ≡ b → AllByRecursion (IsOf query.table) (cond b (e ∷ filter (is_asked query) es) (filter (is_asked query) es))) [
      | true ↦ λ t. (is_number e.0.0 query.table (both (e.0.0 == query.table) _ t).0, rest)
      | false ↦ λ _. rest
    ] refl

key_less : (table : ℕ) (x y : RowKey) → x.0 ≡ table → y.0 ≡ table → row_cmp x y ≡ Less → values_cmp x.1 y.1 ≡ Less
key_less table x y p q lt =
    sym (ap (λ t. ordering_then (nat_cmp t y.0) (values_cmp x.1 y.1)) p ∙ ap (λ t. ordering_then (nat_cmp table t) (values_cmp x.1 y.1)) q
    ∙ ap (λ o. ordering_then o (values_cmp x.1 y.1)) (tied_itself nat_cmp_total table)) ∙ lt

above_entries : (table : ℕ) (columns : List ℕ) (x : RowKey) (es : List (RowKey × Cells)) → x.0 ≡ table → AllByRecursion (IsOf table) es → T (below_all row_cmp x es) → AreAbove x.1 (each (cut columns) es)
above_entries table columns x [] p all lt = tt
above_entries table columns x (e ∷ es) p all lt = (key_less table x e.0 p all.0 (to_less _ (first _ _ lt)), above_entries table columns x es p all.1 (second _ _ lt))

rising_entries : (table : ℕ) (columns : List ℕ) (es : List (RowKey × Cells)) → AllByRecursion (IsOf table) es → T (is_sorted row_cmp es) → IsRising (each (cut columns) es)
rising_entries table columns [] all lt = tt
rising_entries table columns (e ∷ es) all lt = (above_entries table columns e.0 es all.0 all.1 (first _ _ lt), rising_entries table columns es all.1 (second _ _ lt))

answer_rises : (rows : Rows) (query : Query) → IsRising (plain_answer rows query)
answer_rises rows query =
    rising_entries query.table query.columns (filter (is_asked query) (map.entries rows)) (all_of_table query (map.entries rows))
    (sorted_filter row_cmp_total row_cmp-IsAntisymmetric (is_asked query) (map.entries rows) (map.entries_sorted rows))

-- ---- the rows after the last of a page

abbrev is_above : List Value → Row → Bool
is_above key row = is_lt (values_cmp key row.key)

all_pass : (key : List Value) (rows : List Row) → AreAbove key rows → filter (is_above key) rows ≡ rows
all_pass key [] all = refl
all_pass key (row ∷ rows) all = ap (λ o. cond (is_lt o) (row ∷ filter (is_above key) rows) (filter (is_above key) rows)) all.0 ∙ ap (λ (r : List Row). row ∷ r) (all_pass key rows all.1)

abbrev HasKey : List Row → List Value → Type 0
HasKey [] key = ⊥
HasKey (row ∷ rows) key = (row.key ≡ key) ⊎ HasKey rows key

at_key : (P : List Value → Type 0) (rows : List Row) (key : List Value) → AllByRecursion (λ (row : Row). P row.key) rows → HasKey rows key → P key
at_key P [] key all has = absurd has
at_key P (row ∷ rows) key all has = elim has [ inl is ↦ subst P is all.0 | inr later ↦ at_key P rows key all.1 later ]

-- the key of the last of the first so many rows, and what is above it
record IsLast (limit : ℕ) (rows : List Row) (key : List Value) : Type 0 where
  last : (before : Option (List Value)) → last_key before (take limit rows) ≡ Some key
  rest : filter (is_above key) rows ≡ drop limit rows
  among : HasKey rows key

not_above : (x k : List Value) → values_cmp x k ≡ Less → is_lt (values_cmp k x) ≡ false
not_above x k lt = ap is_lt (values_cmp_total.antisymm k x) ∙ ap (λ o. is_lt (ordering_reverse o)) lt

find_last : (limit : ℕ) (rows : List Row) → IsRising rows → has_more (suc limit) rows ≡ true → (key : List Value) × IsLast (suc limit) rows key
find_last limit [] rising more = absurd cc
find_last zero (row ∷ rows) rising more = (
  row.key,
  record {
    last = λ before. refl;
    rest = ap (λ o. cond (is_lt o) (row ∷ filter (is_above row.key) rows) (filter (is_above row.key) rows)) (tied_itself values_cmp_total row.key) ∙ all_pass row.key rows rising.0;
    among = inl refl;
  },
)
find_last (suc limit) (row ∷ rows) rising more =
    let found = find_last limit rows rising.1 more in
    let key = found.0 in
    let last = found.1 in
    let below : values_cmp row.key key ≡ Less = at_key (λ k. values_cmp row.key k ≡ Less) rows key rising.0 last.among in (
      key,
      record {
        last = λ before. last.last (Some row.key);
        rest = ap (λ b. cond b (row ∷ filter (is_above key) rows) (filter (is_above key) rows)) (not_above row.key key below) ∙ last.rest;
        among = inr last.among;
      },
    )

-- ---- a test in two parts

filter_both : (p q r : Row → Bool) → ((row : Row) → r row ≡ (p row && q row)) → (rows : List Row) → filter r rows ≡ filter q (filter p rows)
filter_both p q r is [] = refl
filter_both p q r is (row ∷ rows) =
    ap (λ b. cond b (row ∷ filter r rows) (filter r rows)) (is row)
    ∙ elim (p row) as (λ b. cond (b && q row) (row ∷ filter r rows) (filter r rows) ≡ filter q (cond b (row ∷ filter p rows) (filter p rows))) [
      | true ↦ ap (λ rest. cond (q row) (row ∷ rest) rest) (filter_both p q r is rows)
      | false ↦ filter_both p q r is rows
    ]

all_within : (p : List Value → Bool) (rows : List Row) → AllByRecursion (λ (row : Row). p row.key ≡ true) (filter (λ (row : Row). p row.key) rows)
all_within p [] = tt
all_within p (row ∷ rows) =
    let rest = all_within p rows in
    elim (p row.key) as (λ b. p row.key ≡ b → AllByRecursion (λ (r : Row). p r.key ≡ true) (cond b (row ∷ filter (λ (r : Row). p r.key) rows) (filter (λ (r : Row). p r.key) rows))) [
      | true ↦ λ t. (t, rest)
      | false ↦ λ _. rest
    ] refl

after_later : (after : Option (List Value)) (key x : List Value) → is_after after key ≡ true → is_lt (values_cmp key x) ≡ true → is_after after x ≡ true
after_later None key x p q = refl
after_later (Some low) key x p q = ap is_lt (values_cmp_total.trans low key x (less_of _ p) (less_of _ q))

-- what is after a key of the range is in the range and above the key
later_is : (after before : Option (List Value)) (key x : List Value) → is_after after key ≡ true → (is_lt (values_cmp key x) && is_before before x) ≡ ((is_after after x && is_before before x) && is_lt (values_cmp key x))
later_is after before key x p =
    elim (is_lt (values_cmp key x)) as (λ b. is_lt (values_cmp key x) ≡ b → (b && is_before before x) ≡ ((is_after after x && is_before before x) && b)) [
      | true ↦ λ t. sym (ap (λ a. (a && is_before before x) && true) (after_later after key x p t) ∙ and_true (is_before before x))
      | false ↦ λ _. sym (and_false (is_after after x && is_before before x))
    ] refl
  where
    and_true : (b : Bool) → (b && true) ≡ b
    and_true true = refl
    and_true false = refl

    and_false : (b : Bool) → (b && false) ≡ false
    and_false true = refl
    and_false false = refl

-- the rows after a page are those that it left
rest_is : (all : List Row) → IsRising all → (range : KeyRange) (limit : ℕ) → has_more (suc limit) (rows_within range all) ≡ true
    → rows_within (range_after range (page_of (suc limit) (rows_within range all))) all ≡ drop (suc limit) (rows_within range all)
rest_is all rising range limit more =
    let rows = rows_within range all in
    let found = find_last limit rows (rising_filter (λ (row : Row). is_in_range range row.key) all rising) more in
    let key = found.0 in
    let inside : is_in_range range key ≡ true = at_key (λ k. is_in_range range k ≡ true) rows key (all_within (is_in_range range) all) found.1.among in
    ap (λ (after : Option (List Value)). rows_within (record range { after = after }) all) (found.1.last range.after)
    ∙ filter_both (λ (row : Row). is_in_range range row.key) (is_above key) (λ (row : Row). is_in_range (record range { after = Some key }) row.key)
    (λ row. later_is range.after range.before key row.key (both (is_after range.after key) (is_before range.before key) inside).0) all
    ∙ found.1.rest

whole_page : (limit : ℕ) (rows : List Row) → has_more limit rows ≡ false → take limit rows ≡ rows
whole_page limit rows last = take_all limit rows (few_rows limit rows last)

next_page : (all : List Row) → IsRising all → (range : KeyRange) (page : RowPage) → IsPage all range page → page.more ≡ true → page.rows ++ rows_within (range_after range page) all ≡ rows_within range all
next_page all rising range page (zero, some, is) more = absurd (omega (arith, some))
next_page all rising range page (suc limit, some, is) more =
    ap (λ (p : RowPage). p.rows ++ rows_within (range_after range p) all) is
    ∙ ap (λ rest. take (suc limit) (rows_within range all) ++ rest) (rest_is all rising range limit (sym (ap (λ (p : RowPage). p.more) is) ∙ more))
    ∙ take-append-drop (suc limit) (rows_within range all)

pages_are_whole : (all : List Row) → IsRising all → (range : KeyRange) (pages : List RowPage) → ArePages all range pages → all_rows pages ≡ rows_within range all
pages_are_whole all rising range [] are = absurd are
pages_are_whole all rising range (page ∷ []) (is, last) =
    append-nil page.rows ∙ ap (λ (p : RowPage). p.rows) is.2 ∙ whole_page is.0 (rows_within range all) (sym (ap (λ (p : RowPage). p.more) is.2) ∙ last)
pages_are_whole all rising range (page ∷ next ∷ pages) (is, more, rest) =
    ap (λ rows. page.rows ++ rows) (pages_are_whole all rising (range_after range page) (next ∷ pages) rest) ∙ next_page all rising range page is more

pub whole : (rows : Rows) (query : Query) (range : KeyRange) (pages : List RowPage) → ArePages (plain_answer rows query) range pages → all_rows pages ≡ rows_within range (plain_answer rows query)
whole rows query range pages are = pages_are_whole (plain_answer rows query) (answer_rises rows query) range pages are
