-- What a query finds depends on what was read alone.
use Rattle.std.proofs.Common.{◌≡◌, ℕ, ◌<◌, ◌^◌, Bool, true, false, cond, ◌&&◌, ◌||◌, ◌==◌, not, List, [], ◌∷◌, ◌++◌, Option, Some, None, refl, sym, ap, ap₂, subst, ◌∙◌, option_map, is_some, Ok, arith, true≢false}
use Rattle.std.proofs.lemmas.List.{append-nil}
use Rattle.std.proofs.lemmas.Bool.Decides.{nat_tests}
use Rattle.std.specs.declared.cmp.Ordering.{Ordering}
use Rattle.std.specs.declared.cmp.Ordering.TheVariants.{Less, Equal, Greater}
use Rattle.std.specs.Ordering.{is_lt, nat_cmp, ordering_then}
use Rattle.std.specs.Cmp.{nat_cmp_total, tied_itself}
use Rattle.std.specs.Cmp.Lexicographic.{slice_cmp}
use Rattle.std.specs.Int.{w32, to_be_bytes}
use Rattle.std.specs.List.{AllByRecursion}
use Rattle.std.specs.FinMap as map
use Rattle.std.specs.FinMap.Entries.{find, same_entries}
use Rattle.keycode.specs.declared.value.Value.{Value}
use Rattle.keycode.specs.Code.{codes_of}
use Rattle.keycode.specs.Order.{bytes_cmp, values_cmp}
use Rattle.keycode.proofs.Orders.{bytes_cmp_total, bytes_cmp-IsAntisymmetric}
use Rattle.row_map.specs.declared.key.KeyOf.{KeyOf}
use Rattle.row_map.specs.declared.key.KeyOf.TheVariants.{Exists, Column, Index}
use Rattle.row_map.specs.Keys.{IsKey, key_code, row_code}
use Rattle.row_map.specs.Rows.{Bytes, Pairs}
use Rattle.row_map.specs.Ranges.{is_within}
use Rattle.row_map.specs.Walk.{key_range}
use Rattle.row_map.specs.Cell.{value_from}
use Rattle.row_map.specs.ReadKey.{key_at}
use Rattle.row_map.proofs.KeyLaws.{key_again, row_code_is}
use Rattle.row_map.proofs.KeyOrder.{row_keys, number_order}
use Rattle.row_map.proofs.KeyRanges.{key_range_sorted, find_key_range}
use Rattle.schema_version.specs.Version.{Version, live}
use Rattle.schema_version.specs.Sound.{IsSoundVersion}
use Rattle.element_state.specs.Elements.{HasForm, AreFormed}
use Rattle.row_query.specs.declared.query.Query.{Query}
use Rattle.row_query.specs.Answer.{is_named}
use Rattle.row_query.specs.inner.Bounds.{table_end}
use Rattle.row_query.specs.inner.Checks.{public_numbers}
use Rattle.row_query.specs.inner.Found.{row_of, row_in, key_of_row, row_key_in, rows_in}
use Rattle.row_query.proofs.Sorted.{all_found, same_given}
use Rattle.row_query.proofs.Rows.{same_number, is_number, low_tags, behind_prefix}
use Rattle.row_query.proofs.Columns.{named_column}
use Rattle.row_ask.specs.Remaining.{IsRead, row_end, AreRowsRead}

-- ---- the order of a row's keys

common : (p x y : List ℕ) → slice_cmp nat_cmp (p ++ x) (p ++ y) ≡ slice_cmp nat_cmp x y
common [] x y = refl
common (b ∷ p) x y = ap (λ o. ordering_then o (slice_cmp nat_cmp (p ++ x) (p ++ y))) (tied_itself nat_cmp_total b) ∙ common p x y

then_equal : (o : Ordering) → ordering_then o Equal ≡ o
then_equal Less = refl
then_equal Equal = refl
then_equal Greater = refl

last_order : (e f : ℕ) → e < 2 ^ 32 → f < 2 ^ 32 → slice_cmp nat_cmp (to_be_bytes w32 e) (to_be_bytes w32 f) ≡ nat_cmp e f
last_order e f p q =
    ap (λ l. slice_cmp nat_cmp l (to_be_bytes w32 f)) (sym (append-nil (to_be_bytes w32 e)))
    ∙ ap (slice_cmp nat_cmp (to_be_bytes w32 e ++ [])) (sym (append-nil (to_be_bytes w32 f)))
    ∙ number_order e f [] [] p q ∙ then_equal (nat_cmp e f)

-- the keys of one row's pairs stand by the element, whatever the row's key is
pub in_row : (table : ℕ) (key : List Value) (e f : ℕ) → e < 2 ^ 32 → f < 2 ^ 32 → bytes_cmp (row_code table key e) (row_code table key f) ≡ nat_cmp e f
in_row table key e f p q =
    ap (λ l. slice_cmp nat_cmp l (row_code table key f)) (row_code_is table key e)
    ∙ ap (slice_cmp nat_cmp (82 ∷ (to_be_bytes w32 table ++ (codes_of key ++ to_be_bytes w32 e)))) (row_code_is table key f)
    ∙ common (to_be_bytes w32 table) (codes_of key ++ to_be_bytes w32 e) (codes_of key ++ to_be_bytes w32 f)
    ∙ common (codes_of key) (to_be_bytes w32 e) (to_be_bytes w32 f)
    ∙ last_order e f p q

not_lower : (e : ℕ) → is_lt (nat_cmp e 0) ≡ false
not_lower e = grind (arith, nat_tests)

lower : (e f : ℕ) → e < f → is_lt (nat_cmp e f) ≡ true
lower e f lt = grind (arith, nat_tests)

row_within_itself : (table : ℕ) (key : List Value) (e : ℕ) → e < 2 ^ 24 → is_within (row_code table key 0) (row_end table key) (row_code table key e) ≡ true
row_within_itself table key e lt =
    ap (λ b. not b && is_lt (bytes_cmp (row_code table key e) (row_end table key))) (ap is_lt (in_row table key e 0 (omega arith) (omega arith)) ∙ not_lower e)
    ∙ ap is_lt (in_row table key e 16777216 (omega arith) (omega arith)) ∙ lower e 16777216 (omega arith)

-- ---- what was read

within_get : (pairs : Pairs) (low high q : Bytes) → is_within low high q ≡ true → find bytes_cmp q (key_range pairs low high) ≡ map.get pairs q
within_get pairs low high q w = find_key_range pairs low high q ∙ ap (λ b. cond b (map.get pairs q) None) w

pub read_get : (store read : Pairs) (low high q : Bytes) → IsRead store read low high → is_within low high q ≡ true → map.get read q ≡ map.get store q
read_get store read low high q same w = sym (within_get read low high q w) ∙ ap (find bytes_cmp q) same ∙ within_get store low high q w

-- ---- one row

abbrev pub AreFew : List ℕ → Type 0
AreFew = AllByRecursion (λ c. c < 2 ^ 24)

-- two stores have the same pairs of a row
abbrev pub IsSameRow : Pairs → Pairs → ℕ → List Value → Type 0
IsSameRow store read table key = (e : ℕ) → e < 2 ^ 24 → map.get read (row_code table key e) ≡ map.get store (row_code table key e)

pub same_row : (store read : Pairs) (columns : List ℕ) (query : Query) (key : List Value) → AreFew columns → IsSameRow store read query.table key → row_in read columns query key ≡ row_in store columns query key
unfolding row_in
same_row store read columns query key few same =
    ap₂ (λ (o : Option Bytes) (cells : List (ℕ × Value)). cond (is_some o) (row_of query key cells) None) (same 0 (omega arith))
    (same_given (λ c. c < 2 ^ 24) (λ c. option_map (λ v. (c, v)) (value_from (map.get read (row_code query.table key c)))) (λ c. option_map (λ v. (c, v)) (value_from (map.get store (row_code query.table key c))))
    (λ c lt. ap (λ (o : Option Bytes). option_map (λ v. (c, v)) (value_from o)) (same c lt)) columns few)

pub whole_row : (store read : Pairs) (table : ℕ) (key : List Value) → IsRead store read (row_code table key 0) (row_end table key) → IsSameRow store read table key
whole_row store read table key is e lt = read_get store read (row_code table key 0) (row_end table key) (row_code table key e) is (row_within_itself table key e lt)

pub same_rows : (store read : Pairs) (columns : List ℕ) (query : Query) (keys : List (List Value)) → AreFew columns → AreRowsRead store read query.table keys → rows_in read columns query keys ≡ rows_in store columns query keys
same_rows store read columns query keys few all =
    same_given (λ key. IsRead store read (row_code query.table key 0) (row_end query.table key)) (row_in read columns query) (row_in store columns query)
    (λ key is. same_row store read columns query key few (whole_row store read query.table key is)) keys all

-- ---- a version's columns

or_here : (a b : Bool) → a ≡ true → (a || b) ≡ true
or_here true b e = refl
or_here false b e = absurd (true≢false (sym e))

or_later : (a b : Bool) → b ≡ true → (a || b) ≡ true
or_later true b e = refl
or_later false b e = e

all_named : (P : ℕ → Type 0) (ns : List ℕ) → ((n : ℕ) → is_named ns n ≡ true → P n) → AllByRecursion P ns
all_named P [] h = tt
all_named P (x ∷ xs) h = (h x (or_here (x == x) _ (same_number x)), all_named P xs (λ n e. h n (or_later (n == x) _ e)))

pub few_columns : (v : Version) → IsSoundVersion v → (table : ℕ) → AreFew (public_numbers (live v) table)
few_columns v sound table = all_named (λ c. c < 2 ^ 24) (public_numbers (live v) table) (λ n e.
    let c = named_column v sound table n e in
    let s = sound.elements n c.1.element c.1.known in
    omega (arith, s.given, sound.few_elements))

-- ---- a page

-- a key at which a page can end: a row's pairs stand on one side of it
abbrev pub IsCut : ℕ → Bytes → Type 0
IsCut table cut = (key : List Value) (e : ℕ) → IsKey (Exists table key) → e < 2 ^ 24 → bytes_cmp (row_code table key 0) cut ≡ Less → bytes_cmp (row_code table key e) cut ≡ Less

less_back : (o p : Ordering) → ordering_then o Equal ≡ Less → ordering_then o p ≡ Less
less_back Less p e = refl
less_back Equal p e = absurd cc
less_back Greater p e = absurd cc

pub cut_at_row : (table : ℕ) (key : List Value) → IsKey (Exists table key) → IsCut table (row_code table key 0)
cut_at_row table key form other e own lt below =
    row_keys table table other key e 0 own.0 own.0 own.1.values form.1.values lt (omega arith)
    ∙ ap (λ o. ordering_then o (ordering_then (values_cmp other key) (nat_cmp e 0))) (tied_itself nat_cmp_total table)
    ∙ less_back (values_cmp other key) (nat_cmp e 0) (sym (ap (λ o. ordering_then o (ordering_then (values_cmp other key) Equal)) (tied_itself nat_cmp_total table))
    ∙ sym (row_keys table table other key 0 0 own.0 own.0 own.1.values form.1.values (omega arith) (omega arith)) ∙ below)

pub below_end : (table : ℕ) (key : List Value) (e : ℕ) → IsKey (Exists table key) → bytes_cmp (row_code table key e) (table_end table) ≡ Less
below_end table key e form =
    ap (λ l. bytes_cmp l (table_end table)) (row_code_is table key e)
    ∙ behind_prefix table (codes_of key ++ to_be_bytes w32 e) (5 ∷ []) form.0 ∙ low_tags key (to_be_bytes w32 e) (omega (arith, form.1.low_number))

pub cut_at_end : (table : ℕ) → IsCut table (table_end table)
cut_at_end table key e form lt below = below_end table key e form

-- an `exists` pair is the pair of one row
pub row_key_is : (table : ℕ) (bytes : List ℕ) (key : List Value) → HasForm bytes → row_key_in table bytes ≡ Some key → (bytes ≡ row_code table key 0) × IsKey (Exists table key)
unfolding row_key_in
row_key_is table bytes key form e = from form.key form.form form.encoded
  where
    from : (k : KeyOf) → IsKey k → bytes ≡ key_code k → (bytes ≡ row_code table key 0) × IsKey (Exists table key)
    from k f is = of k f is (ap (key_of_row table) (sym (ap key_at is ∙ key_again k f)) ∙ e)
      where
        of : (k : KeyOf) → IsKey k → bytes ≡ key_code k → key_of_row table (Ok k) ≡ Some key → (bytes ≡ row_code table key 0) × IsKey (Exists table key)
        of (Exists t other) f is e =
            elim (t == table) as (λ b. (t == table) ≡ b → cond b (Some other) None ≡ Some key → (bytes ≡ row_code table key 0) × IsKey (Exists table key)) [
              | true ↦ λ s g.
                  let table_is : t ≡ table = is_number t table s in
                  let key_is : other ≡ key = cc in
                  (is ∙ ap (λ t. row_code t other 0) table_is ∙ ap (λ k. row_code table k 0) key_is, subst (λ k. IsKey (Exists table k)) key_is (subst (λ t. IsKey (Exists t other)) table_is f))
              | false ↦ λ s g. absurd cc
            ] refl e
        of (Column t other element) f is e = absurd cc
        of (Index element values) f is e = absurd cc

-- a pair of the range, whose key has one of the forms
abbrev pub IsAmong : Bytes → Bytes → Bytes × Bytes → Type 0
IsAmong low high p = (is_within low high p.0 ≡ true) × HasForm p.0

some_in : {A : Type 0} (b : Bool) (o : Option A) (v : A) → cond b o None ≡ Some v → (b ≡ true) × (o ≡ Some v)
some_in true o v e = (refl, e)
some_in false o v e = absurd cc

pub all_among : (store : Pairs) → AreFormed store → (low high : Bytes) → AllByRecursion (IsAmong low high) (key_range store low high)
all_among store forms low high =
    all_found bytes_cmp_total bytes_cmp-IsAntisymmetric (IsAmong low high) (key_range store low high) (key_range_sorted store low high) (λ q x is.
    let h = some_in (is_within low high q) (map.get store q) x (sym (find_key_range store low high q) ∙ is) in
    (h.0, forms q x h.1))

-- what was read of a range was read of its parts
pub read_part : (store read : Pairs) (low high from to : Bytes) → IsRead store read low high → ((q : Bytes) → is_within from to q ≡ true → is_within low high q ≡ true) → IsRead store read from to
read_part store read low high from to is inside =
    same_entries bytes_cmp bytes_cmp_total bytes_cmp-IsAntisymmetric (key_range read from to) (key_range store from to) (key_range_sorted read from to) (key_range_sorted store from to)
    (λ q. find_key_range read from to q ∙ by q (is_within from to q) refl ∙ sym (find_key_range store from to q))
  where
    by : (q : Bytes) (b : Bool) → is_within from to q ≡ b → cond b (map.get read q) None ≡ cond b (map.get store q) None
    by q true w = read_get store read low high q is (inside q w)
    by q false w = refl
