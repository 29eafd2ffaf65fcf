-- The pieces of a begin share its range.
use Rattle.std.proofs.Common.{◌≡◌, ℕ, zero, suc, ◌+◌, ◌*◌, ◌/◌, ◌<◌, ◌≤◌, ◌^◌, Bool, true, false, not, ◌&&◌, cond, T, List, [], ◌∷◌, ◌++◌, length, refl, sym, ap, subst, ◌∙◌, arith, slice_get, unwrap_or, if◌then◌else◌, nat_lt, ◌==◌, true≢false, add-one}
use Rattle.std.proofs.Math.Nat.{div-mul-le_self, mul-div_cancel_left}
use Rattle.std.proofs.lemmas.Nat.{le-div}
use Rattle.std.proofs.lemmas.Option.{slice_get_past}
use Rattle.std.proofs.lemmas.Bool.Decides.{nat_tests}
use Rattle.std.specs.Ordering.{is_lt, is_le, nat_cmp, ordering_then}
use Rattle.std.specs.declared.cmp.Ordering.{Ordering}
use Rattle.std.specs.declared.cmp.Ordering.TheVariants.{Less, Equal, Greater}
use Rattle.std.specs.Int.{w32, to_be_bytes}
use Rattle.std.specs.FinMap as map
use Rattle.std.specs.FinMap.Entries.{is_sorted, below_all}
use Rattle.std.proofs.lemmas.List.{append-nil}
use Rattle.row_map.proofs.KeyOrder.{number_order}
use Rattle.keycode.specs.Order.{bytes_cmp}
use Rattle.row_map.specs.Rows.{Bytes, Pairs}
use Rattle.row_map.specs.Ranges.{is_within}
use Rattle.std.specs.FinMap.Entries.{where_key}
use Rattle.reorganise.proofs.Order.{le, le_trans, le_itself, less_le, less_of, within_is, within_parts}
use Rattle.reorganise.specs.declared.scan_range.ScanRange.{ScanRange}
use Rattle.reorganise.specs.declared.scan_range.ScanRange.TheVariants.{Rows, Entries}
use Rattle.reorganise.specs.declared.work.Span.{Span}
use Rattle.reorganise.specs.ScanRanges.{prefix, prefix_end, start, end, is_item, item_keys, items}
use Rattle.reorganise.specs.Pieces.{bound, span_at, spans}
use Rattle.reorganise.specs.Partition.{AreJoined, holders, IsPartition}
use Rattle.reorganise.proofs.Items.{Pair, item_keys-cons}

-- ---- joined pieces are a partition

off_right : (a : Bool) → (a && false) ≡ false
off_right true = refl
off_right false = refl

-- a key in [low, mid) or [mid, high): the tests at low, mid and high
shared : (l m h : Bool) → (m ≡ true → l ≡ true) → (h ≡ true → m ≡ true) → (if l && not m then 1 else 0) + (if m && not h then 1 else 0) ≡ (if l && not h then 1 else 0)
shared true true true p q = refl
shared true true false p q = refl
shared true false true p q = absurd (true≢false (sym (q refl)))
shared true false false p q = refl
shared false true h p q = absurd (true≢false (sym (p refl)))
shared false false true p q = absurd (true≢false (sym (q refl)))
shared false false false p q = refl

never_both : (t : Bool) → ◌≡◌ {A = ℕ} 0 (if t && not t then 1 else 0)
never_both true = refl
never_both false = refl

pub joined_le : (low high : Bytes) (pieces : List Span) → AreJoined low high pieces → le low high ≡ true
joined_le low high [] j = subst (λ x. le low x ≡ true) j (le_itself low)
joined_le low high (s ∷ ss) j = le_trans low s.high high (subst (λ x. le x s.high ≡ true) j.0 j.1) (joined_le s.high high ss j.2)

pub partition : (low high : Bytes) (pieces : List Span) → AreJoined low high pieces → IsPartition low high pieces
partition low high [] j key =
    never_both (le low key) ∙ ap (λ b. if b then 1 else 0) (sym (within_is low low key)) ∙ ap (λ x. if is_within low x key then 1 else 0) j
partition low high (s ∷ ss) j key =
    ap (λ x. (if is_within x s.high key then 1 else 0) + holders key ss) j.0
    ∙ ap (λ n. (if is_within low s.high key then 1 else 0) + n) (partition s.high high ss j.2 key)
    ∙ ap (λ b. (if b then 1 else 0) + (if is_within s.high high key then 1 else 0)) (within_is low s.high key)
    ∙ ap (λ b. (if le low key && not (le s.high key) then 1 else 0) + (if b then 1 else 0)) (within_is s.high high key)
    ∙ shared (le low key) (le s.high key) (le high key) (λ e. le_trans low s.high key (subst (λ x. le x s.high ≡ true) j.0 j.1) e) (λ e. le_trans s.high high key (joined_le s.high high ss j.2) e)
    ∙ ap (λ b. if b then 1 else 0) (sym (within_is low high key))

pub joined_more : (low mid high : List ℕ) (pieces : List Span) (s : Span) → AreJoined low mid pieces → s.low ≡ mid → le s.low s.high ≡ true → s.high ≡ high → AreJoined low high (pieces ++ s ∷ [])
joined_more low mid high [] s j low_is at high_is = (low_is ∙ sym j, at, high_is)
joined_more low mid high (p ∷ ps) s j low_is at high_is = (j.0, j.1, joined_more p.high mid high ps s j.2 low_is at high_is)

-- ---- the keys of items rise

abbrev pub AreRising : List ℕ → List ℕ → List Bytes → Type 0
AreRising low high [] = le low high ≡ true
AreRising low high (key ∷ keys) = (le low key ≡ true) × AreRising key high keys

rising_le : (low high : Bytes) (keys : List Bytes) → AreRising low high keys → le low high ≡ true
rising_le low high [] r = r
rising_le low high (key ∷ keys) r = le_trans low key high r.0 (rising_le key high keys r.1)

-- the key at a place, or the end
abbrev pub at_or : List Bytes → List ℕ → ℕ → List ℕ
at_or keys high i = unwrap_or (slice_get keys i) high

low_at : (low high : Bytes) (keys : List Bytes) (i : ℕ) → AreRising low high keys → le low (at_or keys high i) ≡ true
low_at low high [] i r = r
low_at low high (key ∷ keys) zero r = r.0
low_at low high (key ∷ keys) (suc i) r = le_trans low key (at_or keys high i) r.0 (low_at key high keys i r.1)

at_rising : (low high : Bytes) (keys : List Bytes) (i j : ℕ) → i ≤ j → AreRising low high keys → le (at_or keys high i) (at_or keys high j) ≡ true
at_rising low high [] i j h r = le_itself high
at_rising low high (key ∷ keys) zero zero h r = le_itself key
at_rising low high (key ∷ keys) zero (suc j) h r = low_at key high keys j r.1
at_rising low high (key ∷ keys) (suc i) zero h r = absurd (omega arith)
at_rising low high (key ∷ keys) (suc i) (suc j) h r = at_rising key high keys i j (omega arith) r.1

place_rising : (k n p : ℕ) → 0 < p → (k * n) / p ≤ ((k + 1) * n) / p
place_rising k n p some =
    let at_most : (k * n) / p * p ≤ k * n = div-mul-le_self (k * n) p in
    let more : (k + 1) * n ≡ k * n + n = grind arith in
    le-div ((k * n) / p) ((k + 1) * n) p some (omega (arith, at_most, more))

not_zero : (k : ℕ) → ((k + 1) == 0) ≡ false
not_zero k = grind (arith, nat_tests)

bound_at : (scan_range : ScanRange) (keys : List Bytes) (pieces k : ℕ) → (k == 0) ≡ false → bound scan_range keys pieces k ≡ at_or keys (end scan_range) ((k * length keys) / pieces)
bound_at scan_range keys pieces k e = ap (λ b. if b then start scan_range else at_or keys (end scan_range) ((k * length keys) / pieces)) e

suc_not_zero : (k : ℕ) → (suc k == 0) ≡ false
suc_not_zero k = grind (arith, nat_tests)

bound_rising : (scan_range : ScanRange) (keys : List Bytes) (pieces k : ℕ) → 0 < pieces → AreRising (start scan_range) (end scan_range) keys → le (bound scan_range keys pieces k) (bound scan_range keys pieces (k + 1)) ≡ true
bound_rising scan_range keys pieces zero some r =
    ap (le (start scan_range)) (bound_at scan_range keys pieces (0 + 1) (not_zero 0)) ∙ low_at (start scan_range) (end scan_range) keys (((0 + 1) * length keys) / pieces) r
bound_rising scan_range keys pieces (suc k) some r =
    ap (λ x. le x (bound scan_range keys pieces (suc k + 1))) (bound_at scan_range keys pieces (suc k) (suc_not_zero k))
    ∙ ap (le (at_or keys (end scan_range) ((suc k * length keys) / pieces))) (bound_at scan_range keys pieces (suc k + 1) (not_zero (suc k)))
    ∙ at_rising (start scan_range) (end scan_range) keys ((suc k * length keys) / pieces) (((suc k + 1) * length keys) / pieces) (place_rising (suc k) (length keys) pieces some) r

some_not_zero : (n : ℕ) → 0 < n → (n == 0) ≡ false
some_not_zero n some = grind (arith, nat_tests)

pub bound_last : (scan_range : ScanRange) (keys : List Bytes) (pieces : ℕ) → 0 < pieces → bound scan_range keys pieces pieces ≡ end scan_range
bound_last scan_range keys pieces some =
    bound_at scan_range keys pieces pieces (some_not_zero pieces some)
    ∙ ap (at_or keys (end scan_range)) (mul-div_cancel_left (length keys) some)
    ∙ ap (λ o. unwrap_or o (end scan_range)) (slice_get_past keys (length keys) (omega arith))

pub spans_joined : (scan_range : ScanRange) (keys : List Bytes) (pieces k : ℕ) → 0 < pieces → AreRising (start scan_range) (end scan_range) keys → AreJoined (start scan_range) (bound scan_range keys pieces k) (spans scan_range keys pieces k)
spans_joined scan_range keys pieces zero some r = refl
spans_joined scan_range keys pieces (suc k) some r =
    joined_more (start scan_range) (bound scan_range keys pieces k) (bound scan_range keys pieces (suc k)) (spans scan_range keys pieces k) (span_at scan_range keys pieces k) (spans_joined scan_range keys pieces k some r) refl (bound_rising scan_range keys pieces k some r) (ap (bound scan_range keys pieces) (add-one k))

-- ---- the items of a store rise

abbrev pub between : Bytes → Bytes → List Pair → List Pair
between a b = where_key bytes_cmp (is_within a b)

-- what is within the range is not below low
abbrev pub AllFrom : List ℕ → Bytes → Bytes → List Pair → Type 0
AllFrom a high low [] = Unit {0}
AllFrom a high low (e ∷ es) = (is_within a high e.0 ≡ true → le low e.0 ≡ true) × AllFrom a high low es

first_of : (a b : Bool) → T (a && b) → T a
first_of true b p = tt
first_of false b p = absurd p

second_of : (a b : Bool) → T (a && b) → T b
second_of true b p = p
second_of false b p = absurd p

is_true : (b : Bool) → T b → b ≡ true
is_true true p = refl
is_true false p = absurd p

all_behind : (a high low : List ℕ) (es : List Pair) → T (below_all bytes_cmp low es) → AllFrom a high low es
all_behind a high low [] s = tt
all_behind a high low (e ∷ es) s = (λ _. less_le low e.0 (less_of (bytes_cmp low e.0) (is_true (is_lt (bytes_cmp low e.0)) (first_of _ _ s))), all_behind a high low es (second_of _ _ s))

all_front : (a high : List ℕ) (es : List Pair) → AllFrom a high a es
all_front a high [] = tt
all_front a high (e ∷ es) = (λ w. (within_parts a high e.0 w).0, all_front a high es)

rising : (scan_range : ScanRange) (a high low : List ℕ) (es : List Pair) → AllFrom a high low es → T (is_sorted bytes_cmp es) → le low high ≡ true → AreRising low high (item_keys scan_range (between a high es))
rising scan_range a high low [] from s at = at
rising scan_range a high low (e ∷ es) from s at =
    elim (is_within a high e.0) as (λ b. is_within a high e.0 ≡ b → AreRising low high (item_keys scan_range (cond b (e ∷ between a high es) (between a high es)))) [
      | true ↦ λ w. elim (is_item scan_range e.0) as (λ b. is_item scan_range e.0 ≡ b → AreRising low high (item_keys scan_range (e ∷ between a high es))) [
        | true ↦ λ item. subst (AreRising low high) (sym (item_keys-cons scan_range e (between a high es) true item))
            (from.0 w, rising scan_range a high e.0 es (all_behind a high e.0 es (first_of _ _ s)) (second_of _ _ s) (less_le e.0 high (within_parts a high e.0 w).1))
        | false ↦ λ item. subst (AreRising low high) (sym (item_keys-cons scan_range e (between a high es) false item)) (rising scan_range a high low es from.1 (second_of _ _ s) at)
      ] refl
      | false ↦ λ w. rising scan_range a high low es from.1 (second_of _ _ s) at
    ] refl

-- ---- the range

then_equal : (o : Ordering) → ordering_then o Equal ≡ o
then_equal Less = refl
then_equal Equal = refl
then_equal Greater = refl

numbers : (m n : ℕ) → m < 2 ^ 32 → n < 2 ^ 32 → bytes_cmp (to_be_bytes w32 m) (to_be_bytes w32 n) ≡ nat_cmp m n
numbers m n p q =
    ap (λ l. bytes_cmp l (to_be_bytes w32 n)) (sym (append-nil (to_be_bytes w32 m)))
    ∙ ap (bytes_cmp (to_be_bytes w32 m ++ [])) (sym (append-nil (to_be_bytes w32 n)))
    ∙ number_order m n [] [] p q ∙ then_equal (nat_cmp m n)

prefix_rises : (tag n : ℕ) → nat_cmp tag tag ≡ Equal → nat_cmp tag (tag + 1) ≡ Less → le (prefix tag n) (prefix_end tag n) ≡ true
prefix_rises tag n same more = by_test (nat_lt (n + 1) (2 ^ 32)) refl
  where
    by_test : (b : Bool) → nat_lt (n + 1) (2 ^ 32) ≡ b → le (prefix tag n) (if b then prefix tag (n + 1) else (tag + 1) ∷ []) ≡ true
    by_test true e =
        ap (λ o. is_le (ordering_then o (bytes_cmp (to_be_bytes w32 n) (to_be_bytes w32 (n + 1))))) same
        ∙ ap is_le (numbers n (n + 1) (grind (arith, nat_tests, e)) (grind (arith, nat_tests, e))) ∙ grind (arith, nat_tests)
    by_test false e = ap (λ o. is_le (ordering_then o (bytes_cmp (to_be_bytes w32 n) []))) more

range_rises : (scan_range : ScanRange) → le (start scan_range) (end scan_range) ≡ true
range_rises (Rows table) = prefix_rises 82 table refl refl
range_rises (Entries number) = prefix_rises 88 number refl refl

pub begun_joined : (scan_range : ScanRange) (pairs : Pairs) (pieces : ℕ) → 0 < pieces → AreJoined (start scan_range) (end scan_range) (spans scan_range (items scan_range pairs) pieces pieces)
begun_joined scan_range pairs pieces some =
    subst (λ x. AreJoined (start scan_range) x (spans scan_range (items scan_range pairs) pieces pieces)) (bound_last scan_range (items scan_range pairs) pieces some)
    (spans_joined scan_range (items scan_range pairs) pieces pieces some
    (rising scan_range (start scan_range) (end scan_range) (start scan_range) (map.entries pairs) (all_front (start scan_range) (end scan_range) (map.entries pairs)) (map.entries_sorted pairs) (range_rises scan_range)))
