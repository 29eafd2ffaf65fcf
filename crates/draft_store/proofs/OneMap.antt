-- One map does with a draft what two do.
use Rattle.std.proofs.Common.{◌≡◌, ℕ, Bool, true, false, cond, not, List, [], ◌∷◌, ◌++◌, Option, Some, None, option_map, refl, sym, ap, subst, ◌∙◌, ◌⊎◌, inl, inr, arith, true≢false}
use Rattle.std.specs.Prelude.{◌≢◌, ◌&&◌, nat_lt}
use Rattle.std.specs.List.{AllByRecursion}
use Rattle.std.specs.declared.cmp.Ordering.{Ordering}
use Rattle.std.specs.declared.cmp.Ordering.TheVariants.{Less, Equal, Greater}
use Rattle.std.specs.Cmp.{Equal-is}
use Rattle.std.specs.Ordering.{is_lt, ordering_then, nat_cmp, eq_by_cmp}
use Rattle.std.specs.FinMap as map
use Rattle.std.specs.FinMap.Entries.{find}
use Rattle.std.proofs.lemmas.Bool.Decides.{nat_tests}
use Rattle.byte_map.specs.Sorted.{IsSorted}
use Rattle.byte_map.proofs.Entries.{find_none}
use Rattle.byte_map.proofs.Order.{first, second}
use Rattle.byte_map.proofs.Written.{written_all-append, tied, apart, same_or_apart, written_here, written_apart}
use Rattle.keycode.specs.Order.{bytes_cmp}
use Rattle.keycode.proofs.Orders.{bytes_cmp_total, bytes_cmp-IsAntisymmetric}
use Rattle.row_map.specs.Expect.{MissedInKeyRange, Holds}
use Rattle.row_map.specs.Ranges.{is_within}
use Rattle.row_map.specs.Rows.{Bytes, Pairs}
use Rattle.row_map.specs.Writes.{written, written_all}
use Rattle.row_map.specs.declared.expect.KeyRange.{KeyRange}
use Rattle.row_map.proofs.Entries.{each_entry}
use Rattle.txn_store.proofs.Changes.{laid_in_turn}
use Rattle.drafts.specs.declared.record.Record.{Record}
use Rattle.drafts.specs.Coded.{IsThereIn, MayApplyIn}
use Rattle.drafts.specs.Store.{Key, Draft}
use Rattle.drafts.proofs.Opens.{none_some, some_one}
use Rattle.record_code.specs.Drafts.{points_of, ranges_of, parts_of}
use Rattle.record_code.specs.Keys.{key_code}
use Rattle.record_code.specs.Records.{record_code}
use Rattle.draft_store.specs.Apply.{gathered, map_of, MissesPoint, MissesRange, AnyIn, Allows}
use Rattle.draft_store.specs.OneMap.{is_control, is_pair, sides, HasControl, ArePairs, IsPairRange, IsSided, OneMap}

-- ---- a side of the map

get_side : (p : Bytes → Bool) (one : Pairs) (q : Bytes) → map.get (map.retain_keys one p) q ≡ cond (p q) (map.get one q) None
get_side p one q = map.get-retain_keys one p q (λ x e. ap p (sym (bytes_cmp-IsAntisymmetric q x e)))

pub on_side : (p : Bytes → Bool) (one : Pairs) (q : Bytes) → p q ≡ true → map.get (map.retain_keys one p) q ≡ map.get one q
on_side p one q t = get_side p one q ∙ ap (λ b. cond b (map.get one q) None) t

off_side : (p : Bytes → Bool) (one : Pairs) (q : Bytes) → p q ≡ false → map.get (map.retain_keys one p) q ≡ None
off_side p one q t = get_side p one q ∙ ap (λ b. cond b (map.get one q) None) t

apart_side : (p : Bytes → Bool) (m : Pairs) (k : Bytes) (w : Option Bytes) (q : Bytes) → q ≢ k → map.get (map.retain_keys (written m k w) p) q ≡ map.get (map.retain_keys m p) q
apart_side p m k w q ne = get_side p (written m k w) q ∙ ap (λ (o : Option Bytes). cond (p q) o None) (written_apart bytes_cmp_total bytes_cmp-IsAntisymmetric m k w q ne) ∙ sym (get_side p m q)

written_on : (p : Bytes → Bool) (m : Pairs) (k : Bytes) (w : Option Bytes) → p k ≡ true → map.retain_keys (written m k w) p ≡ written (map.retain_keys m p) k w
written_on p m k w t = map.same_map bytes_cmp_total bytes_cmp-IsAntisymmetric _ _ (λ q. elim (same_or_apart bytes_cmp_total bytes_cmp-IsAntisymmetric q k) [
  | inl s ↦ subst (λ (x : Bytes). map.get (map.retain_keys (written m k w) p) x ≡ map.get (written (map.retain_keys m p) k w) x) (sym s)
      (on_side p (written m k w) k t ∙ written_here bytes_cmp_total bytes_cmp-IsAntisymmetric m k w ∙ sym (written_here bytes_cmp_total bytes_cmp-IsAntisymmetric (map.retain_keys m p) k w))
  | inr ne ↦ apart_side p m k w q ne ∙ sym (written_apart bytes_cmp_total bytes_cmp-IsAntisymmetric (map.retain_keys m p) k w q ne)
])

written_off : (p : Bytes → Bool) (m : Pairs) (k : Bytes) (w : Option Bytes) → p k ≡ false → map.retain_keys (written m k w) p ≡ map.retain_keys m p
written_off p m k w t = map.same_map bytes_cmp_total bytes_cmp-IsAntisymmetric _ _ (λ q. elim (same_or_apart bytes_cmp_total bytes_cmp-IsAntisymmetric q k) [
  | inl s ↦ subst (λ (x : Bytes). map.get (map.retain_keys (written m k w) p) x ≡ map.get (map.retain_keys m p) x) (sym s) (off_side p (written m k w) k t ∙ sym (off_side p m k t))
  | inr ne ↦ apart_side p m k w q ne
])

all_on : (p : Bytes → Bool) (m : Pairs) (ws : List (Bytes × Option Bytes)) → AllByRecursion (λ (w : Bytes × Option Bytes). p w.0 ≡ true) ws → map.retain_keys (written_all m ws) p ≡ written_all (map.retain_keys m p) ws
all_on p m [] h = refl
all_on p m (w ∷ ws) h = all_on p (written m w.0 w.1) ws h.1 ∙ ap (λ (x : Pairs). written_all x ws) (written_on p m w.0 w.1 h.0)

all_off : (p : Bytes → Bool) (m : Pairs) (ws : List (Bytes × Option Bytes)) → AllByRecursion (λ (w : Bytes × Option Bytes). p w.0 ≡ false) ws → map.retain_keys (written_all m ws) p ≡ map.retain_keys m p
all_off p m [] h = refl
all_off p m (w ∷ ws) h = all_off p (written m w.0 w.1) ws h.1 ∙ written_off p m w.0 w.1 h.0

-- ---- a list as a map

abbrev or_else : Option Bytes → Option Bytes → Option Bytes
or_else None o = o
or_else (Some v) o = Some v

or_none : (o : Option Bytes) → or_else o None ≡ o
or_none None = refl
or_none (Some v) = refl

get_gathered : (es : List (Bytes × Bytes)) (m : Pairs) (q : Bytes) → IsSorted es → map.get (gathered m es) q ≡ or_else (find bytes_cmp q es) (map.get m q)
get_gathered [] m q h = refl
get_gathered (e ∷ es) m q h =
    get_gathered es (map.insert m e.0 e.1) q (second _ _ h) ∙ ap (or_else (find bytes_cmp q es)) (map.get-insert bytes_cmp_total m e.0 e.1 q)
    ∙ elim (eq_by_cmp bytes_cmp q e.0) as (λ b. eq_by_cmp bytes_cmp q e.0 ≡ b → or_else (find bytes_cmp q es) (cond b (Some e.1) (map.get m q)) ≡ or_else (cond b (Some e.1) (find bytes_cmp q es)) (map.get m q)) [
      | true ↦ λ same. ap (λ (o : Option Bytes). or_else o (Some e.1)) (none_behind (bytes_cmp-IsAntisymmetric q e.0 ((Equal-is (bytes_cmp q e.0)).0 same)))
      | false ↦ λ differs. refl
    ] refl
  where
    none_behind : q ≡ e.0 → find bytes_cmp q es ≡ None
    none_behind same = ap (λ (k : Bytes). find bytes_cmp k es) same ∙ find_none es e.0 (first _ _ h)

map_of_entries : (m : Pairs) → map_of (map.entries m) ≡ m
map_of_entries m = map.same_map bytes_cmp_total bytes_cmp-IsAntisymmetric _ _ (λ q.
    get_gathered (map.entries m) map.empty q (map.entries_sorted m) ∙ ap (or_else (find bytes_cmp q (map.entries m))) (map.get-empty bytes_cmp q) ∙ or_none (find bytes_cmp q (map.entries m))
    ∙ sym (map.get-entries m q))

-- ---- parts of lists

module _ {X : Type 0} (P : X → Type 0) where
  in_first : (xs ys : List X) → AnyIn P xs → AnyIn P (xs ++ ys)
  in_first [] ys none = absurd none
  in_first (x ∷ xs) ys (inl own) = inl own
  in_first (x ∷ xs) ys (inr more) = inr (in_first xs ys more)

  in_second : (xs ys : List X) → AnyIn P ys → AnyIn P (xs ++ ys)
  in_second [] ys some = some
  in_second (x ∷ xs) ys some = inr (in_second xs ys some)

  in_either : (xs ys : List X) → AnyIn P (xs ++ ys) → AnyIn P xs ⊎ AnyIn P ys
  in_either [] ys some = inr some
  in_either (x ∷ xs) ys (inl own) = inl (inl own)
  in_either (x ∷ xs) ys (inr more) = elim (in_either xs ys more) [ inl some ↦ inl (inr some) | inr some ↦ inr some ]

-- ---- control records

same_if_not_apart : (o p : Option Bytes) → ¬ (o ≢ p) → o ≡ p
same_if_not_apart None None n = refl
same_if_not_apart None (Some w) n = absurd (n (λ e. none_some e))
same_if_not_apart (Some v) None n = absurd (n (λ e. none_some (sym e)))
same_if_not_apart (Some v) (Some w) n = elim (same_or_apart bytes_cmp_total bytes_cmp-IsAntisymmetric v w) [ inl e ↦ ap Some e | inr ne ↦ absurd (n (λ e. ne (some_one e))) ]

pub reads_there : (one : Pairs) (reads : List (Key × Option Record)) → AllByRecursion HasControl reads → ((key : Bytes) → ¬ (AnyIn (MissesPoint one key) (points_of reads))) → AllByRecursion (IsThereIn key_code record_code (sides one).control) reads
reads_there one [] h n = tt
reads_there one (e ∷ es) h n = (
  on_side is_control one (key_code e.0) h.0 ∙ same_if_not_apart (map.get one (key_code e.0)) (option_map record_code e.1) (λ ne. n (key_code e.0) (inl (refl, ne))),
  reads_there one es h.1 (λ key m. n key (inr m)),
)

none_missed : (one : Pairs) (reads : List (Key × Option Record)) → AllByRecursion HasControl reads → AllByRecursion (IsThereIn key_code record_code (sides one).control) reads → (key : Bytes) → ¬ (AnyIn (MissesPoint one key) (points_of reads))
none_missed one [] h at key none = none
none_missed one (e ∷ es) h at key (inl m) = m.1 (ap (map.get one) m.0 ∙ sym (on_side is_control one (key_code e.0) h.0) ∙ at.0)
none_missed one (e ∷ es) h at key (inr more) = none_missed one es h.1 at.1 key more

-- ---- points of pairs

in_entries : (one : Pairs) (es : List (Bytes × Option Bytes)) (key : Bytes) (wanted : Option Bytes) → find bytes_cmp key es ≡ Some wanted → map.get one key ≢ wanted → AnyIn (MissesPoint one key) es
in_entries one [] key wanted at ne = none_some at
in_entries one (e ∷ es) key wanted at ne = elim (same_or_apart bytes_cmp_total bytes_cmp-IsAntisymmetric key e.0) [
  | inl s ↦ inl (s, λ is. ne (is ∙ some_one (sym (ap (λ b. cond b (Some e.1) (find bytes_cmp key es)) (ap (eq_by_cmp bytes_cmp key) (sym s) ∙ tied bytes_cmp_total bytes_cmp-IsAntisymmetric key)) ∙ at)))
  | inr ne_key ↦ inr (in_entries one es key wanted (sym (ap (λ b. cond b (Some e.1) (find bytes_cmp key es)) (apart bytes_cmp_total bytes_cmp-IsAntisymmetric key e.0 ne_key)) ∙ at) ne)
]

no_entry : (one : Pairs) (es : List (Bytes × Option Bytes)) → AllByRecursion (λ (e : Bytes × Option Bytes). ¬ (map.get one e.0 ≢ e.1)) es → (key : Bytes) → ¬ (AnyIn (MissesPoint one key) es)
no_entry one [] all key none = none
no_entry one (e ∷ es) all key (inl m) = all.0 (λ x. m.1 (ap (map.get one) m.0 ∙ x))
no_entry one (e ∷ es) all key (inr more) = no_entry one es all.1 key more

-- ---- a range of pairs

not_below : (a b : Bool) → (not a && b) ≡ true → a ≡ false
not_below false b e = refl
not_below true b e = absurd (true≢false (sym e))

not_true : (b : Bool) → not b ≡ true → b ≡ false
not_true false e = refl
not_true true e = absurd (true≢false (sym e))

above_first : (k l : ℕ) (r : Ordering) → is_lt (ordering_then (nat_cmp k l) r) ≡ false → nat_lt l 4 ≡ false → nat_lt k 4 ≡ false
above_first k l r = elim (nat_cmp k l) as (λ o. nat_cmp k l ≡ o → is_lt (ordering_then o r) ≡ false → nat_lt l 4 ≡ false → nat_lt k 4 ≡ false) [
  | Less ↦ λ e below high. absurd (true≢false below)
  | Equal ↦ λ e below high. grind (arith, nat_tests)
  | Greater ↦ λ e below high. grind (arith, nat_tests)
] refl

pair_above : (low high key : Bytes) → is_pair low ≡ true → is_within low high key ≡ true → is_pair key ≡ true
pair_above [] high key p w = absurd (true≢false (sym p))
pair_above (l ∷ ls) high [] p w = absurd (true≢false (sym w))
pair_above (l ∷ ls) high (k ∷ ks) p w =
    ap not (above_first k l (bytes_cmp ks ls) (not_below (is_lt (bytes_cmp (k ∷ ks) (l ∷ ls))) (is_lt (bytes_cmp (k ∷ ks) high)) w) (not_true (nat_lt l 4) p))

range_in : (one : Pairs) (range : Option KeyRange) (key : Bytes) → IsPairRange range → MissedInKeyRange range (sides one).pairs key → AnyIn (MissesRange one key) (ranges_of range)
range_in one None key is none = absurd none
range_in one (Some part) key is m = inl (m.0, λ e. m.1 (on_side is_pair one key (pair_above part.low part.high key is m.0) ∙ e ∙ ap (λ (x : Pairs). map.get x key) (map_of_entries part.pairs)))

range_out : (one : Pairs) (range : Option KeyRange) (key : Bytes) → IsPairRange range → AnyIn (MissesRange one key) (ranges_of range) → MissedInKeyRange range (sides one).pairs key
range_out one None key is none = absurd none
range_out one (Some part) key is (inl m) = (m.0, λ e. m.1 (sym (on_side is_pair one key (pair_above part.low part.high key is m.0)) ∙ e ∙ ap (λ (x : Pairs). map.get x key) (sym (map_of_entries part.pairs))))
range_out one (Some part) key is (inr none) = absurd none

-- ---- what is allowed

module _ (draft : Draft) (one : Pairs) where
  pub reads_allowed : AllByRecursion HasControl draft.reads → Allows (parts_of draft) one → AllByRecursion (IsThereIn key_code record_code (sides one).control) draft.reads
  reads_allowed h allows = reads_there one draft.reads h (λ key m. allows key (inl (in_first (MissesPoint one key) (points_of draft.reads) (map.entries draft.expect.points) m)))

  pub pairs_allowed : ArePairs draft.expect.points → IsPairRange draft.expect.key_range → Allows (parts_of draft) one → Holds draft.expect (sides one).pairs
  pairs_allowed points range allows key (inl wanted) =
      allows key (inl (in_second (MissesPoint one key) (points_of draft.reads) (map.entries draft.expect.points)
      (in_entries one (map.entries draft.expect.points) key wanted.0 (sym (map.get-entries draft.expect.points key) ∙ wanted.1) (λ e. wanted.2 (on_side is_pair one key (points key wanted.0 wanted.1) ∙ e)))))
  pairs_allowed points range allows key (inr missed) = allows key (inr (range_in one draft.expect.key_range key range missed))

  allowed_by : IsSided draft → MayApplyIn key_code record_code draft (sides one) → Allows (parts_of draft) one
  allowed_by sided may key (inl point) = elim (in_either (MissesPoint one key) (points_of draft.reads) (map.entries draft.expect.points) point) [
    | inl control ↦ none_missed one draft.reads sided.reads may.control key control
    | inr pair ↦
        no_entry one (map.entries draft.expect.points)
        (each_entry bytes_cmp bytes_cmp_total bytes_cmp-IsAntisymmetric (λ q x. ¬ (map.get one q ≢ x)) draft.expect.points
        (λ q x at ne. may.pairs q (inl (x, at, λ e. ne (sym (on_side is_pair one q (sided.points q x at)) ∙ e)))))
        key pair
  ]
  allowed_by sided may key (inr range) = may.pairs key (inr (range_out one draft.expect.key_range key sided.range range))

-- ---- what is written

coded_control : (writes : List (Key × Option Record)) → AllByRecursion HasControl writes → AllByRecursion (λ (w : Bytes × Option Bytes). is_control w.0 ≡ true) (points_of writes)
coded_control [] h = tt
coded_control (w ∷ ws) h = (h.0, coded_control ws h.1)

all_not : (p : Bytes → Bool) (ws : List (Bytes × Option Bytes)) → AllByRecursion (λ (w : Bytes × Option Bytes). p w.0 ≡ true) ws → AllByRecursion (λ (w : Bytes × Option Bytes). not (p w.0) ≡ false) ws
all_not p [] h = tt
all_not p (w ∷ ws) h = (ap not h.0, all_not p ws h.1)

no_control : (ws : List (Bytes × Option Bytes)) → AllByRecursion (λ (w : Bytes × Option Bytes). is_pair w.0 ≡ true) ws → AllByRecursion (λ (w : Bytes × Option Bytes). is_control w.0 ≡ false) ws
no_control [] h = tt
no_control (w ∷ ws) h = (not_true (is_control w.0) h.0, no_control ws h.1)

pub one_map : OneMap
one_map draft one sided =
    let ws = points_of draft.writes in
    let us = map.entries draft.batch in
    let control : AllByRecursion (λ (w : Bytes × Option Bytes). is_control w.0 ≡ true) ws = coded_control draft.writes sided.writes in
    let pairs : AllByRecursion (λ (w : Bytes × Option Bytes). is_pair w.0 ≡ true) us = each_entry bytes_cmp bytes_cmp_total bytes_cmp-IsAntisymmetric (λ q x. is_pair q ≡ true) draft.batch sided.batch in
    let own = ap (λ (m : Pairs). map.retain_keys m is_control) (written_all-append one ws us) ∙ all_off is_control (written_all one ws) us (no_control us pairs) ∙ all_on is_control one ws control in
    let others =
    ap (λ (m : Pairs). map.retain_keys m is_pair) (written_all-append one ws us) ∙ all_on is_pair (written_all one ws) us pairs
    ∙ ap (λ (m : Pairs). written_all m us) (all_off is_pair one ws (all_not is_control ws control)) ∙ laid_in_turn draft.batch (map.retain_keys one is_pair) in
    record {
      allowed = (
        λ allows. record { control = reads_allowed draft one sided.reads allows; pairs = pairs_allowed draft one sided.points sided.range allows },
        λ may. allowed_by draft one sided may,
      );
      written_so = λ i. record { control = own i; pairs = others i };
    }
