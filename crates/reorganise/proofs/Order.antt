-- The pairs between two keys, and the first key above a key.
use Rattle.std.proofs.Common.{◌≡◌, ◌≢◌, Bool, true, false, not, ◌&&◌, cond, T, List, [], ◌∷◌, ◌++◌, true≢false, append-nil, Option, Some, None, refl, sym, ap, subst, ◌∙◌}
use Rattle.std.specs.declared.cmp.Ordering.{Ordering}
use Rattle.std.specs.declared.cmp.Ordering.TheVariants.{Less, Equal, Greater}
use Rattle.std.specs.Ordering.{is_lt, is_le, is_eq, eq_by_cmp}
use Rattle.std.specs.Cmp.{tied_itself}
use Rattle.std.specs.FinMap as map
use Rattle.std.specs.FinMap.Entries.{find, is_sorted, same_entries, find-append}
use Rattle.byte_map.proofs.Order.{bytes_cmp_total, bytes_cmp-IsAntisymmetric}
use Rattle.byte_map.proofs.Entries.{find_none, below_from}
use Rattle.keycode.specs.Order.{bytes_cmp}
use Rattle.row_map.specs.Rows.{Bytes, Pairs}
use Rattle.row_map.specs.Ranges.{is_within}
use Rattle.row_map.specs.Walk.{key_range, after}
pub use Rattle.row_map.proofs.Splits.{le, lt_is, le_trans, le_itself, less_le, less_of, and_true, from_is, within_is, within_parts, parts_within, less_le_less, join, some_in}
use Rattle.row_map.proofs.Splits.{not_true, off, both_first}
use Rattle.row_map.proofs.Walks.{below_after}
use Rattle.byte_map.specs.Walk.{IsNext}
use Rattle.row_map.proofs.KeyRanges.{find_key_range, key_range_sorted, key_range_past, key_range_next}
use Rattle.reorganise.specs.Pieces.{part}
use Rattle.reorganise.proofs.Items.{Pair, Begins}

-- ---- the first key above a key

pub le_after : (k : Bytes) → le k (after k) ≡ true
le_after k = less_le k (after k) (less_of (bytes_cmp k (after k)) (below_after k k ∙ le_itself k))

pub after_le : (k high : Bytes) → bytes_cmp k high ≡ Less → le (after k) high ≡ true
after_le k high e = end (le (after k) high) (sym (lt_is high (after k)) ∙ below_after high k) (not_true (le high k) (sym (lt_is k high) ∙ ap is_lt e))
  where
    end : (t : Bool) → not t ≡ le high k → le high k ≡ false → t ≡ true
    end true e h = refl
    end false e h = absurd (true≢false (e ∙ h))

-- ---- key ranges of pairs

none_out : {A : Type 0} (b : Bool) (o : Option A) → b ≡ false → cond b o None ≡ None
none_out b o e = ap (λ t. cond t o None) e

not_both : (t : Bool) → (t && not t) ≡ false
not_both true = refl
not_both false = refl

-- none stands from a key to below it
pub key_range_itself : (pairs : Pairs) (a : Bytes) → key_range pairs a a ≡ []
key_range_itself pairs a =
    same_entries bytes_cmp bytes_cmp_total bytes_cmp-IsAntisymmetric (key_range pairs a a) [] (key_range_sorted pairs a a) tt
    (λ q. find_key_range pairs a a q ∙ none_out (is_within a a q) (map.get pairs q) (within_is a a q ∙ not_both (le a q)))

not_less : (x a : Bytes) → le a x ≡ true → bytes_cmp x a ≢ Less
not_less x a e less = true≢false (sym (ap is_lt less) ∙ lt_is x a ∙ ap not e)

below_apart : (q x : Bytes) → bytes_cmp q x ≡ Less → eq_by_cmp bytes_cmp q x ≡ false
below_apart q x e = ap is_eq e

below_outside : (q x high : Bytes) → bytes_cmp q x ≡ Less → is_within (after x) high q ≡ false
below_outside q x high e =
    within_is (after x) high q
    ∙ ap (λ t. t && not (le high q)) (not_true (le (after x) q) (sym (lt_is q (after x)) ∙ below_after q x ∙ ap is_le e))

-- a key range that begins with a pair
module _ (pairs : Pairs) (low high : Bytes) (p : Pair) (behind : List Pair) (f : key_range pairs low high ≡ p ∷ behind) where
  found : cond (is_within low high p.0) (map.get pairs p.0) None ≡ Some p.1
  found =
      sym (find_key_range pairs low high p.0) ∙ ap (find bytes_cmp p.0) f
      ∙ ap (λ r. cond (is_eq r) (Some p.1) (find bytes_cmp p.0 behind)) (tied_itself bytes_cmp_total p.0)

  here : map.get pairs p.0 ≡ Some p.1
  here = (some_in (is_within low high p.0) (map.get pairs p.0) p.1 found).1

  at_low : le low p.0 ≡ true
  at_low = (within_parts low high p.0 (some_in (is_within low high p.0) (map.get pairs p.0) p.1 found).0).0

  below : bytes_cmp p.0 high ≡ Less
  below = (within_parts low high p.0 (some_in (is_within low high p.0) (map.get pairs p.0) p.1 found).0).1

  none_before : (q : Bytes) → bytes_cmp q low ≢ Less → bytes_cmp q p.0 ≡ Less → map.get pairs q ≡ None
  none_before q from less =
      let inside : is_within low high q ≡ true = ap (λ t. t && is_lt (bytes_cmp q high)) (reached (bytes_cmp q low) from) ∙ ap is_lt (bytes_cmp_total.trans q p.0 high less below) in
      let sorted : T (is_sorted bytes_cmp (p ∷ behind)) = subst (λ (l : List Pair). T (is_sorted bytes_cmp l)) f (key_range_sorted pairs low high) in
      sym (ap (λ t. cond t (map.get pairs q) None) inside)
      ∙ sym (find_key_range pairs low high q) ∙ ap (find bytes_cmp q) f
      ∙ ap (λ t. cond t (Some p.1) (find bytes_cmp q behind)) (below_apart q p.0 less)
      ∙ find_none behind q (below_from q p.0 behind less (both_first _ _ sorted))
    where
      reached : (o : Ordering) → o ≢ Less → not (is_lt o) ≡ true
      reached Less n = absurd (n refl)
      reached Equal n = refl
      reached Greater n = refl

  first_next : IsNext pairs low p
  first_next = record { here = here; reached = not_less p.0 low at_low; first = none_before }

  pub begins : Begins pairs low high p
  begins = key_range_next pairs low high p first_next below

module _ (pairs : Pairs) (low high : Bytes) (p : Pair) (f : Begins pairs low high p) where
  pub first_here : map.get pairs p.0 ≡ Some p.1
  first_here = here pairs low high p (key_range pairs (after p.0) high) f

  pub first_reached : le low p.0 ≡ true
  first_reached = at_low pairs low high p (key_range pairs (after p.0) high) f

  pub first_below : bytes_cmp p.0 high ≡ Less
  first_below = below pairs low high p (key_range pairs (after p.0) high) f

  next : IsNext pairs low p
  next = first_next pairs low high p (key_range pairs (after p.0) high) f

  -- no pair from another start than those before low
  pub first_before : (start : Bytes) → le start low ≡ true → key_range pairs start p.0 ≡ key_range pairs start low
  first_before start at =
      join pairs start low p.0 at first_reached
      ∙ ap (λ l. key_range pairs start low ++ l) (key_range_past pairs low p.0 p next (not_less p.0 p.0 (le_itself p.0)))
      ∙ append-nil (key_range pairs start low)

  -- the pairs so far, and one more
  pub first_more : (start : Bytes) → le start low ≡ true → key_range pairs start (after p.0) ≡ key_range pairs start low ++ p ∷ []
  first_more start at =
      join pairs start low (after p.0) at (le_trans low p.0 (after p.0) first_reached (le_after p.0))
      ∙ ap (λ l. key_range pairs start low ++ l) (key_range_next pairs low (after p.0) p next (less_of (bytes_cmp p.0 (after p.0)) (below_after p.0 p.0 ∙ le_itself p.0)))
      ∙ ap (λ l. key_range pairs start low ++ p ∷ l) (key_range_itself pairs (after p.0))

-- ---- parts of a store

pub get-part : (pairs : Pairs) (low high q : Bytes) → map.get (part pairs low high) q ≡ cond (is_within low high q) (map.get pairs q) None
get-part pairs low high q = map.get-retain_keys pairs (is_within low high) q (λ x e. ap (is_within low high) (sym (bytes_cmp-IsAntisymmetric q x e)))

pub entries-part : (pairs : Pairs) (low high : Bytes) → map.entries (part pairs low high) ≡ key_range pairs low high
entries-part pairs low high =
    same_entries bytes_cmp bytes_cmp_total bytes_cmp-IsAntisymmetric (map.entries (part pairs low high)) (key_range pairs low high) (map.entries_sorted (part pairs low high)) (key_range_sorted pairs low high)
    (λ q. sym (map.get-entries (part pairs low high) q) ∙ get-part pairs low high q ∙ sym (find_key_range pairs low high q))

pub same_part : (pairs : Pairs) (a b c d : Bytes) → key_range pairs a b ≡ key_range pairs c d → part pairs a b ≡ part pairs c d
same_part pairs a b c d e = map.same_entries_map (part pairs a b) (part pairs c d) (entries-part pairs a b ∙ e ∙ sym (entries-part pairs c d))

-- a part, and the pair that stands after it
pub part_more : (pairs : Pairs) (start at high : Bytes) (p : Pair) → Begins pairs at high p → le start at ≡ true → map.insert (part pairs start at) p.0 p.1 ≡ part pairs start (after p.0)
part_more pairs start at high p f from =
    map.same_map bytes_cmp_total bytes_cmp-IsAntisymmetric (map.insert (part pairs start at) p.0 p.1) (part pairs start (after p.0)) (λ q.
    map.get-insert bytes_cmp_total (part pairs start at) p.0 p.1 q
    ∙ ap (cond (eq_by_cmp bytes_cmp q p.0) (Some p.1)) (get-part pairs start at q ∙ sym (find_key_range pairs start at q))
    ∙ sym (find-append bytes_cmp bytes_cmp_total (key_range pairs start at) p.0 p.1 q absent)
    ∙ ap (find bytes_cmp q) (sym (first_more pairs at high p f start from))
    ∙ find_key_range pairs start (after p.0) q ∙ sym (get-part pairs start (after p.0) q))
  where
    absent : find bytes_cmp p.0 (key_range pairs start at) ≡ None
    absent = find_key_range pairs start at p.0 ∙ none_out (is_within start at p.0) (map.get pairs p.0) (within_is start at p.0 ∙ ap (λ t. le start p.0 && not t) (first_reached pairs at high p f) ∙ off (le start p.0))
