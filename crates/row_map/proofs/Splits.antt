-- The order of keys as a test, and a range of keys that is divided at a key.
use Rattle.std.proofs.Common.{◌≡◌, Bool, true, false, not, ◌&&◌, cond, T, List, [], ◌∷◌, ◌++◌, true≢false, Option, Some, None, refl, sym, ap, ◌∙◌}
use Rattle.std.specs.declared.cmp.Ordering.{Ordering}
use Rattle.std.specs.declared.cmp.Ordering.TheVariants.{Less, Equal, Greater}
use Rattle.std.specs.Ordering.{is_lt, is_le, is_gt, ordering_reverse}
use Rattle.std.specs.Cmp.{upto, tied_itself}
use Rattle.std.specs.FinMap as map
use Rattle.std.specs.FinMap.Entries.{is_sorted, below_all, where_key}
use Rattle.byte_map.proofs.Order.{bytes_cmp_total}
use Rattle.keycode.specs.Order.{bytes_cmp}
use Rattle.row_map.specs.Rows.{Bytes, Pairs}
use Rattle.row_map.specs.Ranges.{is_within}
use Rattle.row_map.specs.Walk.{key_range}

abbrev Pair : Type 0
Pair = Bytes × Bytes

-- ---- the order of keys, as a test

abbrev pub le : Bytes → Bytes → Bool
le a b = is_le (bytes_cmp a b)

lt_of : (r : Ordering) → is_lt r ≡ not (is_le (ordering_reverse r))
lt_of Less = refl
lt_of Equal = refl
lt_of Greater = refl

le_of : (r : Ordering) → is_le r ≡ not (is_gt r)
le_of Less = refl
le_of Equal = refl
le_of Greater = refl

not_lt_of : (r : Ordering) → not (is_lt r) ≡ is_le (ordering_reverse r)
not_lt_of Less = refl
not_lt_of Equal = refl
not_lt_of Greater = refl

pub not_true : (b : Bool) → not b ≡ true → b ≡ false
not_true true e = cc
not_true false e = refl

not_false : (b : Bool) → b ≡ false → not b ≡ true
not_false b e = ap not e

pub lt_is : (a b : Bytes) → is_lt (bytes_cmp a b) ≡ not (le b a)
lt_is a b = lt_of (bytes_cmp a b) ∙ ap (λ r. not (is_le r)) (sym (bytes_cmp_total.antisymm b a))

gt_is : (a b : Bytes) → le a b ≡ true → is_gt (bytes_cmp a b) ≡ false
gt_is a b e = not_true (is_gt (bytes_cmp a b)) (sym (le_of (bytes_cmp a b)) ∙ e)

pub le_trans : (a b c : Bytes) → le a b ≡ true → le b c ≡ true → le a c ≡ true
le_trans a b c p q = le_of (bytes_cmp a c) ∙ not_false _ (upto bytes_cmp_total a b c (gt_is a b p) (gt_is b c q))

pub le_itself : (a : Bytes) → le a a ≡ true
le_itself a = ap is_le (tied_itself bytes_cmp_total a)

pub less_le : (a b : Bytes) → bytes_cmp a b ≡ Less → le a b ≡ true
less_le a b e = ap is_le e

pub less_of : (r : Ordering) → is_lt r ≡ true → r ≡ Less
less_of Less e = refl
less_of Equal e = cc
less_of Greater e = cc

pub and_true : (a b : Bool) → (a && b) ≡ true → (a ≡ true) × (b ≡ true)
and_true true b e = (refl, e)
and_true false b e = cc

pub from_is : (a x : Bytes) → not (is_lt (bytes_cmp x a)) ≡ le a x
from_is a x = not_lt_of (bytes_cmp x a) ∙ ap is_le (sym (bytes_cmp_total.antisymm a x))

pub within_is : (a b x : Bytes) → is_within a b x ≡ (le a x && not (le b x))
within_is a b x = (λ i. from_is a x i && lt_is x b i)

-- a key between two others is not below the first, and below the second
pub within_parts : (a b x : Bytes) → is_within a b x ≡ true → (le a x ≡ true) × (bytes_cmp x b ≡ Less)
within_parts a b x w =
    let p = and_true (not (is_lt (bytes_cmp x a))) (is_lt (bytes_cmp x b)) w in
    (sym (from_is a x) ∙ p.0, less_of (bytes_cmp x b) p.1)

pub parts_within : (a b x : Bytes) → le a x ≡ true → bytes_cmp x b ≡ Less → is_within a b x ≡ true
parts_within a b x p q = ap (λ t. t && is_lt (bytes_cmp x b)) (from_is a x ∙ p) ∙ ap is_lt q

pub less_le_less : (a b c : Bytes) → bytes_cmp a b ≡ Less → le b c ≡ true → bytes_cmp a c ≡ Less
less_le_less a b c p q =
    less_of (bytes_cmp a c) (lt_is a c ∙ ap not (end (le c a) refl))
  where
    end : (t : Bool) → le c a ≡ t → le c a ≡ false
    end true e = absurd (true≢false (sym (le_trans b c a q e) ∙ not_true (le b a) (sym (lt_is a b) ∙ ap is_lt p)))
    end false e = e

-- ---- lists of pairs, in order

abbrev pub between : Bytes → Bytes → List Pair → List Pair
between a b = where_key bytes_cmp (is_within a b)

pub both_first : (a b : Bool) → T (a && b) → T a
both_first true b p = tt
both_first false b p = absurd p

both_second : (a b : Bool) → T (a && b) → T b
both_second true b p = p
both_second false b p = absurd p

lt_le : (a b : Bytes) → T (is_lt (bytes_cmp a b)) → le a b ≡ true
lt_le a b p = by_order (bytes_cmp a b) p
  where
    by_order : (r : Ordering) → T (is_lt r) → is_le r ≡ true
    by_order Less p = refl
    by_order Equal p = absurd p
    by_order Greater p = absurd p

skip : (p : Bool) (e : Pair) (es fs : List Pair) → p ≡ false → es ≡ fs → cond p (e ∷ es) es ≡ fs
skip p e es fs h is = ap (λ b. cond b (e ∷ es) es) h ∙ is

pub off : (t : Bool) → (t && false) ≡ false
off true = refl
off false = refl

-- past the upper end there is none
none_past : (a b y : Bytes) (es : List Pair) → le b y ≡ true → T (below_all bytes_cmp y es) → between a b es ≡ []
none_past a b y [] h s = refl
none_past a b y (e ∷ es) h s =
    let at : le b e.0 ≡ true = le_trans b y e.0 h (lt_le y e.0 (both_first _ _ s)) in
    skip (is_within a b e.0) e (between a b es) [] (within_is a b e.0 ∙ ap (λ t. le a e.0 && not t) at ∙ off (le a e.0)) (none_past a b y es h (both_second _ _ s))

-- at a key below b, or from b on
low_side : (p q r : Bool) (e : Pair) (ac ab bc : List Pair) → p ≡ q → r ≡ false → ac ≡ ab ++ bc → cond p (e ∷ ac) ac ≡ cond q (e ∷ ab) ab ++ cond r (e ∷ bc) bc
low_side true true r e ac ab bc same out is = ap (λ l. e ∷ l) (is ∙ ap (λ b. ab ++ cond b (e ∷ bc) bc) (sym out))
low_side true false r e ac ab bc same out is = cc
low_side false true r e ac ab bc same out is = cc
low_side false false r e ac ab bc same out is = is ∙ ap (λ b. ab ++ cond b (e ∷ bc) bc) (sym out)

high_side : (p q r : Bool) (e : Pair) (ac ab bc : List Pair) → p ≡ r → q ≡ false → ab ≡ [] → ac ≡ bc → cond p (e ∷ ac) ac ≡ cond q (e ∷ ab) ab ++ cond r (e ∷ bc) bc
high_side p q r e ac ab bc same out none is =
    ap (λ b. cond b (e ∷ ac) ac) same ∙ ap (λ l. cond r (e ∷ l) l) is ∙ sym (ap (λ b. cond b (e ∷ ab) ab ++ cond r (e ∷ bc) bc) out ∙ ap (λ l. l ++ cond r (e ∷ bc) bc) none)

parts_true : (a b c x : Bytes) → le a b ≡ true → le b x ≡ true → (is_within a c x ≡ is_within b c x) × (is_within a b x ≡ false)
parts_true a b c x ab bx = (
  within_is a c x ∙ ap (λ t. t && not (le c x)) (le_trans a b x ab bx ∙ sym bx) ∙ sym (within_is b c x),
  within_is a b x ∙ ap (λ t. le a x && not t) bx ∙ off (le a x),
)

parts_false : (a b c x : Bytes) → le b c ≡ true → le b x ≡ false → (is_within a c x ≡ is_within a b x) × (is_within b c x ≡ false)
parts_false a b c x bc bx = (
  within_is a c x ∙ ap (λ t. le a x && not t) (c_false (le c x) refl ∙ sym bx) ∙ sym (within_is a b x),
  within_is b c x ∙ ap (λ t. t && not (le c x)) bx,
)
  where
    c_false : (t : Bool) → le c x ≡ t → t ≡ false
    c_false true e = absurd (true≢false (sym (le_trans b c x bc e) ∙ bx))
    c_false false e = refl

join_list : (a b c : Bytes) (es : List Pair) → le a b ≡ true → le b c ≡ true → T (is_sorted bytes_cmp es) → between a c es ≡ between a b es ++ between b c es
join_list a b c [] ab bc s = refl
join_list a b c (e ∷ es) ab bc s =
    let rest = join_list a b c es ab bc (both_second _ _ s) in
    elim (le b e.0) as (λ t. le b e.0 ≡ t → between a c (e ∷ es) ≡ between a b (e ∷ es) ++ between b c (e ∷ es)) [
      | true ↦ λ bx.
          let w = parts_true a b c e.0 ab bx in
          let none = none_past a b e.0 es bx (both_first _ _ s) in
          high_side (is_within a c e.0) (is_within a b e.0) (is_within b c e.0) e (between a c es) (between a b es) (between b c es) w.0 w.1 none (rest ∙ ap (λ l. l ++ between b c es) none)
      | false ↦ λ bx.
          let w = parts_false a b c e.0 bc bx in
          low_side (is_within a c e.0) (is_within a b e.0) (is_within b c e.0) e (between a c es) (between a b es) (between b c es) w.0 w.1 rest
    ] refl

-- ---- key ranges of pairs

pub join : (pairs : Pairs) (a b c : Bytes) → le a b ≡ true → le b c ≡ true → key_range pairs a c ≡ key_range pairs a b ++ key_range pairs b c
join pairs a b c ab bc = join_list a b c (map.entries pairs) ab bc (map.entries_sorted pairs)

pub some_in : {A : Type 0} (b : Bool) (o : Option A) (v : A) → cond b o None ≡ Some v → (b ≡ true) × (o ≡ Some v)
some_in true o v e = (refl, e)
some_in false o v e = cc
