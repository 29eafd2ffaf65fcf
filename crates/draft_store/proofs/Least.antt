-- The least key that is missed, part by part.
use Rattle.std.proofs.Common.{◌≡◌, ℕ, ◌+◌, ◌<◌, ◌≤◌, Bool, true, false, cond, List, [], ◌∷◌, ◌++◌, length, take, get_or, Option, Some, None, refl, sym, ap, subst, ◌∙◌, ◌⊎◌, inl, inr, true≢false}
use Rattle.std.specs.Prelude.{◌≢◌}
use Rattle.std.specs.declared.cmp.Ordering.TheVariants.{Less, Equal, Greater}
use Rattle.std.specs.Bool.{Decides}
use Rattle.std.specs.Ordering.{is_le}
use Rattle.std.specs.FinMap as map
use Rattle.std.proofs.lemmas.List.{take_more, take_all}
use Rattle.byte_map.proofs.Order.{bytes_cmp-IsAntisymmetric, less_from_greater, less_trans, same_itself, told_same}
use Rattle.keycode.specs.Order.{bytes_cmp}
use Rattle.row_map.specs.Expect.{Holds, IsConflict}
use Rattle.row_map.specs.Rows.{Bytes, Pairs}
use Rattle.entry_code.specs.declared.parts.RangeParts.{RangeParts}
use Rattle.draft_store.specs.Apply.{MissesPoint, MissesRange, AnyIn, IsLeast}
use Rattle.draft_store.specs.inner.Least.{IsLeastOf, is_same_value, lesser, expect_range}

no_value : {B A : Type 0} (o : Option A) (v : A) → o ≡ None → o ≡ Some v → B
no_value o v e f = absurd cc

some_one : {A : Type 0} {v w : A} → Some v ≡ (let o : Option A = Some w in o) → v ≡ w
some_one e = cc

-- ---- the order of keys

le_cases : (a b : Bytes) → is_le (bytes_cmp a b) ≡ true → (a ≡ b) ⊎ (bytes_cmp a b ≡ Less)
le_cases a b le = elim (bytes_cmp a b) as (λ o. bytes_cmp a b ≡ o → is_le o ≡ true → (a ≡ b) ⊎ (o ≡ Less)) [
  | Less ↦ λ e t. inr refl
  | Equal ↦ λ e t. inl (bytes_cmp-IsAntisymmetric a b e)
  | Greater ↦ λ e t. absurd (true≢false (sym t))
] refl le

not_le : (a b : Bytes) → is_le (bytes_cmp a b) ≡ false → bytes_cmp b a ≡ Less
not_le a b above = elim (bytes_cmp a b) as (λ o. bytes_cmp a b ≡ o → is_le o ≡ false → bytes_cmp b a ≡ Less) [
  | Less ↦ λ e t. absurd (true≢false t)
  | Equal ↦ λ e t. absurd (true≢false t)
  | Greater ↦ λ e t. less_from_greater a b e
] refl above

le_trans : (a b c : Bytes) → is_le (bytes_cmp a b) ≡ true → is_le (bytes_cmp b c) ≡ true → is_le (bytes_cmp a c) ≡ true
le_trans a b c p q = elim (le_cases a b p) [
  | inl e ↦ subst (λ (z : Bytes). is_le (bytes_cmp z c) ≡ true) (sym e) q
  | inr l ↦ elim (le_cases b c q) [
    | inl e ↦ subst (λ (z : Bytes). is_le (bytes_cmp a z) ≡ true) e p
    | inr m ↦ ap is_le (less_trans a b c l m)
  ]
]

-- ---- the least of two

least_map : (P Q : Bytes → Type 0) → ((k : Bytes) → P k → Q k) → ((k : Bytes) → Q k → P k) → (r : Option Bytes) → IsLeastOf P r → IsLeastOf Q r
least_map P Q to from None h = λ k x. h k (from k x)
least_map P Q to from (Some a) h = (to a h.0, λ k x. h.1 k (from k x))

pub least_lesser : (P Q : Bytes → Type 0) (r s : Option Bytes) → IsLeastOf P r → IsLeastOf Q s → IsLeastOf (λ k. P k ⊎ Q k) (lesser r s)
least_lesser P Q None None h g = λ k x. elim x [ inl p ↦ h k p | inr q ↦ g k q ]
least_lesser P Q None (Some b) h g = (inr g.0, λ k x. elim x [ inl p ↦ absurd (h k p) | inr q ↦ g.1 k q ])
least_lesser P Q (Some a) None h g = (inl h.0, λ k x. elim x [ inl p ↦ h.1 k p | inr q ↦ absurd (g k q) ])
least_lesser P Q (Some a) (Some b) h g =
    elim (is_le (bytes_cmp a b)) as (λ t. is_le (bytes_cmp a b) ≡ t → IsLeastOf (λ k. P k ⊎ Q k) (cond t (Some a) (Some b))) [
      | true ↦ λ t. (inl h.0, λ k x. elim x [ inl p ↦ h.1 k p | inr q ↦ le_trans a b k t (g.1 k q) ])
      | false ↦ λ t. (inr g.0, λ k x. elim x [ inl p ↦ le_trans b a k (ap is_le (not_le a b t)) (h.1 k p) | inr q ↦ g.1 k q ])
    ] refl

-- ---- one part more

module _ {X : Type 0} (P : X → Type 0) where
  last_in : (xs : List X) (x : X) → AnyIn P xs ⊎ P x → AnyIn P (xs ++ x ∷ [])
  last_in [] x (inl none) = absurd none
  last_in [] x (inr own) = inl own
  last_in (y ∷ xs) x (inl (inl first)) = inl first
  last_in (y ∷ xs) x (inl (inr more)) = inr (last_in xs x (inl more))
  last_in (y ∷ xs) x (inr own) = inr (last_in xs x (inr own))

  last_out : (xs : List X) (x : X) → AnyIn P (xs ++ x ∷ []) → AnyIn P xs ⊎ P x
  last_out [] x (inl own) = inr own
  last_out [] x (inr none) = absurd none
  last_out (y ∷ xs) x (inl first) = inl (inl first)
  last_out (y ∷ xs) x (inr more) = elim (last_out xs x more) [ inl behind ↦ inl (inr behind) | inr own ↦ inr own ]

pub least_more : {X : Type 0} (P : Bytes → X → Type 0) (xs : List X) (i : ℕ) (d : X) (r s : Option Bytes) → i < length xs
    → IsLeastOf (λ k. AnyIn (P k) (take i xs)) r → IsLeastOf (λ k. P k (get_or xs i d)) s → IsLeastOf (λ k. AnyIn (P k) (take (i + 1) xs)) (lesser r s)
least_more {X} P xs i d r s lt h g =
    subst (λ (ys : List X). IsLeastOf (λ k. AnyIn (P k) ys) (lesser r s)) (sym (take_more xs i d lt))
    (least_map (λ k. AnyIn (P k) (take i xs) ⊎ P k (get_or xs i d)) (λ k. AnyIn (P k) (take i xs ++ get_or xs i d ∷ []))
    (λ k. last_in (P k) (take i xs) (get_or xs i d)) (λ k. last_out (P k) (take i xs) (get_or xs i d)) (lesser r s)
    (least_lesser (λ k. AnyIn (P k) (take i xs)) (λ k. P k (get_or xs i d)) r s h g))

pub least_whole : {X : Type 0} (P : Bytes → X → Type 0) (xs : List X) (i : ℕ) (r : Option Bytes) → length xs ≤ i → IsLeastOf (λ k. AnyIn (P k) (take i xs)) r → IsLeastOf (λ k. AnyIn (P k) xs) r
least_whole {X} P xs i r le h = subst (λ (ys : List X). IsLeastOf (λ k. AnyIn (P k) ys) r) (take_all i xs le) h

-- ---- a point, and a range

pub same_values : (found wanted : Option Bytes) (b : Bool) → b ≡ is_same_value found wanted → Decides b (found ≡ wanted)
same_values None None b e = (λ t. refl, λ same. e)
same_values None (Some w) b e = (λ t. absurd (true≢false (sym t ∙ e)), λ same. no_value None w refl same)
same_values (Some v) None b e = (λ t. absurd (true≢false (sym t ∙ e)), λ same. no_value None v refl (sym same))
same_values (Some v) (Some w) b e = let d = told_same v w b e in (λ t. ap Some (d.0 t), λ same. d.1 (some_one same))

pub point_holds : (pairs : Pairs) (point : Bytes × Option Bytes) → map.get pairs point.0 ≡ point.1 → (key : Bytes) → ¬ (MissesPoint pairs key point)
point_holds pairs point e key m = m.1 (ap (map.get pairs) m.0 ∙ e)

pub point_missed : (pairs : Pairs) (point : Bytes × Option Bytes) → map.get pairs point.0 ≢ point.1 → IsLeast (λ key. MissesPoint pairs key point) point.0
point_missed pairs point ne = ((refl, ne), λ other m. subst (λ (z : Bytes). is_le (bytes_cmp point.0 z) ≡ true) (sym m.0) (ap is_le (same_itself point.0)))

pub range_holds : (pairs : Pairs) (part : RangeParts) → Holds (expect_range part) pairs → (key : Bytes) → ¬ (MissesRange pairs key part)
range_holds pairs part holds key m = holds key (inr m)

pub range_missed : (pairs : Pairs) (part : RangeParts) (key : Bytes) → IsConflict (expect_range part) pairs key → IsLeast (λ k. MissesRange pairs k part) key
range_missed pairs part key c = (
  elim c.0 [
    | inl wanted ↦ no_value (map.get map.empty key) wanted.0 (map.get-empty bytes_cmp key) wanted.1
    | inr missed ↦ missed
  ],
  λ other x. c.1 other (inr x),
)
