-- Sums over lists, and over the entries of a map.
use Rattle.std.proofs.Common.{◌≡◌, ℕ, ◌+◌, ◌⊎◌, Bool, true, false, cond, List, [], ◌∷◌, Option, Some, None, refl, sym, ap, ◌∙◌, inl, inr, arith}
use Rattle.std.specs.Prelude.{sum_by, T, ◌&&◌}
use Rattle.std.specs.Cmp.{IsTotalOrder}
use Rattle.std.specs.FinMap as map
use Rattle.std.specs.FinMap.{FinMap, IsAntisymmetric, find, is_sorted}
use Rattle.std.specs.FinMap.Entries.{below_all}
use Rattle.std.specs.List.{AllByRecursion}
use Rattle.std.specs.Ordering.{eq_by_cmp, is_eq, is_lt}
use Rattle.std.specs.declared.cmp.Ordering.{Ordering}
use Rattle.std.specs.declared.cmp.Ordering.TheVariants.{Less, Equal, Greater}
use Rattle.std.proofs.lemmas.List.Sums.{sum_by-cons}
use mathlib.Core.List.{map as each}
use Rattle.byte_map.proofs.Written.{tied, apart, same_or_apart}

module _ {X : Type 0} where
  pub sum_same : (f g : X → ℕ) → ((x : X) → f x ≡ g x) → (xs : List X) → sum_by f xs ≡ sum_by g xs
  sum_same f g same xs = λ i. sum_by (λ x. same x i) xs

  -- the same, of the elements of the list alone
  pub sum_alike : (f g : X → ℕ) (xs : List X) → AllByRecursion (λ x. f x ≡ g x) xs → sum_by f xs ≡ sum_by g xs
  sum_alike f g [] all = refl
  sum_alike f g (x ∷ xs) all =
      sum_by-cons f x xs ∙ ap (λ (n : ℕ). n + sum_by f xs) all.0 ∙ ap (λ (n : ℕ). g x + n) (sum_alike f g xs all.1) ∙ sym (sum_by-cons g x xs)

  pub sum_nothing : (xs : List X) → sum_by (λ x. 0) xs ≡ 0
  sum_nothing [] = refl
  sum_nothing (x ∷ xs) = sum_by-cons (λ x. 0) x xs ∙ ap (λ (n : ℕ). 0 + n) (sum_nothing xs)

  pub sum_added : (f g : X → ℕ) (xs : List X) → sum_by (λ x. f x + g x) xs ≡ sum_by f xs + sum_by g xs
  sum_added f g [] = refl
  sum_added f g (x ∷ xs) =
      let whole = sum_by-cons (λ x. f x + g x) x xs in
      let left = sum_by-cons f x xs in
      let right = sum_by-cons g x xs in
      let rest = sum_added f g xs in
      whole ∙ omega (arith, rest) ∙ ap (λ (n : ℕ). n + (g x + sum_by g xs)) (sym left) ∙ ap (λ (n : ℕ). sum_by f (x ∷ xs) + n) (sym right)

-- two sums in either order
pub sum_swap : {X Y : Type 0} (f : X → Y → ℕ) (xs : List X) (ys : List Y) → sum_by (λ x. sum_by (f x) ys) xs ≡ sum_by (λ y. sum_by (λ x. f x y) xs) ys
sum_swap f [] ys = sym (sum_nothing ys)
sum_swap f (x ∷ xs) ys =
    sum_by-cons (λ x. sum_by (f x) ys) x xs
    ∙ ap (λ (n : ℕ). sum_by (f x) ys + n) (sum_swap f xs ys)
    ∙ sym (sum_added (f x) (λ y. sum_by (λ x. f x y) xs) ys)
    ∙ sum_same (λ y. f x y + sum_by (λ x. f x y) xs) (λ y. sum_by (λ x. f x y) (x ∷ xs)) (λ y. sym (sum_by-cons (λ x. f x y) x xs)) ys

pub sum_each : {X Y : Type 0} (g : X → Y) (f : Y → ℕ) (xs : List X) → sum_by f (each g xs) ≡ sum_by (λ x. f (g x)) xs
sum_each g f [] = refl
sum_each g f (x ∷ xs) = sum_by-cons f (g x) (each g xs) ∙ ap (λ (n : ℕ). f (g x) + n) (sum_each g f xs) ∙ sym (sum_by-cons (λ x. f (g x)) x xs)

-- ---- the sum over the entries of a map of what one key alone counts for

-- what an entry counts for, if there is one
abbrev pub value_at : {K X : Type 0} → (K × X → ℕ) → K → Option X → ℕ
value_at f q None = 0
value_at f q (Some x) = f (q, x)

first : (a b : Bool) → T (a && b) → T a
first true b h = tt
first false b h = absurd h

second : (a b : Bool) → T (a && b) → T b
second true b h = h
second false b h = absurd h

less_only : (r : Ordering) → T (is_lt r) → is_eq r ≡ false
less_only Less h = refl
less_only Equal h = absurd h
less_only Greater h = absurd h

module _ {K X : Type 0} {R : K → K → Ordering} (o : IsTotalOrder R) (same : IsAntisymmetric R) where
  none_found : (q : K) (es : List (K × X)) → T (below_all R q es) → find R q es ≡ None
  none_found q [] h = refl
  none_found q (e ∷ es) h =
      ap (λ t. cond t (Some e.1) (find R q es)) (less_only (R q e.0) (first (is_lt (R q e.0)) (below_all R q es) h))
      ∙ none_found q es (second (is_lt (R q e.0)) (below_all R q es) h)

  sum_in : (f : K × X → ℕ) (q : K) (es : List (K × X)) → T (is_sorted R es) → AllByRecursion (λ (e : K × X). (e.0 ≡ q) ⊎ (f e ≡ 0)) es → sum_by f es ≡ value_at f q (find R q es)
  sum_in f q [] sorted all = refl
  sum_in f q (e ∷ es) sorted all =
      let rest = sum_in f q es (second (below_all R e.0 es) (is_sorted R es) sorted) all.1 in
      sum_by-cons f e es ∙ elim (same_or_apart o same q e.0) [
        | inl s ↦
            let gone : find R q es ≡ None = ap (λ k. find R k es) s ∙ none_found e.0 es (first (below_all R e.0 es) (is_sorted R es) sorted) in
            ap (λ (n : ℕ). f e + n) (rest ∙ ap (value_at f q) gone)
            ∙ omega arith
            ∙ ap (λ (k : K). f (k, e.1)) (sym s)
            ∙ ap (λ t. value_at f q (cond t (Some e.1) (find R q es))) (sym (tied o same q) ∙ ap (λ k. eq_by_cmp R q k) s)
        | inr ne ↦
            let none : f e ≡ 0 = elim all.0 [ inl s ↦ absurd (ne (sym s)) | inr z ↦ z ] in
            ap (λ (n : ℕ). n + sum_by f es) none
            ∙ omega arith
            ∙ rest
            ∙ ap (λ t. value_at f q (cond t (Some e.1) (find R q es))) (sym (apart o same q e.0 ne))
      ]

  -- where all other entries count for nothing
  pub sum_at : (f : K × X → ℕ) (q : K) (m : FinMap R X) → AllByRecursion (λ (e : K × X). (e.0 ≡ q) ⊎ (f e ≡ 0)) (map.entries m) → sum_by f (map.entries m) ≡ value_at f q (map.get m q)
  sum_at f q m all = sum_in f q (map.entries m) (map.entries_sorted m) all ∙ ap (value_at f q) (sym (map.get-entries m q))
