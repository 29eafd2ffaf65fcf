-- A sum is zero where each of its parts is, and what holds of all entries of a map holds of all that it finds.
use Rattle.std.proofs.Common.{◌≡◌, ℕ, ◌+◌, Bool, true, false, cond, List, [], ◌∷◌, Some, refl, sym, ap, subst, ◌∙◌, arith}
use Rattle.std.specs.Prelude.{count_by, sum_by}
use Rattle.std.specs.Cmp.{Equal-is}
use Rattle.std.specs.FinMap as map
use Rattle.std.specs.FinMap.{FinMap, IsAntisymmetric}
use Rattle.std.specs.FinMap.Entries.{find}
use Rattle.std.specs.List.{AllByRecursion}
use Rattle.std.specs.Ordering.{eq_by_cmp}
use Rattle.std.specs.declared.cmp.Ordering.{Ordering}
use Rattle.std.proofs.lemmas.List.Sums.{sum_by-cons}
use Rattle.std.proofs.lemmas.Option.{same_Some}
use mathlib.Core.List.{map as each}

-- what an element counts for
abbrev counts : Bool → ℕ
counts b = cond b 1 0

counted : (b : Bool) → counts b ≡ 0 → b ≡ false
counted true e = absurd (omega (arith, e))
counted false e = refl

module _ {X : Type 0} where
  pub sum_zero : (f : X → ℕ) (xs : List X) → AllByRecursion (λ x. f x ≡ 0) xs → sum_by f xs ≡ 0
  sum_zero f [] all = refl
  sum_zero f (x ∷ xs) all = sum_by-cons f x xs ∙ ap (λ (n : ℕ). n + sum_by f xs) all.0 ∙ ap (λ (n : ℕ). 0 + n) (sum_zero f xs all.1)

  pub zero_sum : (f : X → ℕ) (xs : List X) → sum_by f xs ≡ 0 → AllByRecursion (λ x. f x ≡ 0) xs
  zero_sum f [] none = tt
  zero_sum f (x ∷ xs) none =
      let parts : f x + sum_by f xs ≡ 0 = sym (sum_by-cons f x xs) ∙ none in
      (omega (arith, parts), zero_sum f xs (omega (arith, parts)))

  all_other : (P Q : X → Type 0) → ((x : X) → P x → Q x) → (xs : List X) → AllByRecursion P xs → AllByRecursion Q xs
  all_other P Q turns [] all = tt
  all_other P Q turns (x ∷ xs) all = (turns x all.0, all_other P Q turns xs all.1)

  pub count_zero : (p : X → Bool) (xs : List X) → AllByRecursion (λ x. p x ≡ false) xs → count_by p xs ≡ 0
  count_zero p xs all = sum_zero (λ x. counts (p x)) xs (all_other (λ x. p x ≡ false) (λ x. counts (p x) ≡ 0) (λ x e. ap counts e) xs all)

  pub zero_count : (p : X → Bool) (xs : List X) → count_by p xs ≡ 0 → AllByRecursion (λ x. p x ≡ false) xs
  zero_count p xs none = all_other (λ x. counts (p x) ≡ 0) (λ x. p x ≡ false) (λ x e. counted (p x) e) xs (zero_sum (λ x. counts (p x)) xs none)

module _ {K X : Type 0} where
  pub all_values : (P : X → Type 0) (es : List (K × X)) → AllByRecursion (λ (e : K × X). P e.1) es → AllByRecursion P (each (λ (e : K × X). e.1) es)
  all_values P [] all = tt
  all_values P (e ∷ es) all = (all.0, all_values P es all.1)

  pub values_all : (P : X → Type 0) (es : List (K × X)) → AllByRecursion P (each (λ (e : K × X). e.1) es) → AllByRecursion (λ (e : K × X). P e.1) es
  values_all P [] all = tt
  values_all P (e ∷ es) all = (all.0, values_all P es all.1)

module _ {K X : Type 0} {R : K → K → Ordering} (same : IsAntisymmetric R) (P : K → X → Type 0) where
  in_list : (es : List (K × X)) → AllByRecursion (λ (e : K × X). P e.0 e.1) es → (q : K) (x : X) → find R q es ≡ Some x → P q x
  in_list [] all q x is = absurd cc
  in_list (e ∷ es) all q x is =
      elim (eq_by_cmp R q e.0) as (λ b. eq_by_cmp R q e.0 ≡ b → cond b (Some e.1) (find R q es) ≡ Some x → P q x) [
        | true ↦ λ s f. subst (P q) (same_Some e.1 x f) (subst (λ (k : K). P k e.1) (sym (same q e.0 ((Equal-is (R q e.0)).0 s))) all.0)
        | false ↦ λ s f. in_list es all.1 q x f
      ] refl is

  pub all_found : (m : FinMap R X) → AllByRecursion (λ (e : K × X). P e.0 e.1) (map.entries m) → (q : K) (x : X) → map.get m q ≡ Some x → P q x
  all_found m all q x is = in_list (map.entries m) all q x (sym (map.get-entries m q) ∙ is)
