-- Tests on lists, and what they say of their elements.
use Rattle.std.proofs.Common.{◌≡◌, ℕ, zero, suc, Bool, true, false, cond, ◌&&◌, ◌||◌, List, [], ◌∷◌, ◌++◌, Some, None, ◌⊎◌, inl, inr, refl, sym, ap, subst, ◌∙◌, arith, Contains}
use Rattle.std.specs.List.{list_any, list_all, find}
use Rattle.schema_version.specs.Moves.{IsFirstSuch}
use mathlib.Core.List.{map as each}

module _ {X : Type 0} where
  pub here : (x : X) (xs : List X) → Contains (x ∷ xs) x
  here x xs = (0, omega arith, refl)

  pub later : (x y : X) (xs : List X) → Contains xs y → Contains (x ∷ xs) y
  later x y xs (k, below, is) = (suc k, omega (arith, below), is)

  pub here_or_later : (x y : X) (xs : List X) → Contains (x ∷ xs) y → (x ≡ y) ⊎ Contains xs y
  here_or_later x y xs (zero, below, is) = inl is
  here_or_later x y xs (suc k, below, is) = inr (k, omega (arith, below), is)

  module _ (test : X → Bool) where
    pub any_says : (xs : List X) → list_any test xs ≡ true → (x : X) × Contains xs x × (test x ≡ true)
    any_says [] e = cc
    any_says (x ∷ xs) e =
        elim (test x) as (λ b. test x ≡ b → (b || list_any test xs) ≡ true → (y : X) × Contains (x ∷ xs) y × (test y ≡ true)) [
          | true ↦ λ p q. (x, here x xs, p)
          | false ↦ λ p q. let r = any_says xs q in (r.0, later x r.0 xs r.1, r.2)
        ] refl e

    pub any_from : (xs : List X) (x : X) → Contains xs x → test x ≡ true → list_any test xs ≡ true
    any_from [] x (k, below, is) p = absurd (omega (arith, below))
    any_from (y ∷ xs) x there p =
        elim (here_or_later y x xs there) [
          | inl e ↦ ap (λ b. b || list_any test xs) (ap test e ∙ p)
          | inr more ↦ ap (λ b. test y || b) (any_from xs x more p) ∙ or_true (test y)
        ]
      where
        or_true : (b : Bool) → (b || true) ≡ true
        or_true true = refl
        or_true false = refl

    pub all_says : (xs : List X) (x : X) → list_all test xs ≡ true → Contains xs x → test x ≡ true
    all_says [] x e (k, below, is) = absurd (omega (arith, below))
    all_says (y ∷ xs) x e there =
        elim (test y) as (λ b. test y ≡ b → (b && list_all test xs) ≡ true → test x ≡ true) [
          | true ↦ λ p q. (elim (here_or_later y x xs there) [ inl e ↦ ap test (sym e) ∙ p | inr more ↦ all_says xs x q more ])
          | false ↦ λ p q. cc
        ] refl e

    pub all_fails : (xs : List X) → list_all test xs ≡ false → (x : X) × Contains xs x × (test x ≡ false)
    all_fails [] e = cc
    all_fails (x ∷ xs) e =
        elim (test x) as (λ b. test x ≡ b → (b && list_all test xs) ≡ false → (y : X) × Contains (x ∷ xs) y × (test y ≡ false)) [
          | true ↦ λ p q. let r = all_fails xs q in (r.0, later x r.0 xs r.1, r.2)
          | false ↦ λ p q. (x, here x xs, p)
        ] refl e

pub not_both : {b : Bool} → b ≡ true → b ≡ false → ⊥
not_both p q = cc

pub some_same : {X : Type 0} {x y : X} → Some x ≡ Some y → x ≡ y
some_same e = cc

module _ (test : ℕ → Bool) where
  pub find_first : (xs : List ℕ) (y : ℕ) → find test xs ≡ Some y → IsFirstSuch test xs y
  find_first [] y e = cc
  find_first (x ∷ xs) y e =
      elim (test x) as (λ b. test x ≡ b → cond b (Some x) (find test xs) ≡ Some y → IsFirstSuch test (x ∷ xs) y) [
        | true ↦ λ p q. ([], xs, ap (λ z. z ∷ xs) (some_same q), ap test (sym (some_same q)) ∙ p, tt)
        | false ↦ λ p q. let r = find_first xs y q in (x ∷ r.0, r.1, ap (λ l. x ∷ l) r.2, r.3, (p, r.4))
      ] refl e

  pub none_in : (before after : List ℕ) (y : ℕ) → find test (before ++ y ∷ after) ≡ None → test y ≡ true → ⊥
  none_in [] after y e p = let q : Some y ≡ None = sym (ap (λ b. cond b (Some y) (find test after)) p) ∙ e in cc
  none_in (x ∷ before) after y e p =
      elim (test x) as (λ b. cond b (Some x) (find test (before ++ y ∷ after)) ≡ None → ⊥) [
        | true ↦ λ q. cc
        | false ↦ λ q. none_in before after y q p
      ] e

  pub find_none : (xs : List ℕ) (y : ℕ) → find test xs ≡ None → IsFirstSuch test xs y → ⊥
  find_none xs y e (before, after, split, p, rest) = none_in before after y (subst (λ l. find test l ≡ None) split e) p

-- tests of a list seen through f
pub any_through : {X Y : Type 0} (f : X → Y) (p : Y → Bool) (xs : List X) → list_any (λ x. p (f x)) xs ≡ list_any p (each f xs)
any_through f p [] = refl
any_through f p (x ∷ xs) = ap (λ b. p (f x) || b) (any_through f p xs)

pub all_through : {X Y : Type 0} (f : X → Y) (p : Y → Bool) (xs : List X) → list_all (λ x. p (f x)) xs ≡ list_all p (each f xs)
all_through f p [] = refl
all_through f p (x ∷ xs) = ap (λ b. p (f x) && b) (all_through f p xs)
