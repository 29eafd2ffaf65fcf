-- A search that goes by an order finds what comes first in it.
use Rattle.std.proofs.Common.{◌≡◌, ℕ, zero, suc, ◌+◌, ◌<◌, ◌≤◌, Bool, true, false, cond, List, [], ◌∷◌, ◌++◌, Option, Some, None, ◌⊎◌, inl, inr, refl, sym, ap, subst, arith, true≢false, slice_get}
use Rattle.table_faults.specs.Faults.{IsBelow}
use Rattle.table_faults.specs.inner.Search.{or_else}

-- ---- the order

not_below_itself : (xs : List ℕ) → ¬ (IsBelow xs xs)
not_below_itself [] h = h
not_below_itself (x ∷ xs) (inl lt) = absurd (omega (arith, lt))
not_below_itself (x ∷ xs) (inr (same, h)) = not_below_itself xs h

not_above : (common : List ℕ) (j k : ℕ) (r s : List ℕ) → k < j → ¬ (IsBelow (common ++ j ∷ r) (common ++ k ∷ s))
not_above [] j k r s lt (inl h) = absurd (omega (arith, lt, h))
not_above [] j k r s lt (inr (same, h)) = absurd (omega (arith, lt, same))
not_above (x ∷ xs) j k r s lt (inl h) = absurd (omega (arith, h))
not_above (x ∷ xs) j k r s lt (inr (same, h)) = not_above xs j k r s lt h

-- one comes first, or they are in the same place
pub one_before : (xs ys : List ℕ) → IsBelow xs ys ⊎ (xs ≡ ys) ⊎ IsBelow ys xs
one_before [] [] = inr (inl refl)
one_before [] (y ∷ ys) = inl tt
one_before (x ∷ xs) [] = inr (inr tt)
one_before (x ∷ xs) (y ∷ ys) =
    elim (numbers x y) [
      | inl lt ↦ inl (inl lt)
      | inr rest ↦ (elim rest [
        | inr gt ↦ inr (inr (inl gt))
        | inl same ↦ (elim (one_before xs ys) [
          | inl h ↦ inl (inr (same, h))
          | inr more ↦ (elim more [
            | inl rest ↦ inr (inl (λ i. same i ∷ rest i))
            | inr h ↦ inr (inr (inr (sym same, h)))
          ])
        ])
      ])
    ]
  where
    numbers : (m n : ℕ) → (m < n) ⊎ (m ≡ n) ⊎ (n < m)
    numbers zero zero = inr (inl refl)
    numbers zero (suc n) = inl (omega arith)
    numbers (suc m) zero = inr (inr (omega arith))
    numbers (suc m) (suc n) =
        elim (numbers m n) [
          | inl lt ↦ inl (omega (arith, lt))
          | inr more ↦ (elim more [ inl same ↦ inr (inl (ap suc same)) | inr gt ↦ inr (inr (omega (arith, gt))) ])
        ]

-- ---- elements of a list

-- those behind a place
abbrev pub behind : {X : Type 0} → List X → ℕ → List X
behind [] place = []
behind (x ∷ xs) zero = xs
behind (x ∷ xs) (suc place) = behind xs place

-- what one of the elements says, told its number and those behind it
abbrev pub Within : {X F : Type 0} → (ℕ → X → List X → F → Type 0) → ℕ → List X → F → Type 0
Within P n [] f = ⊥
Within P n (x ∷ xs) f = P n x xs f ⊎ Within P (n + 1) xs f

abbrev pub searched : {X F : Type 0} → (ℕ → X → List X → Option F) → ℕ → List X → Option F
searched c n [] = None
searched c n (x ∷ xs) = or_else (c n x xs) (searched c (n + 1) xs)

module _ {X F : Type 0} (P : ℕ → X → List X → F → Type 0) where
  pub said : (n : ℕ) (xs : List X) (f : F) → Within P n xs f → (q : ℕ) × (x : X) × (slice_get xs q ≡ Some x) × P (n + q) x (behind xs q) f
  said n [] f h = absurd h
  said n (x ∷ xs) f (inl h) =
      let e : n ≡ n + 0 = omega arith in
      (0, x, refl, subst (λ m. P m x xs f) e h)
  said n (x ∷ xs) f (inr h) =
      let r = said (n + 1) xs f h in
      let e : n + 1 + r.0 ≡ n + suc r.0 = omega arith in
      (suc r.0, r.1, r.2, subst (λ m. P m r.1 (behind xs r.0) f) e r.3)

  pub from_said : (n : ℕ) (xs : List X) (f : F) (q : ℕ) (x : X) → slice_get xs q ≡ Some x → P (n + q) x (behind xs q) f → Within P n xs f
  from_said n [] f q x at h = cc
  from_said n (y ∷ ys) f zero x at h =
      let same : x ≡ y = cc in
      let e : n + 0 ≡ n = omega arith in
      inl (subst (λ z. P n z ys f) same (subst (λ m. P m x ys f) e h))
  from_said n (y ∷ ys) f (suc q) x at h =
      let e : n + suc q ≡ n + 1 + q = omega arith in
      inr (from_said (n + 1) ys f q x at (subst (λ m. P m x (behind ys q) f) e h))

  pub each_says : (G : F → Type 0) → ((n : ℕ) (x : X) (xs : List X) (f : F) → P n x xs f → G f) → (n : ℕ) (xs : List X) (f : F) → Within P n xs f → G f
  each_says G g n [] f h = absurd h
  each_says G g n (x ∷ xs) f (inl h) = g n x xs f h
  each_says G g n (x ∷ xs) f (inr h) = each_says G g (n + 1) xs f h

-- ---- searches

module _ {F : Type 0} (key : F → List ℕ) where
  -- what is found is of these and comes first; nothing is found only if there are none
  abbrev pub Finds : (F → Type 0) → Option F → Type 0
  Finds C (Some f) = C f × ((g : F) → IsBelow (key g) (key f) → ¬ (C g))
  Finds C None = (f : F) → ¬ (C f)

  -- in the order they have this in common, and then a number up to this, or past it
  abbrev pub UpTo : List ℕ → ℕ → F → Type 0
  UpTo common k f = (j : ℕ) × (rest : List ℕ) × (j ≤ k) × (key f ≡ common ++ j ∷ rest)

  abbrev pub Past : List ℕ → ℕ → F → Type 0
  Past common k f = (j : ℕ) × (rest : List ℕ) × (k < j) × (key f ≡ common ++ j ∷ rest)

  apart : (common : List ℕ) (k : ℕ) (f g : F) → UpTo common k f → Past common k g → ¬ (IsBelow (key g) (key f))
  apart common k f g (j, r, low, e) (l, s, high, d) below =
      not_above common l j s r (omega (arith, low, high)) (subst (λ xs. IsBelow xs (common ++ j ∷ r)) d (subst (λ xs. IsBelow (key g) xs) e below))

  pub one : (b : Bool) (x : F) → Finds (λ f. (f ≡ x) × (b ≡ true)) (cond b (Some x) None)
  one true x = ((refl, refl), λ g below. λ (same, e). not_below_itself (key x) (subst (λ f. IsBelow (key f) (key x)) same below))
  one false x = λ g. λ (same, e). absurd (true≢false (sym e))

  pub either : {A B : F → Type 0} (common : List ℕ) (k : ℕ) (x y : Option F) → ((f : F) → A f → UpTo common k f) → ((g : F) → B g → Past common k g)
      → Finds A x → Finds B y → Finds (λ f. A f ⊎ B f) (or_else x y)
  either common k None None a b first next = λ f. λ w. elim w [ inl h ↦ first f h | inr h ↦ next f h ]
  either common k None (Some g) a b first next = (inr next.0, λ f below. λ w. elim w [ inl h ↦ first f h | inr h ↦ next.1 f below h ])
  either common k (Some f) y a b first next = (inl first.0, λ g below. λ w. elim w [ inl h ↦ first.1 g below h | inr h ↦ apart common k f g (a f first.0) (b g h) below ])

  pub alike : {A B : F → Type 0} (x : Option F) → ((f : F) → A f → B f) → ((f : F) → B f → A f) → Finds A x → Finds B x
  alike None to from found = λ f h. found f (from f h)
  alike (Some f) to from found = (to f found.0, λ g below h. found.1 g below (from g h))

  module _ {X : Type 0} (P : ℕ → X → List X → F → Type 0) (c : ℕ → X → List X → Option F) (common : List ℕ)
      (placed : (n : ℕ) (x : X) (xs : List X) (f : F) → P n x xs f → (rest : List ℕ) × (key f ≡ common ++ n ∷ rest))
      (finds : (n : ℕ) (x : X) (xs : List X) → Finds (P n x xs) (c n x xs)) where
    from_there : (n : ℕ) (xs : List X) (f : F) → Within P n xs f → (j : ℕ) × (rest : List ℕ) × (n ≤ j) × (key f ≡ common ++ j ∷ rest)
    from_there n [] f h = absurd h
    from_there n (x ∷ xs) f (inl h) = let r = placed n x xs f h in (n, r.0, omega arith, r.1)
    from_there n (x ∷ xs) f (inr h) = let (j, rest, low, e) = from_there (n + 1) xs f h in (j, rest, omega (arith, low), e)

    pub all_searched : (n : ℕ) (xs : List X) → Finds (Within P n xs) (searched c n xs)
    all_searched n [] = λ f h. h
    all_searched n (x ∷ xs) =
        either common n (c n x xs) (searched c (n + 1) xs)
        (λ f h. let r = placed n x xs f h in (n, r.0, omega arith, r.1))
        (λ f h. let (j, rest, low, e) = from_there (n + 1) xs f h in (j, rest, omega (arith, low), e))
        (finds n x xs) (all_searched (n + 1) xs)
