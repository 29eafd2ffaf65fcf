-- Sums and counts, as far as what is left needs them.
use Rattle.std.proofs.Common.{◌≡◌, ◌≢◌, ℕ, zero, suc, ◌+◌, ◌<◌, ◌≤◌, ◌⊎◌, inl, inr, Bool, true, false, cond, List, [], ◌∷◌, refl, sym, ap, subst, ◌∙◌, arith, filter, length}
use Rattle.element_state.proofs.Whole.{number_one}
use Rattle.layer_due.specs.Left.{sum_below}

below_or_not : (a b : ℕ) → (a < b) ⊎ (b ≤ a)
below_or_not a zero = inr (omega arith)
below_or_not zero (suc b) = inl (omega arith)
below_or_not (suc a) (suc b) = elim (below_or_not a b) [ inl lt ↦ inl (omega (arith, lt)) | inr le ↦ inr (omega (arith, le)) ]

-- ---- sums

pub sum_least : (f g : ℕ → ℕ) (n : ℕ) → ((k : ℕ) → k < n → g k ≤ f k) → sum_below g n ≤ sum_below f n
sum_least f g zero least = omega arith
sum_least f g (suc n) least =
    let rest = sum_least f g n (λ k lt. least k (omega (arith, lt))) in
    let last = least n (omega arith) in
    omega (arith, rest, last)

-- one of the numbers gives at most so many more, and no other gives more
pub sum_more : (f g : ℕ → ℕ) (n i c : ℕ) → ((k : ℕ) → k ≢ i → g k ≤ f k) → g i ≤ f i + c → sum_below g n ≤ sum_below f n + c
sum_more f g zero i c others own = omega arith
sum_more f g (suc n) i c others own = elim (number_one n i) [
  | inl is ↦
      let rest = sum_least f g n (λ k lt. others k (λ e. absurd (omega (arith, e, is, lt)))) in
      let last : g n ≤ f n + c = subst (λ (k : ℕ). g k ≤ f k + c) (sym is) own in
      omega (arith, rest, last)
  | inr ne ↦
      let rest = sum_more f g n i c others own in
      let last = others n ne in
      omega (arith, rest, last)
]

-- one of the numbers below the bound gives less, and no other gives more
pub sum_less : (f g : ℕ → ℕ) (n i : ℕ) → ((k : ℕ) → k ≢ i → g k ≤ f k) → i < n → g i < f i → sum_below g n < sum_below f n
sum_less f g zero i others below less = absurd (omega (arith, below))
sum_less f g (suc n) i others below less = elim (number_one n i) [
  | inl is ↦
      let rest = sum_least f g n (λ k lt. others k (λ e. absurd (omega (arith, e, is, lt)))) in
      let last : g n < f n = subst (λ (k : ℕ). g k < f k) (sym is) less in
      omega (arith, rest, last)
  | inr ne ↦
      let lower : i < n = elim (below_or_not i n) [ inl lt ↦ lt | inr le ↦ absurd (ne (omega (arith, le, below))) ] in
      let rest = sum_less f g n i others lower less in
      let last = others n ne in
      omega (arith, rest, last)
]

pub sum_same : (f g : ℕ → ℕ) (n : ℕ) → ((k : ℕ) → g k ≡ f k) → sum_below g n ≡ sum_below f n
sum_same f g zero same = refl
sum_same f g (suc n) same = ap (λ (s : ℕ). s + g n) (sum_same f g n same) ∙ ap (λ (s : ℕ). sum_below f n + s) (same n)

up_to : (f : ℕ → ℕ) (a b : ℕ) → a ≤ b → sum_below f a ≤ sum_below f b
up_to f a zero le = let z : 0 ≡ a = omega (arith, le) in subst (λ (k : ℕ). sum_below f k ≤ sum_below f 0) z (omega arith)
up_to f a (suc b) le = elim (below_or_not b a) [
  | inl lt ↦ let last : suc b ≡ a = omega (arith, le, lt) in subst (λ (k : ℕ). sum_below f k ≤ sum_below f (suc b)) last (omega arith)
  | inr under ↦ let rest = up_to f a b under in omega (arith, rest)
]

-- where nothing is given from a bound on, no sum is greater than the one below it
pub sum_within : (f : ℕ → ℕ) (m n : ℕ) → ((k : ℕ) → n ≤ k → f k ≡ 0) → sum_below f m ≤ sum_below f n
sum_within f zero n none = omega arith
sum_within f (suc m) n none = elim (below_or_not m n) [
  | inl lt ↦ up_to f (suc m) n (omega (arith, lt))
  | inr le ↦
      let rest = sum_within f m n none in
      let last = none m le in
      omega (arith, rest, last)
]

-- ---- how many pass a test

pub few_pass : {A : Type 0} (f : A → Bool) (xs : List A) → length (filter f xs) ≤ length xs
few_pass f [] = omega arith
few_pass f (x ∷ xs) = by (f x) (few_pass f xs)
  where
    by : (b : Bool) → length (filter f xs) ≤ length xs → length (cond b (x ∷ filter f xs) (filter f xs)) ≤ length (x ∷ xs)
    by true rest = omega (arith, rest)
    by false rest = omega (arith, rest)

pub same_count : {A : Type 0} (f g : A → Bool) (xs : List A) → ((x : A) → f x ≡ g x) → length (filter f xs) ≡ length (filter g xs)
same_count f g [] same = refl
same_count f g (x ∷ xs) same = ap (λ b. length (cond b (x ∷ filter f xs) (filter f xs))) (same x) ∙ by (g x) (same_count f g xs same)
  where
    by : (b : Bool) → length (filter f xs) ≡ length (filter g xs) → length (cond b (x ∷ filter f xs) (filter f xs)) ≡ length (cond b (x ∷ filter g xs) (filter g xs))
    by true rest = ap (λ (n : ℕ). suc n) rest
    by false rest = rest
