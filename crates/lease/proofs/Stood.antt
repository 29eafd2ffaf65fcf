-- Whether a version stood as the newest, by its place in the list of publications.
use Rattle.std.proofs.Common.{◌≡◌, ℕ, suc, zero, ◌+◌, ◌-◌, ◌<◌, ◌≤◌, ◌↔◌, List, [], ◌∷◌, length, reverse, get_or, ◌⊎◌, inl, inr, arith, subst, sym, ap, ◌∙◌}
use Rattle.std.proofs.lemmas.List.{length-reverse, get_or-reverse}
use Rattle.lease.specs.Timeline.{WasNewest}

-- the place of the version, counted from the newest
stood_from : (ps : List ℕ) (v g now : ℕ) → WasNewest ps v g now → (k : ℕ) × (k + v ≡ length ps) × (1 ≤ v) × (get_or ps k 0 ≤ g) × (g ≤ get_or (now ∷ ps) k 0)
stood_from [] v g now w = absurd w
stood_from (p ∷ rest) v g now (inl w) = (0, omega arith, omega arith, w.1, w.2)
stood_from (p ∷ rest) v g now (inr w) =
    let k = stood_from rest v g p w in
    (suc k.0, omega (arith, k.1), k.2, k.3, k.4)

stood_at : (ps : List ℕ) (v g now k : ℕ) → k + v ≡ length ps → 1 ≤ v → get_or ps k 0 ≤ g → g ≤ get_or (now ∷ ps) k 0 → WasNewest ps v g now
stood_at [] v g now k e some low high = absurd (omega arith)
stood_at (p ∷ rest) v g now zero e some low high = inl (omega arith, low, high)
stood_at (p ∷ rest) v g now (suc k) e some low high = inr (stood_at rest v g p k (omega arith) some low high)

-- only a number up to the newest is that of a version
pub stood_version : (ps xs : List ℕ) (v g now : ℕ) → reverse xs ≡ ps → WasNewest ps v g now → (1 ≤ v) × (v ≤ length xs)
stood_version ps xs v g now same w =
    let k = stood_from ps v g now w in
    (k.2, omega (arith, k.1, length-reverse xs, ap length same))

reversed_at : (xs : List ℕ) (k j : ℕ) → suc (k + j) ≡ length xs → get_or (reverse xs) k 0 ≡ get_or xs j 0
reversed_at xs k j e =
    let at : length xs - 1 - k ≡ j = omega arith in
    let in_range : k < length xs = omega arith in
    get_or-reverse xs k 0 in_range ∙ (λ i. get_or xs (at i) 0)

-- the newest version has stood since its publication, and each other one until the next one's
pub newest_stood : (xs : List ℕ) (g now j : ℕ) → suc j ≡ length xs → WasNewest (reverse xs) (suc j) g now ↔ ((get_or xs j 0 ≤ g) × (g ≤ now))
newest_stood xs g now j e =
    let at = reversed_at xs 0 j (omega arith) in
    (λ w. from at w, λ h. stood_at (reverse xs) (suc j) g now 0 (omega (arith, length-reverse xs)) (omega arith) (subst (λ (m : ℕ). m ≤ g) (sym at) h.0) h.1)
  where
    from : get_or (reverse xs) 0 0 ≡ get_or xs j 0 → WasNewest (reverse xs) (suc j) g now → (get_or xs j 0 ≤ g) × (g ≤ now)
    from at w =
        let k = stood_from (reverse xs) (suc j) g now w in
        let zero_th : k.0 ≡ 0 = omega (arith, k.1, length-reverse xs) in (
          subst (λ (m : ℕ). m ≤ g) at (subst (λ (m : ℕ). get_or (reverse xs) m 0 ≤ g) zero_th k.3),
          subst (λ (m : ℕ). g ≤ get_or (now ∷ reverse xs) m 0) zero_th k.4,
        )

pub earlier_stood : (xs : List ℕ) (g now j : ℕ) → suc j < length xs → WasNewest (reverse xs) (suc j) g now ↔ ((get_or xs j 0 ≤ g) × (g ≤ get_or xs (suc j) 0))
earlier_stood xs g now j e =
    let n = length xs - 2 - j in
    let here = reversed_at xs (suc n) j (omega arith) in
    let next = reversed_at xs n (suc j) (omega arith) in
    (λ w. from n (omega arith) here next w, λ h. stood_at (reverse xs) (suc j) g now (suc n) (omega (arith, length-reverse xs)) (omega arith) (subst (λ (m : ℕ). m ≤ g) (sym here) h.0) (subst (λ (m : ℕ). g ≤ m) (sym next) h.1))
  where
    from : (n : ℕ) → suc (suc (n + j)) ≡ length xs → get_or (reverse xs) (suc n) 0 ≡ get_or xs j 0 → get_or (reverse xs) n 0 ≡ get_or xs (suc j) 0 → WasNewest (reverse xs) (suc j) g now → (get_or xs j 0 ≤ g) × (g ≤ get_or xs (suc j) 0)
    from n at here next w =
        let k = stood_from (reverse xs) (suc j) g now w in
        let place : k.0 ≡ suc n = omega (arith, k.1, length-reverse xs) in (
          subst (λ (m : ℕ). m ≤ g) here (subst (λ (m : ℕ). get_or (reverse xs) m 0 ≤ g) place k.3),
          subst (λ (m : ℕ). g ≤ m) next (subst (λ (m : ℕ). g ≤ get_or (now ∷ reverse xs) m 0) place k.4),
        )

-- a version has stood from its publication until the next one's, and the newest until now
pub stood_until : (ps xs : List ℕ) (v g now u : ℕ) → reverse xs ≡ ps → 1 ≤ v → v ≤ length xs
    → ((v < length xs) × (u ≡ get_or xs v 0)) ⊎ ((length xs ≤ v) × (u ≡ now))
    → WasNewest ps v g now ↔ ((get_or xs (v - 1) 0 ≤ g) × (g ≤ u))
stood_until ps xs zero g now u same some most until = absurd (omega arith)
stood_until ps xs (suc j) g now u same some most (inl before) =
    let at : suc j - 1 ≡ j = omega arith in
    subst (λ (l : List ℕ). WasNewest l (suc j) g now ↔ ((get_or xs (suc j - 1) 0 ≤ g) × (g ≤ u))) same
    (subst (λ (i : ℕ). WasNewest (reverse xs) (suc j) g now ↔ ((get_or xs i 0 ≤ g) × (g ≤ u))) (sym at)
    (subst (λ (m : ℕ). WasNewest (reverse xs) (suc j) g now ↔ ((get_or xs j 0 ≤ g) × (g ≤ m))) (sym before.1) (earlier_stood xs g now j before.0)))
stood_until ps xs (suc j) g now u same some most (inr newest) =
    let at : suc j - 1 ≡ j = omega arith in
    subst (λ (l : List ℕ). WasNewest l (suc j) g now ↔ ((get_or xs (suc j - 1) 0 ≤ g) × (g ≤ u))) same
    (subst (λ (i : ℕ). WasNewest (reverse xs) (suc j) g now ↔ ((get_or xs i 0 ≤ g) × (g ≤ u))) (sym at)
    (subst (λ (m : ℕ). WasNewest (reverse xs) (suc j) g now ↔ ((get_or xs j 0 ≤ g) × (g ≤ m))) (sym newest.1) (newest_stood xs g now j (omega (arith, newest.0, most)))))
