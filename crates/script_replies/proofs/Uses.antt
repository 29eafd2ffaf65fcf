-- The versions that a lease may still use, as a list.
use Rattle.std.proofs.Common.{◌≡◌, ℕ, ◌+◌, ◌<◌, ◌≤◌, List, [], ◌∷◌, length, ◌⊎◌, inl, inr, arith, sym, subst, ◌∙◌}
use Rattle.std.specs.Prelude.{zero, suc, Contains}
use Rattle.std.specs.List.Sorted.{IsStrictlyIncreasing}
use Rattle.lease.specs.Timeline.{Timeline, IsTimeline, IsValid, IsUsable, last_publication, newest}
use Rattle.lease.proofs.Uses.{usable_from, usable_last}
use Rattle.replay.specs.Replay.{Facts}
use Rattle.script_replies.specs.Status.{AreUsable}

-- ---- lists of one number and of two

one_rises : (x : ℕ) → IsStrictlyIncreasing (x ∷ [])
one_rises x k less = absurd (omega (arith, less))

two_rise : (x y : ℕ) → x < y → IsStrictlyIncreasing (x ∷ y ∷ [])
two_rise x y below zero less = below
two_rise x y below (suc k) less = absurd (omega (arith, less))

of_one : (x n : ℕ) → Contains (x ∷ []) n → n ≡ x
of_one x n (zero, less, is) = sym is
of_one x n (suc k, less, is) = absurd (omega (arith, less))

of_two : (x y n : ℕ) → Contains (x ∷ y ∷ []) n → (n ≡ x) ⊎ (n ≡ y)
of_two x y n (zero, less, is) = inl (sym is)
of_two x y n (suc zero, less, is) = inr (sym is)
of_two x y n (suc (suc k), less, is) = absurd (omega (arith, less))

-- ---- the last two versions

pub some_version : (line : Timeline) → IsValid line → 1 ≤ newest line
some_version line valid = published line.published valid.in_turn
  where
    published : (moments : List ℕ) → IsTimeline line.length moments → 1 ≤ length moments
    published [] turn = absurd turn
    published (moment ∷ moments) turn = omega arith

newest_usable : (line : Timeline) (now n : ℕ) → IsValid line → last_publication line ≤ now → n ≡ newest line → IsUsable line n now
newest_usable line now n valid past is = usable_from line n now valid past (inl is)

pub one_usable : (facts : Facts) (line : Timeline) (before last now : ℕ) (numbers : List ℕ)
    → line ≡ facts.line → now ≡ facts.moment → IsValid line → last_publication line ≤ now → last ≡ newest line → before + 1 ≡ last
    → (IsUsable line before now → ⊥) → numbers ≡ last ∷ [] → AreUsable facts numbers
one_usable facts line before last now numbers same moment valid past is next not list =
    subst (AreUsable facts) (sym list) (record { rising = one_rises last; usable = λ n. (within n, has n) })
  where
    within : (n : ℕ) → Contains (last ∷ []) n → IsUsable facts.line n facts.moment
    within n c = subst (λ (l : Timeline). IsUsable l n facts.moment) same (subst (IsUsable line n) moment (newest_usable line now n valid past (of_one last n c ∙ is)))

    usable : (n : ℕ) → IsUsable line n now → n ≡ last
    usable n u = elim (usable_last line n now valid past u) [
      | inl e ↦ e ∙ sym is
      | inr e ↦ absurd (not (subst (λ (v : ℕ). IsUsable line v now) (omega (arith, e.1, is, next)) u))
    ]

    has : (n : ℕ) → IsUsable facts.line n facts.moment → Contains (last ∷ []) n
    has n u = (0, omega arith, sym (usable n (subst (IsUsable line n) (sym moment) (subst (λ (l : Timeline). IsUsable l n facts.moment) (sym same) u))))

pub two_usable : (facts : Facts) (line : Timeline) (before last now : ℕ) (numbers : List ℕ)
    → line ≡ facts.line → now ≡ facts.moment → IsValid line → last_publication line ≤ now → last ≡ newest line → before + 1 ≡ last
    → IsUsable line before now → numbers ≡ before ∷ last ∷ [] → AreUsable facts numbers
two_usable facts line before last now numbers same moment valid past is next used list =
    subst (AreUsable facts) (sym list) (record { rising = two_rise before last (omega (arith, next)); usable = λ n. (within n, has n) })
  where
    usable : (n : ℕ) → Contains (before ∷ last ∷ []) n → IsUsable line n now
    usable n c = elim (of_two before last n c) [
      | inl e ↦ subst (λ (v : ℕ). IsUsable line v now) (sym e) used
      | inr e ↦ newest_usable line now n valid past (e ∙ is)
    ]

    within : (n : ℕ) → Contains (before ∷ last ∷ []) n → IsUsable facts.line n facts.moment
    within n c = subst (λ (l : Timeline). IsUsable l n facts.moment) same (subst (IsUsable line n) moment (usable n c))

    listing : (n : ℕ) → IsUsable line n now → Contains (before ∷ last ∷ []) n
    listing n u = elim (usable_last line n now valid past u) [
      | inl e ↦ (1, omega arith, is ∙ sym e)
      | inr e ↦ (0, omega arith, omega (arith, e.1, is, next))
    ]

    has : (n : ℕ) → IsUsable facts.line n facts.moment → Contains (before ∷ last ∷ []) n
    has n u = listing n (subst (IsUsable line n) (sym moment) (subst (λ (l : Timeline). IsUsable l n facts.moment) (sym same) u))
