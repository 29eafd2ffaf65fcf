-- The test of a timeline's parts decides whether the timeline is valid.
use Rattle.std.proofs.Common.{◌≡◌, ℕ, ◌+◌, ◌^◌, ◌≤◌, Bool, true, false, ◌&&◌, ◌==◌, List, [], ◌∷◌, inl, inr, refl, sym, subst, arith}
use Rattle.std.specs.Prelude.{nat_le}
use Rattle.std.specs.Bool.{Decides}
use Rattle.std.specs.List.{All, AllByRecursion}
use Rattle.std.proofs.lemmas.Bool.Decides.{Decides-and, Decides-eqb, Decides-like, leb_tells}
use Rattle.std.proofs.lemmas.List.Elements.{All-nil, All-cons, All-head, All-tail}
use mathlib.Core.List.{reverse_aux}
use Rattle.lease.specs.Timeline.{IsTimeline, IsValid, max_moment}
use Rattle.lease.specs.Restored.{line_of, are_in_turn, is_timeline}

pub not_both : {b : Bool} → b ≡ true → b ≡ false → ⊥
not_both p q = cc

at_most : (a b : ℕ) → Decides (nat_le a b) (a ≤ b)
at_most a b = elim (leb_tells a b) [ inl p ↦ (λ e. p.1, λ e. p.0) | inr p ↦ (λ e. absurd (not_both e p.0), λ le. absurd (omega (arith, p.1, le))) ]

abbrev IsMoment : ℕ → Type 0
IsMoment moment = moment ≤ max_moment

-- moments, of which each comes before the next, put one by one before those that are there
all_onto : (ms acc : List ℕ) → AllByRecursion IsMoment ms → All IsMoment acc → All IsMoment (reverse_aux ms acc)
all_onto [] acc all there = there
all_onto (m ∷ ms) acc all there = all_onto ms (m ∷ acc) all.1 (All-cons IsMoment m acc all.0 there)

all_from : (ms acc : List ℕ) → All IsMoment (reverse_aux ms acc) → AllByRecursion IsMoment ms × All IsMoment acc
all_from [] acc all = (tt, all)
all_from (m ∷ ms) acc all = let r = all_from ms (m ∷ acc) all in ((All-head IsMoment m acc r.1, r.0), All-tail IsMoment m acc r.1)

earlier_part : (length : ℕ) (ms : List ℕ) (x : ℕ) (xs : List ℕ) → IsTimeline length (reverse_aux ms (x ∷ xs)) → IsTimeline length (x ∷ xs)
earlier_part length [] x xs t = t
earlier_part length (m ∷ ms) x xs t = (earlier_part length ms m (x ∷ xs) t).1

-- what the test of the later moments says
InTurn : ℕ → ℕ → List ℕ → List ℕ → Type 0
InTurn length last earlier ms = IsTimeline length (reverse_aux ms (last ∷ earlier)) × AllByRecursion IsMoment ms

in_turn : (length last : ℕ) (earlier ms : List ℕ) → IsTimeline length (last ∷ earlier) → Decides (are_in_turn length last ms) (InTurn length last earlier ms)
unfolding InTurn
in_turn length last earlier [] so_far = (λ e. (so_far, tt), λ h. refl)
in_turn length last earlier (m ∷ ms) so_far = by (nat_le (last + length) m) refl (λ le. in_turn length m (last ∷ earlier) ms (le, so_far))
  where
    by : (b : Bool) → nat_le (last + length) m ≡ b → (last + length ≤ m → Decides (are_in_turn length m ms) (InTurn length m (last ∷ earlier) ms)) → Decides (b && (nat_le m max_moment && are_in_turn length m ms)) (InTurn length last earlier (m ∷ ms))
    by false is more = (
      λ e. cc,
      λ h. absurd (not_both ((at_most (last + length) m).1 (earlier_part length ms m (last ∷ earlier) h.0).0) is),
    )
    by true is more =
        Decides-like (nat_le m max_moment && are_in_turn length m ms)
        (λ (within, rest). (rest.0, (within, rest.1)))
        (λ (turn, all). (all.0, (turn, all.1)))
        (Decides-and (nat_le m max_moment) (are_in_turn length m ms) (at_most m max_moment) (more ((at_most (last + length) m).0 is)))

pub decides : (length : ℕ) (moments : List ℕ) → Decides (is_timeline length moments) (IsValid (line_of length moments))
unfolding InTurn
decides length [] = (λ e. cc, λ v. absurd v.in_turn)
decides length (first ∷ ms) = by (first == 0) refl
  where
    by : (b : Bool) → (first == 0) ≡ b → Decides (b && (nat_le 1 length && (nat_le length (2 ^ 32) && are_in_turn length 0 ms))) (IsValid (line_of length (first ∷ ms)))
    by false is = (λ e. cc, λ v. absurd (not_both ((Decides-eqb first 0).1 (earlier_part length ms first [] v.in_turn)) is))
    by true is =
        let zero_first : first ≡ 0 = (Decides-eqb first 0).0 is in
        subst (λ f. Decides (nat_le 1 length && (nat_le length (2 ^ 32) && are_in_turn length 0 ms)) (IsValid (line_of length (f ∷ ms)))) (sym zero_first)
        (Decides-like (nat_le 1 length && (nat_le length (2 ^ 32) && are_in_turn length 0 ms))
        (λ (some, (few, rest)). record { within = (some, few); in_turn = rest.0; moments = all_onto ms (0 ∷ []) rest.1 (All-cons IsMoment 0 [] (omega arith) (All-nil IsMoment)) })
        (λ v. (v.within.0, (v.within.1, (v.in_turn, (all_from ms (0 ∷ []) v.moments).0))))
        (Decides-and (nat_le 1 length) (nat_le length (2 ^ 32) && are_in_turn length 0 ms) (at_most 1 length)
        (Decides-and (nat_le length (2 ^ 32)) (are_in_turn length 0 ms) (at_most length (2 ^ 32)) (in_turn length 0 [] ms refl))))
