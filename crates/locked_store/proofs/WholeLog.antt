-- Receipts at places of their own that are as many as the places have one place each.
use Rattle.std.proofs.Common.{◌≡◌, ◌≢◌, ℕ, zero, suc, ◌+◌, ◌-◌, ◌<◌, ◌≤◌, List, [], ◌∷◌, length, refl, sym, ap, ◌∙◌, arith, rules, inl, inr, ◌⊎◌, Some}
use Rattle.std.specs.Prelude.{slice_get, ◌==◌, if◌then◌else◌}
use mathlib.Core.Logic.{dite}
use native.Mathlib.Decide.{ℕ_discrete}
use Rattle.replay.specs.declared.entry.Entry.{Entry}
use Rattle.rollout.specs.Receipt.{Receipt}
use Rattle.std.proofs.lemmas.Option.{slice_get_within}
use Rattle.locked_store.specs.Receipts.{EachOnce, IsReceiptAt, ReceiptsAreTheLog}

abbrev one : ℕ → ℕ → ℕ
one x p = if x == p then 1 else 0

one_same : (x p : ℕ) → x ≡ p → one x p ≡ 1
one_same x p e = grind (arith, rules)

one_other : (x p : ℕ) → x ≢ p → one x p ≡ 0
one_other x p ne = grind (arith, rules)

-- how many receipts have this place
abbrev hits : List Receipt → ℕ → ℕ
hits [] p = 0
hits (r ∷ rs) p = one r.place p + hits rs p

-- f of the n places after `since`, added up
abbrev sum_after : (ℕ → ℕ) → ℕ → ℕ → ℕ
sum_after f since zero = 0
sum_after f since (suc n) = f (since + suc n) + sum_after f since n

sum_none : (since n : ℕ) → sum_after (λ p. 0) since n ≡ 0
sum_none since zero = refl
sum_none since (suc n) = omega (arith, sum_none since n)

sum_both : (f g : ℕ → ℕ) (since n : ℕ) → sum_after (λ p. f p + g p) since n ≡ sum_after f since n + sum_after g since n
sum_both f g since zero = refl
sum_both f g since (suc n) = omega (arith, sum_both f g since n)

sum_past : (x since n : ℕ) → since + n < x → sum_after (one x) since n ≡ 0
sum_past x since zero lt = refl
sum_past x since (suc n) lt = omega (arith, one_other x (since + suc n) (λ e. absurd (omega arith)), sum_past x since n (omega arith))

sum_one : (x since n : ℕ) → since < x → x ≤ since + n → sum_after (one x) since n ≡ 1
sum_one x since zero lt le = absurd (omega arith)
sum_one x since (suc n) lt le =
    dite (ℕ_discrete x (since + suc n))
    (λ e. omega (arith, one_same x (since + suc n) e, sum_past x since n (omega arith)))
    (λ ne. omega (arith, one_other x (since + suc n) ne, sum_one x since n lt (omega arith)))

abbrev AreWithin : ℕ → ℕ → List Receipt → Type 0
AreWithin since n rs = (i : ℕ) (r : Receipt) → slice_get rs i ≡ Some r → (since < r.place) × (r.place ≤ since + n)

-- receipts within so many places are counted place by place
sum_hits : (rs : List Receipt) (since n : ℕ) → AreWithin since n rs → sum_after (hits rs) since n ≡ length rs
sum_hits [] since n within = sum_none since n
sum_hits (r ∷ rs) since n within =
    let own = within 0 r refl in
    let rest = sum_hits rs since n (λ i q at. within (suc i) q at) in
    omega (arith, sum_both (one r.place) (hits rs) since n, sum_one r.place since n own.0 own.1, rest)

sum_le : (f : ℕ → ℕ) (since n : ℕ) → ((p : ℕ) → f p ≤ 1) → sum_after f since n ≤ n
sum_le f since zero few = omega arith
sum_le f since (suc n) few = omega (arith, few (since + suc n), sum_le f since n few)

-- n numbers of at most 1 whose sum is n are 1
each_one : (f : ℕ → ℕ) (since n p : ℕ) → ((p : ℕ) → f p ≤ 1) → sum_after f since n ≡ n → since < p → p ≤ since + n → f p ≡ 1
each_one f since zero p few all lt le = absurd (omega arith)
each_one f since (suc n) p few all lt le =
    let top = few (since + suc n) in
    let low = sum_le f since n few in
    dite (ℕ_discrete p (since + suc n))
    (λ e. ap f e ∙ omega (arith, all, top, low))
    (λ ne. each_one f since n p few (omega (arith, all, top, low)) lt (omega arith))

abbrev Found : List Receipt → ℕ → Type 0
Found rs p = (i : ℕ) × (r : Receipt) × (slice_get rs i ≡ Some r) × (r.place ≡ p)

found : (rs : List Receipt) (p : ℕ) → 0 < hits rs p → Found rs p
found [] p some = absurd (omega arith)
found (r ∷ rs) p some =
    dite (ℕ_discrete r.place p)
    (λ e. (0, r, refl, e))
    (λ ne. let rest = found rs p (omega (arith, some, one_other r.place p ne)) in (suc rest.0, rest.1, rest.2, rest.3))

none_past : (rs : List Receipt) (p : ℕ) → ¬ (Found rs p) → hits rs p ≡ 0
none_past rs p none = dite (ℕ_discrete (hits rs p) 0) (λ e. e) (λ ne. absurd (none (found rs p (omega arith))))

once_tail : (r : Receipt) (rs : List Receipt) → EachOnce (r ∷ rs) → EachOnce rs
once_tail r rs once i j q t lt at bt = once (suc i) (suc j) q t (omega arith) at bt

-- no place has two
few : (rs : List Receipt) → EachOnce rs → (p : ℕ) → hits rs p ≤ 1
few [] once p = omega arith
few (r ∷ rs) once p =
    dite (ℕ_discrete r.place p)
    (λ e. omega (arith, one_same r.place p e, none_past rs p (λ f. once (suc f.0) 0 f.1 r (omega arith) f.2 refl (e ∙ sym f.3))))
    (λ ne. omega (arith, one_other r.place p ne, few rs (once_tail r rs once) p))

same_place : (before : ℕ) (log : List Entry) (rs : List Receipt) (p i j : ℕ) → EachOnce rs → IsReceiptAt before log rs p i → IsReceiptAt before log rs p j → j ≡ i
same_place before log rs p i j once here there =
    dite (ℕ_discrete j i)
    (λ e. e)
    (λ ne. absurd (apart (below i j ne)))
  where
    below : (i j : ℕ) → j ≢ i → (j < i) ⊎ (i < j)
    below i j ne = grind (arith, rules)

    apart : (j < i) ⊎ (i < j) → ⊥
    apart (inl lt) = once i j here.0 there.0 lt here.1 there.1 (there.2 ∙ sym here.2)
    apart (inr lt) = once j i there.0 here.0 lt there.1 here.1 (here.2 ∙ sym there.2)

pub are_the_log : ReceiptsAreTheLog
are_the_log before log since rs agree after counted p lt le =
    let n = length rs in
    let within : AreWithin since n rs = λ i r at. let inside = slice_get_within log (r.place - (before + 1)) r.entry (agree.stands i r at).1 in let some = (agree.stands i r at).0 in (after i r at, omega (arith, inside, some, counted)) in
    let one_each = each_one (hits rs) since n p (few rs agree.once) (sum_hits rs since n within) lt (omega (arith, le, counted)) in
    let f = found rs p (omega (arith, one_each)) in
    let here : IsReceiptAt before log rs p f.0 = (f.1, f.2, f.3, agree.stands f.0 f.1 f.2) in
    (f.0, here, λ j there. same_place before log rs p f.0 j agree.once here there)
