-- Cited by the answers of last_part.
use Rattle.std.proofs.Common.{◌≡◌, ℕ, ◌+◌, ◌-◌, ◌<◌, ◌≤◌, List, length, get_or, drop, subst, sym, arith, Some}
use Rattle.std.specs.Prelude.{slice_get}
use Rattle.std.proofs.lemmas.Option.{slice_get-get_or}
use Rattle.std.specs.List.{AllByRecursion}
use Rattle.std.proofs.lemmas.List.{drop_more}
use Rattle.reorganise.specs.declared.work.Progress.{Progress}
use Rattle.row_map.specs.Rows.{Bytes}
use Rattle.layer_calls.specs.Pieces.{CanGo}

-- the piece cannot go on to the key of this pair
abbrev pub Stays : Progress → ℕ → Bytes → (Bytes × Bytes) → Type 0
Stays progress piece cursor pair = ¬ (CanGo progress piece cursor pair.0)

-- the pair before the place, and what is true from the place on
pub here_and_on : {X : Type 0} (P : X → Type 0) (xs : List X) (at : ℕ) (d : X) → 0 < at → at ≤ length xs → AllByRecursion P (drop at xs) → (slice_get xs (at - 1) ≡ Some (get_or xs (at - 1) d)) × AllByRecursion P (drop (at - 1 + 1) xs)
here_and_on P xs at d some bounded all =
    let next : at ≡ at - 1 + 1 = omega arith in
    (slice_get-get_or xs (at - 1) d (omega arith), subst (λ (n : ℕ). AllByRecursion P (drop n xs)) next all)

-- what is true from a place on is true from the one before it on
pub one_less : {X : Type 0} (P : X → Type 0) (xs : List X) (at : ℕ) (d : X) → 0 < at → at ≤ length xs → AllByRecursion P (drop at xs) → P (get_or xs (at - 1) d) → (at - 1 ≤ length xs) × AllByRecursion P (drop (at - 1) xs)
one_less P xs at d some bounded all here =
    let next : at ≡ at - 1 + 1 = omega arith in
    let rest = subst (λ (n : ℕ). AllByRecursion P (drop n xs)) next all in
    (omega arith, subst (AllByRecursion P) (sym (drop_more xs (at - 1) d (omega arith))) (here, rest))
