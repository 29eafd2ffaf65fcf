-- Cited by the contracts of Opened, Claims::finish, TableRule, Play and 3 more.
-- Numbers that seats draw from one word.
use Rattle.std.specs.Prelude.{◌≡◌, ℕ, ◌+◌, ◌-◌, ◌<◌, ◌≤◌, List, [], ◌∷◌, ◌++◌, length, slice_index, ◌==◌, nat_lt, if◌then◌else◌, Bool}
use mathlib.Core.Option.{some}
use lib.ListN.{get_elem?}
use Rattle.atomic_table.specs.Table.{State, Me, Step}
use Rattle.claims.specs.declared.rule.Hand.{Hand}
use Rattle.claims.specs.declared.rule.Terms.{Terms}

abbrev pub hand : ℕ → ℕ → List ℕ → Hand
hand total seats drawn = record { total = total; seats = seats; drawn = drawn }

abbrev pub one_if : ℕ → ℕ → ℕ
one_if x y = if y == x then 1 else 0

abbrev pub one_if_true : Bool → ℕ
one_if_true b = if b then 1 else 0

-- how often x is in the list
abbrev pub times : ℕ → List ℕ → ℕ
times x [] = 0
times x (y ∷ ys) = one_if x y + times x ys

abbrev pub late_one : ℕ → ℕ → ℕ
late_one total y = if nat_lt y total then 0 else 1

-- how many numbers of the list are the total or more
abbrev pub late : ℕ → List ℕ → ℕ
late total [] = 0
late total (y ∷ ys) = late_one total y + late total ys

-- f of each view, added up
abbrev pub total_of : (Hand → ℕ) → List Hand → ℕ
total_of f [] = 0
total_of f (v ∷ vs) = f v + total_of f vs

-- 1 for the numbers below n, and 0 for the others
abbrev pub once_below : ℕ → ℕ → ℕ
once_below x n = if nat_lt x n then 1 else 0

-- a view that stands for no seat has drawn nothing, any other knows the total, and has drawn no more late numbers than it stands for seats
abbrev pub FitsHand : ℕ → Hand → Type 0
FitsHand total v = (v.seats ≡ 0 → v.drawn ≡ []) × (0 < v.seats → v.total ≡ total) × (late total v.drawn ≤ v.seats)

-- all views together hold the numbers below the word, each once
abbrev pub Drawn : Terms → State (Unit {0}) Hand → Type 0
Drawn k s =
    (length s.words ≡ 1)
    × (total_of (λ v. v.seats) s.views ≡ k.seats)
    × ((x : ℕ) → total_of (λ v. times x v.drawn) s.views ≡ once_below x (slice_index s.words 0))
    × (total_of (λ v. late k.total v.drawn) s.views ≡ slice_index s.words 0 - k.total)
    × ((id : ℕ) (v : Hand) → get_elem? s.views id ≡ some v → FitsHand k.total v)
    × (k.total + k.seats < 2000000)

-- the seat draws the number found
abbrev pub Draws : Step (Unit {0}) → Me (Unit {0}) Hand → ℕ → Me (Unit {0}) Hand → Type 0
Draws st m found m' = (m'.0 ≡ hand m.0.total m.0.seats (m.0.drawn ++ found ∷ [])) × (m'.1 ≡ m.1)
