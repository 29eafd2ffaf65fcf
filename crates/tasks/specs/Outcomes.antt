-- Cited by the contracts of perform_all.
-- Outcomes of numbered tasks.
use Rattle.std.specs.Prelude.{◌≡◌, ℕ, ◌+◌, ◌<◌, ◌≤◌, List, [], ◌∷◌, length, All, slice_index_or, nat_lt, if◌then◌else◌}
use Rattle.claims.specs.Draws.{times}

-- what all these outcomes hold, by this measure
abbrev pub held_in : {O : Type 0} → (O → ℕ) → List (ℕ × O) → ℕ
held_in held [] = 0
held_in held (o ∷ os) = held o.1 + held_in held os

-- the same of lists of them
abbrev pub held_all : {O : Type 0} → (O → ℕ) → List (List (ℕ × O)) → ℕ
held_all held [] = 0
held_all held (os ∷ lists) = held_in held os + held_all held lists

abbrev pub numbers_of : {O : Type 0} → List (ℕ × O) → List ℕ
numbers_of [] = []
numbers_of (o ∷ os) = o.0 ∷ numbers_of os

-- the numbers below the total, in order
abbrev pub early : ℕ → List ℕ → List ℕ
early total [] = []
early total (x ∷ xs) = if nat_lt x total then x ∷ early total xs else early total xs

-- each outcome is as is said of the task of its number
abbrev pub AreFit : {O : Type 0} → (ℕ → O → Type 0) → List (ℕ × O) → Type 0
AreFit fits os = All (λ o. fits o.0 o.1) os

-- a worker of this plan, whose outcomes are as the plan says
abbrev pub IsOnPlan : {W P O : Type 0} → (W → P) → (P → ℕ → O → Type 0) → P → W → List (ℕ × O) → Type 0
IsOnPlan plan_of fits plan w os = (plan_of w ≡ plan) × AreFit (fits plan) os

-- the worker stays on its plan, and so do its outcomes
unfoldable pub StaysOnPlan : {W P O : Type 0} → (W → P) → (P → ℕ → O → Type 0) → W → List (ℕ × O) → W → List (ℕ × O) → Type 0
StaysOnPlan plan_of fits v os w ps = (plan_of w ≡ plan_of v) × (AreFit (fits (plan_of v)) os → AreFit (fits (plan_of v)) ps)

-- an outcome for each number below n, in order
abbrev pub IsRow : {O : Type 0} → ℕ → List (ℕ × O) → Type 0
IsRow n os = (length os ≡ n) × ((k : ℕ) (d : ℕ × _) → k < n → (slice_index_or os k d).0 ≡ k)

-- whatever stands at these places holds nothing, by this measure
abbrev pub AreFree : {O : Type 0} → (O → ℕ) → List ℕ → List (ℕ × O) → Type 0
AreFree held numbers os = (x : ℕ) (d : ℕ × _) → 0 < times x numbers → x < length os → held (slice_index_or os x d).1 ≡ 0

abbrev pub AreOnce : List ℕ → Type 0
AreOnce numbers = (x : ℕ) → times x numbers ≤ 1

-- an outcome that is as some plan says of the task of this number
pub record HasOutcome {P O : Type 0} (fits : P → ℕ → O → Type 0) (number : ℕ) : Type 0 where
  pub plan : P
  pub outcome : O
  pub is_fit : fits plan number outcome
