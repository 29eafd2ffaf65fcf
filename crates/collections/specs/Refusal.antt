-- Cited by the contracts of lease::Timeline::standing, reorganise::Progress::read_piece, row_query::lemma_one_refusal, row_write::prepare.
-- The rule by which a call with several refusals gives one.
use Rattle.std.specs.Prelude.{◌≡◌, ℕ, ◌<◌, ◌⊎◌}

-- its condition holds, and none of a lower number does
abbrev pub IsFirst : {F : Type 0} → (F → ℕ) → (F → Type 0) → F → Type 0
IsFirst {F} rank Condition fault = Condition fault × ((other : F) → rank other < rank fault → ¬ (Condition other))

-- out of memory has no condition, but it too is given only if none of a lower number holds
abbrev pub IsRefusal : {F : Type 0} → (F → ℕ) → (F → Type 0) → F → F → Type 0
IsRefusal {F} rank Condition memory fault = ((fault ≡ memory) ⊎ Condition fault) × ((other : F) → rank other < rank fault → ¬ (Condition other))

-- nothing stands against an answer
abbrev pub IsClear : {F : Type 0} → (F → Type 0) → Type 0
IsClear {F} Condition = (fault : F) → ¬ (Condition fault)
