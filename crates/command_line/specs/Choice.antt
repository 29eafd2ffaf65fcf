-- Cited by the contracts of options.
-- What a command line may choose.
use Rattle.std.specs.Prelude.{ℕ, List, [], ◌∷◌, Bool, false, IsTrue, String, string_bytes, codes}
use Rattle.std.specs.Str.{bytes_eq}
use Rattle.std.specs.declared.alloc.Global.{Global}
use Rattle.command_line.specs.declared.choice.Chosen.{Chosen}
use Rattle.command_line.specs.declared.choice.Chosen.TheVariants.{Run, Prompt, Load, Soak, Rollout}
use Rattle.command_line.specs.LoadSize.{IsLoadSize, IsRate}
use Rattle.command_line.specs.SoakSize.{IsSoakSize}

-- whether the word after the program's own name is this one
abbrev pub is_named : List (String Global) → List ℕ → Bool
is_named (program ∷ word ∷ rest) name = bytes_eq (string_bytes word) name
is_named (program ∷ []) name = false
is_named [] name = false

-- a load with each number of its size, and its rate if it has one, in its range
abbrev pub IsLoad : Chosen → Type 0
IsLoad (Run file stops) = ⊥
IsLoad (Prompt file at is_json) = ⊥
IsLoad (Load size rate sampled timed) = IsLoadSize size × IsRate rate
IsLoad (Soak size) = ⊥
IsLoad Rollout = ⊥

-- a soak with each number of its size in its range
abbrev pub IsSoak : Chosen → Type 0
IsSoak (Run file stops) = ⊥
IsSoak (Prompt file at is_json) = ⊥
IsSoak (Load size rate sampled timed) = ⊥
IsSoak (Soak size) = IsSoakSize size
IsSoak Rollout = ⊥

-- Each is chosen only by its word, and each number of a load's or a soak's size, and a load's rate, is in its range.
abbrev pub IsChoiceOf : List (String Global) → Chosen → Type 0
IsChoiceOf words (Run file stops) = IsTrue (is_named words (codes "run"))
IsChoiceOf words (Prompt file at is_json) = IsTrue (is_named words (codes "prompt"))
IsChoiceOf words (Load size rate sampled timed) = IsTrue (is_named words (codes "load")) × IsLoadSize size × IsRate rate
IsChoiceOf words (Soak size) = IsTrue (is_named words (codes "soak")) × IsSoakSize size
IsChoiceOf words Rollout = IsTrue (is_named words (codes "rollout"))
