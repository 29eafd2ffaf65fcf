-- Cited by the contract of is_alone, and by the definitions of Undo and LogCut.
-- Lines that are one word.
use Rattle.std.specs.Prelude.{ℕ, List, [], ◌∷◌, Option, Some, None, Bool, false}
use Rattle.script_tokens.specs.declared.token.Token.{Token}
use Rattle.script_tokens.specs.Productions.{is_word}

-- this word alone
abbrev pub is_alone : List ℕ → Option (List Token) → Bool
is_alone word None = false
is_alone word (Some []) = false
is_alone word (Some (t ∷ [])) = is_word word t
is_alone word (Some (t ∷ u ∷ ts)) = false
