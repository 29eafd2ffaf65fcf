-- Cited by the contracts of is_silent.
-- The lines that ask for nothing.
use Rattle.std.specs.Prelude.{ℕ, List, [], ◌∷◌, Bool, true, false, ◌==◌, ◌||◌, ◌&&◌}

-- a line that begins with `#`
abbrev pub is_remark : List ℕ → Bool
is_remark [] = false
is_remark (b ∷ bs) = b == 35

-- spaces alone, or nothing
abbrev pub is_blank : List ℕ → Bool
is_blank [] = true
is_blank (b ∷ bs) = (b == 32) && is_blank bs

-- a line that has no reply
abbrev pub is_silent : List ℕ → Bool
is_silent line = is_remark line || is_blank line
