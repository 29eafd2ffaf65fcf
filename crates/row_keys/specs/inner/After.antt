-- Cited by private functions alone: after, after_byte, after_each and 5 more.
-- What follows a prefix.
use Rattle.std.specs.Prelude.{◌≡◌, ◌↔◌, ◌++◌, ℕ, List, Option, Some}

-- what is found follows the prefix in these bytes; nothing is, if they do not begin with it
abbrev pub IsAfter : List ℕ → List ℕ → Option (List ℕ) → Type 0
IsAfter prefix bytes found = (rest : List ℕ) → (found ≡ Some rest) ↔ (bytes ≡ prefix ++ rest)
