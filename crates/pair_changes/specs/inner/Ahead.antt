-- Cited by private functions alone: Ahead.
-- A walk whose next pair can be looked at.
use Rattle.std.specs.Prelude.{◌≡◌, List, [], ◌∷◌, Option, Some, None}
use Rattle.row_map.specs.Rows.{Bytes}

-- the pairs that are left; none, if there is no next one
abbrev pub with_first : Option (Bytes × Bytes) → List (Bytes × Bytes) → List (Bytes × Bytes)
with_first None rest = []
with_first (Some pair) rest = pair ∷ rest

-- all but the first
abbrev pub rest_of : List (Bytes × Bytes) → List (Bytes × Bytes)
rest_of [] = []
rest_of (pair ∷ rest) = rest

-- the first of the pairs
abbrev pub IsFirst : Bytes × Bytes → List (Bytes × Bytes) → Type 0
IsFirst pair pairs = pairs ≡ pair ∷ rest_of pairs
