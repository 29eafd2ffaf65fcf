-- Cited by the contracts of PageMap::count_empty, PageMap::nth_empty, row_map::RankedView, and of their parts.
-- Pairs with an empty value, in the order of their keys.
use Rattle.std.specs.Prelude.{ℕ, Bool, true, false, List, [], ◌∷◌, Option, Some, None, if◌then◌else◌, filter_map}
use Rattle.byte_map.specs.Sorted.{Entries}

abbrev pub is_empty : List ℕ → Bool
is_empty [] = true
is_empty (b ∷ bytes) = false

-- the key of a pair whose value is empty
abbrev pub empty_key : List ℕ × List ℕ → Option (List ℕ)
empty_key pair = if is_empty pair.1 then Some pair.0 else None

-- the keys of the pairs whose value is empty
abbrev pub empties : Entries (List ℕ) → List (List ℕ)
empties pairs = filter_map empty_key pairs
