-- Cited by private functions alone: FlatPairs::count_at, count_put.
-- How a change adds to the pairs with an empty value, and takes from them.
use Rattle.std.specs.Prelude.{ℕ, List, [], ◌∷◌, Option, Some, None, Result, Ok, Err, length, take, drop}
use Rattle.byte_map.specs.Sorted.{Entries}
use Rattle.page_map.specs.Empties.{empties}

-- 1 if a pair stands at the place and its value is empty, else 0
abbrev pub empties_at : Entries (List ℕ) → Result ℕ ℕ → ℕ
empties_at pairs (Ok at) = length (empties (take 1 (drop at pairs)))
empties_at pairs (Err at) = 0

-- 1 if the change gives the key an empty value, else 0
abbrev pub put_empty : List ℕ → Option (List ℕ) → ℕ
put_empty key None = 0
put_empty key (Some value) = length (empties ((key, value) ∷ []))
