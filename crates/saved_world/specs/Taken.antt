-- Cited by the contracts of Pages.
-- Pairs where they lie in a store.
use Rattle.std.specs.Prelude.{ℕ, List, [], Option, Some, None}
use Rattle.std.specs.Borrow.{Bor}
use mathlib.Core.List.{map as each}
use Rattle.row_map.specs.Rows.{Bytes}

abbrev pub plain : Bor (List ℕ) × Bor (List ℕ) → Bytes × Bytes
plain pair = (pair.0.now, pair.1.now)

-- the pairs that were taken, if any were
abbrev pub all_plain : Option (List (Bor (List ℕ) × Bor (List ℕ))) → List (Bytes × Bytes)
all_plain None = []
all_plain (Some pairs) = each plain pairs
