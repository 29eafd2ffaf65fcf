-- Cited by the contracts of Progress::begin.
-- Pieces share a range.
use Rattle.std.specs.Prelude.{◌≡◌, ℕ, true, List, [], ◌∷◌, ◌+◌, if◌then◌else◌}
use Rattle.std.specs.Ordering.{is_le}
use Rattle.keycode.specs.Order.{bytes_cmp}
use Rattle.row_map.specs.Rows.{Bytes}
use Rattle.row_map.specs.Ranges.{is_within}
use Rattle.reorganise.specs.declared.work.Span.{Span}

-- each piece ends where the next one begins, from low to high
abbrev pub AreJoined : Bytes → Bytes → List Span → Type 0
AreJoined low high [] = low ≡ high
AreJoined low high (piece ∷ pieces) = (piece.low ≡ low) × (is_le (bytes_cmp piece.low piece.high) ≡ true) × AreJoined piece.high high pieces

-- how many pieces have the key within their bounds
abbrev pub holders : Bytes → List Span → ℕ
holders key [] = 0
holders key (piece ∷ pieces) = (if is_within piece.low piece.high key then 1 else 0) + holders key pieces

-- a key from low to below high lies in just one piece, and any other key in none
abbrev pub IsPartition : Bytes → Bytes → List Span → Type 0
IsPartition low high pieces = (key : Bytes) → holders key pieces ≡ (if is_within low high key then 1 else 0)
