-- Cited by private functions alone: count_left, count_all.
-- The pairs with an empty value in pieces.
use Rattle.std.specs.Prelude.{ℕ, ◌+◌, List, [], ◌∷◌, length}
use Rattle.row_map.specs.Rows.{Pairs}
use Rattle.row_map.specs.Walk.{empties, key_range}
use Rattle.reorganise.specs.declared.work.Span.{Span}

-- in each piece, those from its cursor on
abbrev pub empties_left : Pairs → List Span → ℕ
empties_left pairs [] = 0
empties_left pairs (piece ∷ pieces) = length (empties (key_range pairs piece.cursor piece.high)) + empties_left pairs pieces

-- in each piece, all of them
abbrev pub empties_in : Pairs → List Span → ℕ
empties_in pairs [] = 0
empties_in pairs (piece ∷ pieces) = length (empties (key_range pairs piece.low piece.high)) + empties_in pairs pieces
