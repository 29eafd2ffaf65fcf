-- Cited by the definitions of reorganise/Laws.
-- Pieces that join one another and have all ended have passed the whole range.
use Rattle.std.specs.Prelude.{◌≡◌, List, [], ◌∷◌}
use Rattle.row_map.specs.Rows.{Bytes}
use Rattle.element_state.specs.Core.{PassedSpan}

-- one piece of a reorganisation: from its lower to below its upper bound, and how far it has come
pub record Piece : Type 0 where
  pub low : Bytes
  pub high : Bytes
  pub cursor : Bytes

-- what the pieces have passed
abbrev pub passed_spans : List Piece → List PassedSpan
passed_spans [] = []
passed_spans (p ∷ ps) = record { low = p.low; cursor = p.cursor } ∷ passed_spans ps

-- each piece's upper bound is the next one's lower bound, from low to high
abbrev pub AreJoined : Bytes → Bytes → List Piece → Type 0
AreJoined low high [] = low ≡ high
AreJoined low high (p ∷ ps) = (p.low ≡ low) × AreJoined p.high high ps

-- each piece has come to its upper bound
abbrev pub HaveEnded : List Piece → Type 0
HaveEnded [] = Unit {0}
HaveEnded (p ∷ ps) = (p.cursor ≡ p.high) × HaveEnded ps
