-- Cited by the contracts of Streams::next_line, and by the definitions of Conversation.
-- The lines of an input.
use Rattle.std.specs.Prelude.{◌≡◌, ◌<◌, ℕ, List, [], ◌∷◌, ⊤, length, Option, Some, None, if◌then◌else◌}
use Rattle.std.specs.List.{concat}
use mathlib.Core.List.{map}
use Rattle.std.specs.Io.{StopsAt}
use Rattle.std.specs.Io.BufRead.{ends_with_byte, strip_last}
use Rattle.std.specs.Io.KnownBytes.{Consumes, IsAtEnd}

-- a line without its ending: a line feed, and one carriage return before it
abbrev pub stripped : List ℕ → List ℕ
stripped raw = if ends_with_byte 10 raw then strip_last 13 (strip_last 10 raw) else raw

-- bytes with no line feed but at their end, of which there is one at least
abbrev pub IsRaw : List ℕ → Type 0
IsRaw raw = StopsAt raw 10 × (0 < length raw)

-- the next line of the input, and what is left after it
abbrev pub IsNext : Option (List ℕ) → Option (List ℕ) → Option (List ℕ) → Type 0
IsNext input rest None = Consumes input rest [] × IsAtEnd input
IsNext input rest (Some line) = (raw : List ℕ) × Consumes input rest raw × IsRaw raw × (line ≡ stripped raw)

abbrev pub AreRaw : List (List ℕ) → Type 0
AreRaw [] = ⊤
AreRaw (raw ∷ raws) = IsRaw raw × AreRaw raws

-- these are the lines of the bytes
abbrev pub AreLines : List ℕ → List (List ℕ) → Type 0
AreLines bytes lines = (raws : List (List ℕ)) × (bytes ≡ concat raws) × AreRaw raws × (lines ≡ map stripped raws)

-- a part of the next line was read, or all of it, or nothing
abbrev pub IsReadInPart : Option (List ℕ) → Option (List ℕ) → Type 0
IsReadInPart input rest = (raw : List ℕ) × Consumes input rest raw × StopsAt raw 10

-- these lines were read from the input, and this is left of it
abbrev pub HasRead : Option (List ℕ) → List (List ℕ) → Option (List ℕ) → Type 0
HasRead input lines rest = (bytes : List ℕ) × Consumes input rest bytes × AreLines bytes lines
