-- Cited by the contracts of answer_text and of the functions below it, and by the definitions of prompt.
-- The line of JSON that answers a line of input.
use Rattle.std.specs.Prelude.{◌==◌, ◌∷◌, ◌++◌, ℕ, List, [], codes, if◌then◌else◌}
use mathlib.Core.List.{map as each}
use Rattle.script_rows.specs.Unknown.{StartsWith}
use Rattle.serde_json.specs.Data.{Data, string, array}
use Rattle.serde_json.specs.View.{items_of}
use Rattle.serde_json.specs.Written.{compact_text}

-- a byte before the first of these lines, or a line of its own if there is none
abbrev pub with_first : ℕ → List (List ℕ) → List (List ℕ)
with_first b [] = (b ∷ []) ∷ []
with_first b (l ∷ ls) = (b ∷ l) ∷ ls

-- the lines of a text, without their line feeds; what follows the last line feed is no line, if it is empty
abbrev pub lines_of : List ℕ → List (List ℕ)
lines_of [] = []
lines_of (b ∷ bs) = if b == 10 then [] ∷ lines_of bs else with_first b (lines_of bs)

abbrev pub lines_data : List (List ℕ) → Data
lines_data lines = array (items_of (each string lines))

-- what follows the last line feed, as the data of a line, if it is one
abbrev pub last_data : List ℕ → List Data
last_data [] = []
last_data (b ∷ bs) = string (b ∷ bs) ∷ []

-- the lines of a text as a list of texts in JSON
abbrev pub lines_text : List ℕ → List ℕ
lines_text text = compact_text (lines_data (lines_of text))

-- an object whose first two members are the lines of the reply and those of the remarks
abbrev pub head_text : List ℕ → List ℕ → List ℕ
head_text reply remark = codes "{\"reply\":" ++ (lines_text reply ++ (codes ",\"remarks\":" ++ lines_text remark))

abbrev pub IsAnswerText : List ℕ → List ℕ → List ℕ → Type 0
IsAnswerText reply remark text = StartsWith (head_text reply remark) text
