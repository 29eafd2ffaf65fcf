-- Cited by the contracts of state_word, push_hex, push_value.
-- How states, bytes and values are printed.
use Rattle.std.specs.Prelude.{ℕ, ◌/◌, ◌%◌, List, [], ◌∷◌, ◌++◌, ◌==◌, if◌then◌else◌, true, false, codes}
use Rattle.std.specs.Char.{digit_char}
use Rattle.std.specs.Fmt.{signed_decimal}
use Rattle.std.specs.List.{flat_map}
use Rattle.keycode.specs.declared.value.Value.{Value}
use Rattle.keycode.specs.declared.value.Value.TheVariants as value
use Rattle.schema_version.specs.declared.element.ElementState.{ElementState}
use Rattle.schema_version.specs.declared.element.ElementState.TheVariants as state

-- the word for a state
abbrev pub state_word : ElementState → List ℕ
state_word state.Absent = codes "absent"
state_word state.DeleteOnly = codes "delete_only"
state_word state.WriteOnly = codes "write_only"
state_word state.Public = codes "public"

-- a byte as two hexadecimal digits, the letters in lower case
abbrev pub hex_pair : ℕ → List ℕ
hex_pair b = digit_char (b / 16) ∷ digit_char (b % 16) ∷ []

-- bytes, one after the other
abbrev pub hex : List ℕ → List ℕ
hex = flat_map hex_pair

-- a quote is written twice, and any other byte once
abbrev pub doubled_byte : ℕ → List ℕ
doubled_byte b = if b == 39 then 39 ∷ 39 ∷ [] else b ∷ []

abbrev pub doubled : List ℕ → List ℕ
doubled = flat_map doubled_byte

-- a text in quotes
abbrev pub quoted : List ℕ → List ℕ
quoted text = 39 ∷ (doubled text ++ 39 ∷ [])

-- a value as the grammar has it
abbrev pub value_text : Value → List ℕ
value_text value.Null = codes "null"
value_text (value.Int n) = signed_decimal n
value_text (value.Text t) = quoted t
value_text (value.Bool true) = codes "true"
value_text (value.Bool false) = codes "false"
