-- Cited by the definitions of Checks.
-- Which values may be the default of a required column.
use Rattle.std.specs.Prelude.{◌^◌, ℤ, pos, negsuc, Bool, true, nat_lt}
use Rattle.std.specs.Str.{is_utf8}
use Rattle.keycode.specs.declared.value.Value.{Value}
use Rattle.keycode.specs.declared.value.Value.TheVariants.{Null, Int, Text, Bool as Flag}

-- whether a number has 64 bits
abbrev pub has_word : ℤ → Bool
has_word (pos n) = nat_lt n (2 ^ 63)
has_word (negsuc n) = nat_lt n (2 ^ 63)

-- IsValue as a test: every value of the program passes it
abbrev pub is_value : Value → Bool
is_value Null = true
is_value (Int n) = has_word n
is_value (Text t) = is_utf8 t
is_value (Flag b) = true
