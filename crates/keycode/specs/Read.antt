-- Cited by the contracts of read_value, decode, row_map::read_key.
-- Reading values from left to right, with the first fault that is met.
use Rattle.std.specs.Prelude.{ℕ, zero, suc, ◌+◌, ◌-◌, ◌^◌, ℤ, pos, negsuc, true, false, List, [], ◌∷◌, ◌++◌, length, take, drop, Result, Ok, Err, nat_lt, ◌==◌, if◌then◌else◌}
use Rattle.std.specs.Int.{w64, from_be_bytes}
use Rattle.std.specs.Str.{is_utf8}
use Rattle.collections.specs.Answers.{FailsOr, GivesOr}
use Rattle.keycode.specs.declared.fault.KeyFault.{KeyFault}
use Rattle.keycode.specs.declared.fault.KeyFault.TheVariants.{Short, BadTag, BadEscape, NotUtf8, TextTooLong, Memory}
use Rattle.keycode.specs.declared.value.Value.{Value}
use Rattle.keycode.specs.declared.value.Value.TheVariants.{Null, Int, Text, Bool}

infixl 10 ◌>>=◌
abbrev pub ◌>>=◌ : {A B : Type 0} → Result A KeyFault → (A → Result B KeyFault) → Result B KeyFault
(Ok x) >>= f = f x
(Err e) >>= f = Err e

-- What a function returned, seen by view, is what reading gives, unless memory ran out.
abbrev pub Fails : {Y : Type 0} → KeyFault → Result Y KeyFault → Type 0
Fails e read = FailsOr Memory e read

abbrev pub Gives : {X Y : Type 0} → (X → Y) → Result X KeyFault → Result Y KeyFault → Type 0
Gives view r read = GivesOr Memory view r read

-- the number that was moved up
abbrev pub unflipped : ℕ → ℤ
unflipped n = if nat_lt n (2 ^ 63) then negsuc (2 ^ 63 - (n + 1)) else pos (n - 2 ^ 63)

-- Each field is a value and the bytes after it.
unfoldable pub int_at : List ℕ → Result (Value × List ℕ) KeyFault
int_at bytes = if nat_lt (length bytes) 8 then Err Short else Ok (Int (unflipped (from_be_bytes w64 (take 8 bytes))), drop 8 bytes)

unfoldable pub bool_at : List ℕ → Result (Value × List ℕ) KeyFault
bool_at [] = Err Short
bool_at (b ∷ bytes) = if b == 0 then Ok (Bool false, bytes) else (if b == 1 then Ok (Bool true, bytes) else Err BadTag)

-- the content so far with one byte more, and no more than a text has
unfoldable pub with_byte : List ℕ → ℕ → Result (List ℕ) KeyFault
with_byte content b = if nat_lt (length content) 1024 then Ok (content ++ b ∷ []) else Err TextTooLong

-- a text whose end was met
unfoldable pub text_of : List ℕ → List ℕ → Result (List ℕ × List ℕ) KeyFault
text_of content bytes = if is_utf8 content then Ok (content, bytes) else Err NotUtf8

-- content_at: the text whose content so far is given; after_zero: the same after a 0
unfoldable mutual
  pub content_at : List ℕ → List ℕ → Result (List ℕ × List ℕ) KeyFault
  content_at content [] = Err Short
  content_at content (b ∷ bytes) = if b == 0 then after_zero content bytes else (with_byte content b >>= λ more. content_at more bytes)

  pub after_zero : List ℕ → List ℕ → Result (List ℕ × List ℕ) KeyFault
  after_zero content [] = Err Short
  after_zero content (b ∷ bytes) = if b == 255 then (with_byte content 0 >>= λ more. content_at more bytes) else (if b == 1 then text_of content bytes else Err BadEscape)

unfoldable pub value_at : List ℕ → Result (Value × List ℕ) KeyFault
value_at [] = Err Short
value_at (tag ∷ bytes) =
    if tag == 1 then Ok (Null, bytes)
    else (if tag == 2 then int_at bytes
    else (if tag == 3 then (content_at [] bytes >>= λ t. Ok (Text t.0, t.1))
    else (if tag == 4 then bool_at bytes
    else Err BadTag)))

-- values after those that were read
unfoldable pub values_at : List Value → ℕ → List ℕ → Result (List Value × List ℕ) KeyFault
values_at before zero bytes = Ok (before, bytes)
values_at before (suc n) bytes = value_at bytes >>= λ x. values_at (before ++ x.0 ∷ []) n x.1
