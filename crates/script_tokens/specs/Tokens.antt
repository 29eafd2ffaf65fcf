-- Cited by the contracts of tokens_of.
-- The tokens of a line.
use Rattle.std.specs.Prelude.{ℕ, zero, suc, List, [], ◌∷◌, ◌+◌, ◌*◌, ◌-◌, ◌^◌, take, Option, Some, None, Bool, true, false, nat_lt, ◌==◌, ◌||◌, if◌then◌else◌}
use Rattle.std.specs.Option.{option_map, option_and_then}
use Rattle.std.specs.Char.{is_ascii_digit, is_ascii_alphabetic}
use Rattle.script_tokens.specs.declared.token.Token.{Token}
use Rattle.script_tokens.specs.declared.token.Token.TheVariants as token
use Rattle.script_tokens.specs.declared.token.Mark.{Mark}
use Rattle.script_tokens.specs.declared.token.Mark.TheVariants as mark

-- a letter, a digit or `_`
abbrev pub is_word_byte : ℕ → Bool
is_word_byte b = is_ascii_alphabetic b || is_ascii_digit b || (b == 95)

-- how many bytes at the start a word could have
abbrev pub word_len : List ℕ → ℕ
word_len [] = 0
word_len (b ∷ bs) = if is_word_byte b then word_len bs + 1 else 0

-- the number whose digits are those of n and then these, if it is below 2 ^ 64
abbrev pub read_on : ℕ → List ℕ → Option ℕ
read_on n [] = Some n
read_on n (c ∷ cs) = if is_ascii_digit c then (if nat_lt (n * 10 + (c - 48)) (2 ^ 64) then read_on (n * 10 + (c - 48)) cs else None) else None

-- the number that digits parse to
abbrev pub number_of : List ℕ → Option ℕ
number_of [] = None
number_of (c ∷ cs) = read_on 0 (c ∷ cs)

-- how many bytes stand before the quote that ends a text; two quotes are one in it
abbrev pub text_len : List ℕ → Option ℕ
text_len [] = None
text_len (b ∷ []) = if b == 39 then Some 0 else None
text_len (b ∷ c ∷ bs) = if b == 39 then (if c == 39 then option_map (λ n. 2 + n) (text_len bs) else Some 0) else option_map (λ n. 1 + n) (text_len (c ∷ bs))

-- whether the first byte is `=`
abbrev pub begins_with_equal : List ℕ → Bool
begins_with_equal [] = false
begins_with_equal (b ∷ bs) = b == 61

-- a mark whose second byte is `=`
abbrev pub with_equal : Mark → List ℕ → Option (Token × ℕ)
with_equal m bs = if begins_with_equal bs then Some (token.Mark m, 1) else None

-- the mark that begins with b, and how many of the bytes after b are its own
abbrev pub mark_at : ℕ → List ℕ → Option (Token × ℕ)
mark_at b bs =
    if b == 40 then Some (token.Mark mark.Open, 0)
    else (if b == 41 then Some (token.Mark mark.Close, 0)
    else (if b == 44 then Some (token.Mark mark.Comma, 0)
    else (if b == 59 then Some (token.Mark mark.Semicolon, 0)
    else (if b == 58 then Some (token.Mark mark.Colon, 0)
    else (if b == 61 then Some (token.Mark mark.Equal, 0)
    else (if b == 46 then Some (token.Mark mark.Dot, 0)
    else (if b == 42 then Some (token.Mark mark.Star, 0)
    else (if b == 62 then with_equal mark.AtLeast bs
    else (if b == 60 then with_equal mark.AtMost bs
    else None)))))))))

-- the token that begins with b, and how many of the bytes after b are its own
abbrev pub token_at : ℕ → List ℕ → Option (Token × ℕ)
token_at b bs =
    if is_ascii_alphabetic b then Some (token.Word (take (word_len bs + 1) (b ∷ bs)), word_len bs)
    else (if is_ascii_digit b then option_map (λ n. (token.Number false n, word_len bs)) (number_of (take (word_len bs + 1) (b ∷ bs)))
    else (if b == 45 then option_map (λ n. (token.Number true n, word_len bs)) (number_of (take (word_len bs) bs))
    else (if b == 39 then option_map (λ n. (token.Text (take n bs), n + 1)) (text_len bs)
    else mark_at b bs)))

-- The tokens past the first skip bytes, or None if no token can begin. Spaces may stand between
-- them.
unfoldable pub tokens_from : ℕ → List ℕ → Option (List Token)
tokens_from skip [] = Some []
tokens_from (suc skip) (b ∷ bs) = tokens_from skip bs
tokens_from zero (b ∷ bs) =
    if b == 32 then tokens_from 0 bs
    else option_and_then (λ found. option_map (λ more. found.0 ∷ more) (tokens_from found.1 bs)) (token_at b bs)

abbrev pub tokens_of : List ℕ → Option (List Token)
tokens_of line = tokens_from 0 line
