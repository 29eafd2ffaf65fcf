-- Cited by the contracts of read_each, is_mark, is_word, name and 13 more.
-- What tokens parse to: the words by which each production is said.
use Rattle.std.specs.Prelude.{◌≡◌, ℕ, ◌^◌, ℤ, pos, negsuc, zero, suc, List, [], ◌∷◌, Option, Some, None, Result, Ok, Err, Bool, true, false, nat_lt, ◌==◌, if◌then◌else◌, codes}
use Rattle.std.specs.Option.{option_map}
use Rattle.std.specs.Str.{bytes_eq, is_utf8}
use Rattle.keycode.specs.declared.value.Value.{Value}
use Rattle.keycode.specs.declared.value.Value.TheVariants as value
use Rattle.row_map.specs.declared.shape.ColumnType.{ColumnType}
use Rattle.row_map.specs.declared.shape.ColumnType.TheVariants as column
use Rattle.schema_version.specs.declared.element.ElementState.{ElementState}
use Rattle.schema_version.specs.declared.element.ElementState.TheVariants as state
use Rattle.script_tokens.specs.declared.token.Token.{Token}
use Rattle.script_tokens.specs.declared.token.Token.TheVariants as token
use Rattle.script_tokens.specs.declared.token.Mark.{Mark}
use Rattle.script_tokens.specs.declared.token.Mark.TheVariants as mark
use Rattle.script_tokens.specs.declared.fault.LineFault.{LineFault}
use Rattle.script_tokens.specs.declared.fault.LineFault.TheVariants as fault

-- one step after another, as `?`
infixl 10 ◌>>=◌
abbrev pub ◌>>=◌ : {A B : Type 0} → Option A → (A → Option B) → Option B
None >>= f = None
(Some x) >>= f = f x

-- Out of memory says nothing of what was to be read, and a bad line is one that parses to nothing.
abbrev pub Fails : {Y : Type 0} → LineFault → Option Y → Type 0
Fails fault.Memory meant = Unit {0}
Fails fault.Malformed meant = meant ≡ None

-- What a function answered, seen by view, is what the tokens parse to, unless memory ran out.
abbrev pub Gives : {X Y : Type 0} → (X → Y) → Result X LineFault → Option Y → Type 0
Gives view (Ok x) meant = meant ≡ Some (view x)
Gives view (Err e) meant = Fails e meant

-- what f makes of the first token, and the tokens after it
abbrev pub first_by : {A : Type 0} → (Token → Option A) → List Token → Option (A × List Token)
first_by f [] = None
first_by f (t ∷ ts) = option_map (λ a. (a, ts)) (f t)

-- the tokens after the first, where p is true of it
abbrev pub after_first : (Token → Bool) → List Token → Option (List Token)
after_first p [] = None
after_first p (t ∷ ts) = if p t then Some ts else None

-- x, where no token is left
abbrev pub at_end : {A : Type 0} → A → List Token → Option A
at_end x [] = Some x
at_end x (t ∷ ts) = None

-- whether two marks are the same
abbrev pub same_mark : Mark → Mark → Bool
same_mark mark.Open mark.Open = true
same_mark mark.Close mark.Close = true
same_mark mark.Comma mark.Comma = true
same_mark mark.Semicolon mark.Semicolon = true
same_mark mark.Colon mark.Colon = true
same_mark mark.Equal mark.Equal = true
same_mark mark.AtLeast mark.AtLeast = true
same_mark mark.AtMost mark.AtMost = true
same_mark mark.Dot mark.Dot = true
same_mark mark.Star mark.Star = true
same_mark _ _ = false

-- whether a token is the mark m
abbrev pub is_mark : Mark → Token → Bool
is_mark m (token.Mark n) = same_mark n m
is_mark m _ = false

-- whether a token is the word w
abbrev pub is_word : List ℕ → Token → Bool
is_word w (token.Word v) = bytes_eq v w
is_word w _ = false

-- the text of bytes, which are UTF-8
abbrev pub text_of : List ℕ → Option (List ℕ)
text_of bytes = if is_utf8 bytes then Some bytes else None

-- any word is a name
abbrev pub name_in : Token → Option (List ℕ)
name_in (token.Word w) = text_of w
name_in _ = None

-- a moment or a count has no sign
abbrev pub count_in : Token → Option ℕ
count_in (token.Number false n) = Some n
count_in _ = None

-- a piece's number, or how many pieces or entries, has no sign and 32 bits
abbrev pub small_count_in : Token → Option ℕ
small_count_in (token.Number false n) = if nat_lt n (2 ^ 32) then Some n else None
small_count_in _ = None

-- the type that a word names
abbrev pub type_of : List ℕ → Option ColumnType
type_of w =
    if bytes_eq w (codes "int") then Some column.Int
    else (if bytes_eq w (codes "text") then Some column.Text
    else (if bytes_eq w (codes "bool") then Some column.Bool
    else None))

abbrev pub type_in : Token → Option ColumnType
type_in (token.Word w) = type_of w
type_in _ = None

-- the state that one token names
abbrev pub state_in : Token → Option ElementState
state_in t =
    if is_word (codes "absent") t then Some state.Absent
    else (if is_word (codes "delete_only") t then Some state.DeleteOnly
    else (if is_word (codes "write_only") t then Some state.WriteOnly
    else (if is_word (codes "public") t then Some state.Public
    else None)))

-- a content with each quote doubled gives the content
unfoldable pub undoubled : List ℕ → List ℕ
undoubled [] = []
undoubled (b ∷ []) = b ∷ []
undoubled (b ∷ c ∷ bs) = if b == 39 then b ∷ undoubled bs else b ∷ undoubled (c ∷ bs)

-- 0 - n
abbrev pub negative : ℕ → ℤ
negative zero = pos 0
negative (suc n) = negsuc n

-- the number of that size and sign, if it has 64 bits
abbrev pub int_of : Bool → ℕ → Option ℤ
int_of false n = if nat_lt n (2 ^ 63) then Some (pos n) else None
int_of true n = if nat_lt (2 ^ 63) n then None else Some (negative n)

-- true, false and null
abbrev pub constant_of : List ℕ → Option Value
constant_of w =
    if bytes_eq w (codes "true") then Some (value.Bool true)
    else (if bytes_eq w (codes "false") then Some (value.Bool false)
    else (if bytes_eq w (codes "null") then Some value.Null
    else None))

-- the value that one token parses to
abbrev pub value_in : Token → Option Value
value_in (token.Number is_negative n) = option_map value.Int (int_of is_negative n)
value_in (token.Text t) = option_map value.Text (text_of (undoubled t))
value_in (token.Word w) = constant_of w
value_in (token.Mark m) = None

-- the tokens before the first such mark, and those after it
unfoldable pub cut_at : Mark → List Token → Option (List Token × List Token)
cut_at m [] = None
cut_at m (t ∷ ts) = if is_mark m t then Some ([], ts) else option_map (λ x. (t ∷ x.0, x.1)) (cut_at m ts)

-- a token before the first part
abbrev pub with_first : Token → List (List Token) → List (List Token)
with_first t [] = (t ∷ []) ∷ []
with_first t (p ∷ ps) = (t ∷ p) ∷ ps

-- the parts that such marks stand between
unfoldable pub parts : Mark → List Token → List (List Token)
parts m [] = [] ∷ []
parts m (t ∷ ts) = if is_mark m t then [] ∷ parts m ts else with_first t (parts m ts)

-- what f makes of each part, where it makes something of each
unfoldable pub each : {A : Type 0} → (List Token → Option A) → List (List Token) → Option (List A)
each f [] = Some []
each f (p ∷ ps) = f p >>= λ x. option_map (λ xs. x ∷ xs) (each f ps)

-- the parts between such marks, each read whole by f
abbrev pub each_between : {A : Type 0} → Mark → (List Token → Option A) → List Token → Option (List A)
each_between m f ts = each f (parts m ts)

-- what is in round brackets at the start, and the tokens after them
unfoldable pub cut_brackets : List Token → Option (List Token × List Token)
cut_brackets ts = do
  inner ← after_first (is_mark mark.Open) ts
  cut_at mark.Close inner

-- `COLUMN`
unfoldable pub name_of : List Token → Option (List ℕ)
name_of ts = do
  name ← first_by name_in ts
  at_end name.0 name.1

-- `VALUE`
unfoldable pub value_of : List Token → Option Value
value_of ts = do
  value ← first_by value_in ts
  at_end value.0 value.1

-- `COLUMN = VALUE`
unfoldable pub set_of : List Token → Option (List ℕ × Value)
set_of ts = do
  column ← first_by name_in ts
  behind ← after_first (is_mark mark.Equal) column.1
  value ← value_of behind
  Some (column.0, value)
