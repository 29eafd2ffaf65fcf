-- Cited by the contracts of read_key.
-- Reading a key from left to right, with the first fault that is met.
use Rattle.std.specs.Prelude.{ℕ, zero, suc, List, [], ◌∷◌, ◌++◌, length, take, drop, Result, Ok, Err, nat_lt, ◌==◌, if◌then◌else◌}
use Rattle.std.specs.Int.{w32, from_be_bytes}
use Rattle.keycode.specs.declared.fault.KeyFault.{KeyFault}
use Rattle.keycode.specs.declared.fault.KeyFault.TheVariants.{Short, BadTag}
use Rattle.keycode.specs.declared.value.Value.{Value}
use Rattle.keycode.specs.Read.{◌>>=◌, value_at}
use Rattle.row_map.specs.declared.key.KeyOf.{KeyOf}
use Rattle.row_map.specs.declared.key.KeyOf.TheVariants.{Exists, Column, Index}

-- four bytes of a number
unfoldable pub number_at : List ℕ → Result (ℕ × List ℕ) KeyFault
number_at bytes = if nat_lt (length bytes) 4 then Err Short else Ok (from_be_bytes w32 (take 4 bytes), drop 4 bytes)

-- values until a 0 is in a value's place; at most `most`, which is as many as there are bytes
unfoldable pub until_zero : ℕ → List Value → List ℕ → Result (List Value × List ℕ) KeyFault
until_zero most before [] = Err Short
until_zero most before (zero ∷ bytes) = Ok (before, 0 ∷ bytes)
until_zero zero before (suc b ∷ bytes) = Err Short
until_zero (suc most) before (suc b ∷ bytes) = value_at (suc b ∷ bytes) >>= λ x. until_zero most (before ++ x.0 ∷ []) x.1

-- values until the end
unfoldable pub until_end : ℕ → List Value → List ℕ → Result (List Value) KeyFault
until_end most before [] = Ok before
until_end zero before (b ∷ bytes) = Err Short
until_end (suc most) before (b ∷ bytes) = value_at (b ∷ bytes) >>= λ x. until_end most (before ++ x.0 ∷ []) x.1

-- as many values as a key has
unfoldable pub with_number : {A : Type 0} → ℕ → ℕ → List Value → A → Result A KeyFault
with_number low high vs x = if nat_lt (length vs) low then Err BadTag else (if nat_lt high (length vs) then Err BadTag else Ok x)

-- the element of a pair of a row: the last of the key
unfoldable pub last_number : List ℕ → Result ℕ KeyFault
last_number bytes = do
  n ← number_at bytes
  if length n.1 == 0 then Ok n.0 else Err BadTag

abbrev pub row_key : ℕ → List Value → ℕ → KeyOf
row_key table key element = if element == 0 then Exists table key else Column table key element

unfoldable pub row_key_at : List ℕ → Result KeyOf KeyFault
row_key_at bytes = do
  table ← number_at bytes
  key ← until_zero (length table.1) [] table.1
  element ← last_number key.1
  with_number 1 4 key.0 (row_key table.0 key.0 element)

unfoldable pub index_key_at : List ℕ → Result KeyOf KeyFault
index_key_at bytes = do
  element ← number_at bytes
  values ← until_end (length element.1) [] element.1
  with_number 2 8 values (Index element.0 values)

unfoldable pub key_at : List ℕ → Result KeyOf KeyFault
key_at [] = Err Short
key_at (tag ∷ bytes) = if tag == 82 then row_key_at bytes else (if tag == 88 then index_key_at bytes else Err BadTag)
