-- Cited by the contracts of key_bytes, key_of, lemma_keys.
-- Keys of control records as bytes.
use Rattle.std.specs.Prelude.{◌≡◌, ◌≢◌, ℕ, ◌<◌, ◌^◌, ◌==◌, Bool, true, false, List, [], ◌∷◌, Result, Ok, Err, ◌⊎◌, ⊤}
use Rattle.std.specs.Int.{w64, to_be_bytes}
use Rattle.std.specs.List.{AllByRecursion, flat_map}
use Rattle.std.specs.Ordering.{nat_cmp}
use Rattle.keycode.specs.declared.value.Value.{Value}
use Rattle.keycode.specs.Order.{bytes_cmp}
use Rattle.row_map.specs.Keys.{row_code, index_code}
use Rattle.row_map.specs.Rows.{Bytes}
use Rattle.drafts.specs.Store.{Key, version_key, reorg_key, cursor_key, mark_key}
use Rattle.record_code.specs.declared.fault.NoKey.{NoKey}
use Rattle.record_code.specs.declared.fault.NoKey.TheVariants.{Malformed, Memory}

-- a number in eight bytes, the highest first
unfoldable pub number_code : ℕ → Bytes
number_code n = to_be_bytes w64 n

-- what follows the kind: a mark's name as it is, or each number
abbrev pub rest_code : Bool → List ℕ → Bytes
rest_code true name = name
rest_code false numbers = flat_map number_code numbers

-- the kind, and what follows it
abbrev pub key_code : Key → Bytes
key_code [] = []
key_code (kind ∷ rest) = kind ∷ rest_code (kind == 3) rest

abbrev pub IsNumber : ℕ → Type 0
IsNumber n = n < 2 ^ 64

abbrev pub HasNumbers : Bool → List ℕ → Type 0
HasNumbers true name = ⊤
HasNumbers false numbers = AllByRecursion IsNumber numbers

-- the numbers of a key have 64 bits
abbrev pub HasKey : Key → Type 0
HasKey [] = ⊤
HasKey (kind ∷ rest) = HasNumbers (kind == 3) rest

-- ---- keys that are read

-- a key of one of the four kinds, its numbers within their types
abbrev pub IsKey : Key → Type 0
IsKey key =
    ((number : ℕ) × (number < 2 ^ 64) × (key ≡ version_key number))
    ⊎ (((element : ℕ) × (element < 2 ^ 32) × (key ≡ reorg_key element))
    ⊎ (((element : ℕ) × (piece : ℕ) × (element < 2 ^ 32) × (piece < 2 ^ 64) × (key ≡ cursor_key element piece))
    ⊎ ((name : Bytes) × (key ≡ mark_key name))))

-- what is read has these bytes as its code; if they are refused, no key has them
abbrev pub IsKeyRead : Bytes → Result Key NoKey → Type 0
IsKeyRead bytes (Ok key) = (bytes ≡ key_code key) × IsKey key
IsKeyRead bytes (Err Malformed) = (key : Key) → IsKey key → bytes ≢ key_code key
IsKeyRead bytes (Err Memory) = ⊤

-- ---- what keys say

pub record KeysSay : Type 0 where
  -- no two keys have the same bytes
  pub tell : (k l : Key) → HasKey k → HasKey l → key_code k ≡ key_code l → k ≡ l
  -- those of versions are in the order of their numbers
  pub rise : (m n : ℕ) → IsNumber m → IsNumber n → bytes_cmp (key_code (version_key m)) (key_code (version_key n)) ≡ nat_cmp m n
  -- and none is the key of a row's pair or an index's
  pub no_row : (k : Key) (table : ℕ) (key : List Value) (element : ℕ) → IsKey k → key_code k ≢ row_code table key element
  pub no_index : (k : Key) (element : ℕ) (values : List Value) → IsKey k → key_code k ≢ index_code element values
  -- version 1, the reorganisation of element 2, its piece 3 and the mark "a"
  pub version : key_code (version_key 1) ≡ 0 ∷ 0 ∷ 0 ∷ 0 ∷ 0 ∷ 0 ∷ 0 ∷ 0 ∷ 1 ∷ []
  pub reorg : key_code (reorg_key 2) ≡ 1 ∷ 0 ∷ 0 ∷ 0 ∷ 0 ∷ 0 ∷ 0 ∷ 0 ∷ 2 ∷ []
  pub cursor : key_code (cursor_key 2 3) ≡ 2 ∷ 0 ∷ 0 ∷ 0 ∷ 0 ∷ 0 ∷ 0 ∷ 0 ∷ 2 ∷ 0 ∷ 0 ∷ 0 ∷ 0 ∷ 0 ∷ 0 ∷ 0 ∷ 3 ∷ []
  pub mark : key_code (mark_key (0x61 ∷ [])) ≡ 3 ∷ 0x61 ∷ []
