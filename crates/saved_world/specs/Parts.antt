-- Cited by the contracts of load.
-- Parts of bytes, one after another, each after its length.
use Rattle.std.specs.Prelude.{◌≡◌, ◌≢◌, ℕ, List, ◌++◌, take}
use Rattle.std.specs.Int.{w64, from_be_bytes}
use Rattle.entry_code.specs.Code.{u64_code, bytes_code}
use Rattle.entry_code.specs.Known.{IsU64, IsByteString}

-- a number in the first 8 bytes
pub record IsNumberAt (bytes : List ℕ) (number : ℕ) (rest : List ℕ) : Type 0 where
  pub is : number ≡ from_be_bytes w64 (take 8 bytes)
  pub fits : IsU64 number
  pub code : bytes ≡ u64_code number ++ rest

-- the bytes begin with this part, and with no other
pub record IsPartAt (bytes part rest : List ℕ) : Type 0 where
  pub few : IsByteString part
  pub code : bytes ≡ bytes_code part ++ rest
  pub only : (other more : List ℕ) → IsByteString other → bytes ≡ bytes_code other ++ more → (other ≡ part) × (more ≡ rest)

abbrev pub HasNoPart : List ℕ → Type 0
HasNoPart bytes = (part rest : List ℕ) → IsByteString part → bytes ≢ bytes_code part ++ rest
