-- Cited by the contracts of record_of and entry_in.
-- A record of a log file: an entry's place and length, the entry, and the digest of all this.
use Rattle.std.specs.Prelude.{◌≡◌, ◌<◌, ◌^◌, ℕ, List, ◌++◌, length}
use Rattle.std.specs.Int.{w64, to_be_bytes}
use Rattle.digested_bytes.specs.Whole.{EndsInDigest}

-- 8 bytes, the highest first
unfoldable pub u64_code : ℕ → List ℕ
u64_code number = to_be_bytes w64 number

-- what the record of the entry of this place has before its digest
abbrev pub undigested : ℕ → List ℕ → List ℕ
undigested place entry = u64_code place ++ (u64_code (length entry) ++ entry)

abbrev pub IsRecord : ℕ → List ℕ → List ℕ → Type 0
IsRecord place entry whole = EndsInDigest (undigested place entry) whole

-- the bytes begin with the record of this place and entry, and the rest follows it
abbrev pub BeginsWithRecord : ℕ → List ℕ → List ℕ → List ℕ → Type 0
BeginsWithRecord place entry rest bytes = (whole : List ℕ) × IsRecord place entry whole × (bytes ≡ whole ++ rest)

-- they begin with no record of this place
abbrev pub HasNoRecord : ℕ → List ℕ → Type 0
HasNoRecord place bytes = (entry rest : List ℕ) → length entry < 2 ^ 64 → BeginsWithRecord place entry rest bytes → ⊥
