-- Cited by the contracts of marker, add_digest and contents_of.
-- Bytes with a digest: a marker, the bytes, and SHA-256 of both.
use Rattle.std.specs.Prelude.{◌≡◌, ℕ, List, [], ◌∷◌, ◌++◌, length}
use Rattle.sha2.specs.Sha256.{sha256}
use Rattle.digested_bytes.specs.declared.whole.Contents.{Contents}
use Rattle.digested_bytes.specs.declared.whole.Contents.TheVariants.{Plain, Whole, Damaged}

-- a byte above 127, CAGZ, a line's end and a byte 26: no text, and no number of bytes that a machine has
abbrev pub marker : List ℕ
marker = 0x89 ∷ 0x43 ∷ 0x41 ∷ 0x47 ∷ 0x5A ∷ 0x0D ∷ 0x0A ∷ 0x1A ∷ []

-- bytes and the digest at their end, of 32 bytes
pub record EndsInDigest (before bytes : List ℕ) : Type 0 where
  pub digest : List ℕ
  pub code : bytes ≡ before ++ digest
  pub size : length digest ≡ 32
  pub is : digest ≡ sha256 before

-- the whole bytes are these with their digest
abbrev pub IsWithDigest : List ℕ → List ℕ → Type 0
IsWithDigest inner bytes = EndsInDigest (marker ++ inner) bytes

abbrev pub HasMarker : List ℕ → Type 0
HasMarker bytes = (rest : List ℕ) × (bytes ≡ marker ++ rest)

-- bytes with the marker are whole, or they are the whole of no bytes; others have no digest
abbrev pub HasContents : List ℕ → Contents → Type 0
HasContents bytes Plain = HasMarker bytes → ⊥
HasContents bytes (Whole inner) = IsWithDigest inner.now bytes
HasContents bytes Damaged = HasMarker bytes × ((inner : List ℕ) → IsWithDigest inner bytes → ⊥)
