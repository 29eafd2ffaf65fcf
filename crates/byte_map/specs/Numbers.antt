-- Cited by the contracts of word, compare_by, and of page_map's prefixes.
-- Bytes read as a number, the first one the highest.
use Rattle.std.specs.Prelude.{ℕ, zero, suc, ◌+◌, ◌*◌, ◌<◌, List, [], ◌∷◌, get_or, drop}

-- each element is a byte
abbrev pub AreBytes : List ℕ → Type 0
AreBytes xs = (k : ℕ) → get_or xs k 0 < 256

-- the number that the first n bytes make after a number, with zeros after the last byte
abbrev pub number : ℕ → ℕ → List ℕ → ℕ
number zero a xs = a
number (suc n) a [] = number n (a * 256) []
number (suc n) a (x ∷ xs) = number n (a * 256 + x) xs

-- the first eight bytes as a number
abbrev pub word : List ℕ → ℕ
word xs = number 8 0 xs

-- the first 24 bytes as three numbers
abbrev pub words_of : List ℕ → ℕ × ℕ × ℕ
words_of xs = (word xs, word (drop 8 xs), word (drop 16 xs))

-- three numbers of eight bytes each as one
abbrev pub joined_words : ℕ × ℕ × ℕ → ℕ
joined_words w = (w.0 * 18446744073709551616 + w.1) * 18446744073709551616 + w.2
