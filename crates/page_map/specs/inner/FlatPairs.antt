-- Cited by private functions alone: read, edit, lay, bytes_of and 4 more.
-- Pairs that lie in one string of bytes.
use Rattle.std.specs.Prelude.{ℕ, ◌+◌, ◌≤◌, ◌<◌, ◌^◌, List, [], ◌∷◌, Option, Some, None, length, map, slice_range}
use Rattle.page_map.specs.declared.slots.Slot.{Slot}

-- the pair that a slot marks
abbrev pub marked : List ℕ → Slot → List ℕ × List ℕ
marked bytes slot = (slice_range bytes slot.start slot.middle, slice_range bytes slot.middle slot.end)

-- the pairs that the slots mark
abbrev pub encoded : List ℕ → List Slot → List (List ℕ × List ℕ)
encoded bytes slots = map (marked bytes) slots

-- the slot lies within so many bytes
pub record IsWithin (size : ℕ) (slot : Slot) : Type 0 where
  pub key : slot.start ≤ slot.middle
  pub value : slot.middle ≤ slot.end
  pub in_range : slot.end ≤ size

abbrev pub AllWithin : ℕ → List Slot → Type 0
AllWithin size [] = Unit {0}
AllWithin size (slot ∷ slots) = IsWithin size slot × AllWithin size slots

-- what is seen of them: the pairs, how many bytes they lie in, and for how many bytes and pairs more there is room
pub record Flat : Type 0 where
  pub pairs : List (List ℕ × List ℕ)
  pub used : ℕ
  pub room : ℕ
  pub gaps : ℕ

-- so many bytes and pairs more need no memory
pub record HasRoom (flat : Flat) (bytes : ℕ) (more : ℕ) : Type 0 where
  pub fits : bytes ≤ flat.room
  pub counted : flat.used + bytes < 2 ^ 32
  pub slots : more ≤ flat.gaps

-- how many bytes a change lays
abbrev pub size : List ℕ → Option (List ℕ) → ℕ
size key None = 0
size key (Some value) = length key + length value

-- how many bytes changes lay
abbrev pub wanted : List (List ℕ × Option (List ℕ)) → ℕ
wanted [] = 0
wanted (w ∷ ws) = size w.0 w.1 + wanted ws
