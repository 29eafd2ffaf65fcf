-- Cited by the contracts of Element, fill_covers, clear_leaves_none.
-- What a fill and a clear go through between two cursors.
use Rattle.std.specs.Prelude.{IsTrue, Option, ◌≡◌, ◌≢◌, ℕ, ◌+◌, ◌<◌, ◌^◌, Bool, ◌&&◌, List, [], ◌∷◌, ◌++◌, Some, None, filter, ◌⊎◌}
use Rattle.std.specs.FinMap.{get, entries}
use Rattle.std.specs.declared.cmp.Ordering.TheVariants.{Less}
use Rattle.keycode.specs.Order.{bytes_cmp}
use Rattle.row_map.specs.Rows.{Bytes, RowKey, Cells, Rows, Pairs, AreStorable}
use Rattle.row_map.specs.Ranges.{is_within, IsRowBound}
use Rattle.element_state.specs.Elements.{IsKeyOfElement, AreFormed, owner, Meaning, Subset, CoveredAt}
use Rattle.element_state.specs.Exists.{row_key}
use Rattle.row_map.specs.Writes.{Writes, written_all}
use Rattle.element_state.specs.Operations.{fill_pair}

-- one of the keys
abbrev pub IsIn : Bytes → List Bytes → Type 0
IsIn x [] = ⊥
IsIn x (y ∷ ys) = (x ≡ y) ⊎ IsIn x ys

-- from the old cursor to below the new one
abbrev pub Between : Bytes → Bytes → Bytes → Type 0
Between from to x = (bytes_cmp x from ≢ Less) × (bytes_cmp x to ≡ Less)

-- the rows between two cursors whose tables the element serves
abbrev pub row_items : (ℕ → Bool) → Rows → Bytes → Bytes → List (RowKey × Cells)
row_items serves rows from to = filter (λ (e : RowKey × Cells). serves e.0.0 && is_within from to (row_key e.0)) (entries rows)

-- where the pieces of a clear may begin and end: at any key, or where a row of a table begins
pub data Bounds : Type 0 where
  AnyKey : Bounds
  RowsOf : (table : ℕ) → Bounds

-- whether a piece may begin or end at a key
abbrev pub IsBound : Bounds → Bytes → Type 0
IsBound AnyKey key = Unit {0}
IsBound (RowsOf table) key = IsRowBound table key

-- how a clear goes through an element's pairs: from `low` to below `high`, in pieces that are cut at bounds
pub record ClearRange : Type 0 where
  pub low : Bytes
  pub high : Bytes
  pub bounds : Bounds
  -- the keys that it takes away between two cursors
  pub items : Rows → Pairs → Bytes → Bytes → List Bytes

-- what a kind shows of its clear: the items are its pairs' keys, no pair between two cursors is left out, and all its pairs lie in the range
pub record ClearFacts (m : Meaning) (range : ClearRange) : Type 0 where
  pub owned : (R : Rows) (P : Pairs) (from to x : Bytes) → AreStorable R → AreFormed P → IsIn x (range.items R P from to) → IsKeyOfElement m.number x
  pub reach : (R : Rows) (P : Pairs) (from to x v : Bytes) → AreStorable R → Subset m P R → IsBound range.bounds from → IsBound range.bounds to → owner x ≡ Some m.number → get P x ≡ Some v → Between from to x → IsIn x (range.items R P from to)
  pub whole : (R : Rows) (P : Pairs) (x v : Bytes) → AreStorable R → Subset m P R → owner x ≡ Some m.number → get P x ≡ Some v → Between range.low range.high x

-- a table and an element whose ranges of keys end within numbers of four bytes
pub record HasRange (table number : ℕ) : Type 0 where
  pub table_below : table + 1 < 2 ^ 32
  pub number_below : number + 1 < 2 ^ 32

-- what a piece of a clear writes: a removal of each item
abbrev pub clear_writes : List Bytes → Writes
clear_writes [] = []
clear_writes (x ∷ xs) = (x, None) ∷ clear_writes xs

-- what a fill writes for one row: the pair that it puts, if any
abbrev pub put_pair : Option (Bytes × Bytes) → Writes
put_pair None = []
put_pair (Some pair) = (pair.0, Some pair.1) ∷ []

-- what a piece of a fill writes for its rows
abbrev pub fill_puts : Meaning → List (RowKey × Cells) → Writes
fill_puts m [] = []
fill_puts m (i ∷ items) = put_pair (fill_pair m i.0 i.1) ++ fill_puts m items

-- Fill: to put the pair of each row between two cursors leaves a subset, and one that covers those rows
abbrev pub FillCovers : Meaning → Type 0
FillCovers m = (P : Pairs) (R : Rows) (from to : Bytes) → IsTrue m.filled → AreStorable R → Subset m P R
    → Subset m (written_all P (fill_puts m (row_items m.serves R from to))) R
    × ((k : RowKey) → Between from to (row_key k) → CoveredAt m (written_all P (fill_puts m (row_items m.serves R from to))) R k)

-- Clear: to take the items between two bounds from a subset away leaves no pair of the element with a key between them
abbrev pub ClearLeavesNone : Meaning → ClearRange → Type 0
ClearLeavesNone m range = (P : Pairs) (R : Rows) (from to : Bytes) → AreStorable R → Subset m P R → IsBound range.bounds from → IsBound range.bounds to
    → (x : Bytes) → owner x ≡ Some m.number → Between from to x → get (written_all P (clear_writes (range.items R P from to))) x ≡ None

-- a key of one of the entries
abbrev pub AmongEntries : {K X : Type 0} → K → List (K × X) → Type 0
AmongEntries k [] = ⊥
AmongEntries k (e ∷ es) = (e.0 ≡ k) ⊎ AmongEntries k es
