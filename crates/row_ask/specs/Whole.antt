-- Cited by the contracts of ranges_of, after_index, answer_read.
-- All that a query reads, and whether it was read.
use Rattle.std.specs.Prelude.{◌≡◌, ℕ, List, [], ◌∷◌}
use mathlib.Core.List.{map as each}
use Rattle.keycode.specs.declared.value.Value.{Value}
use Rattle.row_map.specs.Keys.{row_code}
use Rattle.row_map.specs.Rows.{Bytes, Pairs}
use Rattle.row_query.specs.declared.query.Query.{Query}
use Rattle.row_query.specs.inner.Bounds.{table_end}
use Rattle.row_ask.specs.Remaining.{row_end, IsRead, AreRowsRead, keys_with_rest}
use Rattle.row_ask.specs.declared.remaining.Remaining.{Remaining}
use Rattle.row_ask.specs.declared.remaining.Remaining.TheVariants.{Rows, Index, Scan}

-- the range of each row
abbrev pub row_ranges : ℕ → List (List Value) → List (Bytes × Bytes)
row_ranges table keys = each (λ (key : List Value). (row_code table key 0, row_end table key)) keys

-- the ranges that are to be read
abbrev pub ranges_for : ℕ → Remaining → List (Bytes × Bytes)
ranges_for table (Rows keys) = row_ranges table keys
ranges_for table (Index range) = (range.low, range.high) ∷ []
ranges_for table (Scan low) = (low, table_end table) ∷ []

-- after the part of the index was read: the rows of the keys in it
abbrev pub with_index : Pairs → Remaining → Remaining
with_index read (Rows keys) = Rows keys
with_index read (Index range) = Rows (keys_with_rest read range [])
with_index read (Scan low) = Scan low

-- the ranges of these rows, or of this table, were read
abbrev pub IsRestRead : Pairs → Pairs → Query → Remaining → Type 0
IsRestRead store read query (Rows keys) = AreRowsRead store read query.table keys
IsRestRead store read query (Index range) = ⊥
IsRestRead store read query (Scan low) = IsRead store read low (table_end query.table)

-- all ranges were read: of an index its part, and then those of the rows in it
abbrev pub IsAllRead : Pairs → Pairs → Query → Remaining → Type 0
IsAllRead store read query (Rows keys) = IsRestRead store read query (Rows keys)
IsAllRead store read query (Index range) = IsRead store read range.low range.high × AreRowsRead store read query.table (keys_with_rest store range [])
IsAllRead store read query (Scan low) = IsRestRead store read query (Scan low)
