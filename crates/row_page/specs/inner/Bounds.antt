-- Cited by private functions alone: low_of, high_of, known_range, known_key.
-- Where the walk of a page begins and ends.
use Rattle.std.specs.Prelude.{ℕ, List, Option, Some, None}
use Rattle.keycode.specs.declared.value.Value.{Value}
use Rattle.keycode.specs.Valid.{AreValues}
use Rattle.row_map.specs.Keys.{row_code}
use Rattle.row_map.specs.Ranges.{table_prefix}
use Rattle.row_map.specs.Rows.{Bytes}
use Rattle.row_query.specs.inner.Bounds.{table_end}
use Rattle.row_page.specs.declared.range.KeyRange.{KeyRange}

-- above the `exists` key of the row of this key, and below that of every later one
abbrev pub low_bound : ℕ → Option (List Value) → Bytes
low_bound table None = table_prefix table
low_bound table (Some key) = row_code table key 1

abbrev pub high_bound : ℕ → Option (List Value) → Bytes
high_bound table None = table_end table
high_bound table (Some key) = row_code table key 0

-- values of the program
abbrev pub IsKnownKey : Option (List Value) → Type 0
IsKnownKey None = Unit {0}
IsKnownKey (Some key) = AreValues key

abbrev pub IsKnownRange : KeyRange → Type 0
IsKnownRange range = IsKnownKey range.after × IsKnownKey range.before
