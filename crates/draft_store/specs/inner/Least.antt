-- Cited by private functions alone: missed_point, missed_range, lesser, least_point and 4 more.
-- The least key that a draft's part misses, and a range as what a store expects.
use Rattle.std.specs.Prelude.{Bool, true, false, Option, Some, None, if◌then◌else◌}
use Rattle.std.specs.Ordering.{is_le, is_eq}
use Rattle.std.specs.FinMap as map
use Rattle.keycode.specs.Order.{bytes_cmp}
use Rattle.row_map.specs.Rows.{Bytes}
use Rattle.row_map.specs.declared.expect.Expect.{Expect}
use Rattle.row_map.specs.declared.expect.KeyRange.{KeyRange}
use Rattle.entry_code.specs.declared.parts.RangeParts.{RangeParts}
use Rattle.draft_store.specs.Apply.{map_of, IsLeast}

-- the least key with this, or that there is none
abbrev pub IsLeastOf : (Bytes → Type 0) → Option Bytes → Type 0
IsLeastOf P None = (key : Bytes) → ¬ (P key)
IsLeastOf P (Some key) = IsLeast P key

-- both none, or values alike
abbrev pub is_same_value : Option Bytes → Option Bytes → Bool
is_same_value None None = true
is_same_value None (Some wanted) = false
is_same_value (Some found) None = false
is_same_value (Some found) (Some wanted) = is_eq (bytes_cmp found wanted)

-- the lesser of the keys that are there
abbrev pub lesser : Option Bytes → Option Bytes → Option Bytes
lesser None other = other
lesser (Some key) None = Some key
lesser (Some key) (Some other) = if is_le (bytes_cmp key other) then Some key else Some other

abbrev pub range_of : RangeParts → KeyRange
range_of part = record { low = part.low; high = part.high; pairs = map_of part.pairs }

-- that the range has its pairs, and no other
abbrev pub expect_range : RangeParts → Expect
expect_range part = record { points = map.empty; key_range = Some (range_of part) }

abbrev pub expect_nothing : Expect
expect_nothing = record { points = map.empty; key_range = None }
