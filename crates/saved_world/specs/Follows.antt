-- Cited by the definitions of Loading.
-- The last key so far, and whether a page goes on after it.
use Rattle.std.specs.Prelude.{[], ◌∷◌, Option, Some, None, Bool, true}
use Rattle.std.specs.Ordering.{is_lt}
use Rattle.byte_map.specs.Order.{bytes_cmp}
use Rattle.byte_map.specs.Sorted.{Entries}
use Rattle.row_map.specs.Rows.{Bytes}

abbrev pub last_or : {X : Type 0} → Bytes → Entries X → Bytes
last_or key [] = key
last_or key (pair ∷ pairs) = last_or pair.0 pairs

abbrev pub last_key : {X : Type 0} → Entries X → Option Bytes
last_key [] = None
last_key (pair ∷ pairs) = Some (last_or pair.0 pairs)

-- whether the first key is above this one
abbrev pub follows : {X : Type 0} → Option Bytes → Entries X → Bool
follows None pairs = true
follows (Some key) [] = true
follows (Some key) (pair ∷ pairs) = is_lt (bytes_cmp key pair.0)
