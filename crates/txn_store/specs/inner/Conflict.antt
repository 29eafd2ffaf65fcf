-- Cited by private functions alone: difference, Store::first_missed, Store::first_in_key_range, lesser and 1 more.
-- The least key whose present pair isn't the expected one, as a search finds it.
use Rattle.std.specs.Prelude.{ℕ, List, [], ◌∷◌, Option, Some, None, Bool, true, false, if◌then◌else◌}
use Rattle.std.specs.Ordering.{is_le, eq_by_cmp}
use Rattle.std.specs.FinMap as map
use Rattle.std.specs.FinMap.Entries.{by_order}
use Rattle.byte_map.specs.Order.{bytes_cmp}
use Rattle.row_map.specs.Rows.{Pairs}
use Rattle.byte_map.specs.Sorted.{Entries}
use Rattle.byte_map.specs.Walk.{within}
use Rattle.row_map.specs.declared.expect.Expect.{Expect}
use Rattle.row_map.specs.declared.expect.KeyRange.{KeyRange}

-- the least key at which two sorted lists of pairs differ
abbrev pub difference : Entries (List ℕ) → Entries (List ℕ) → Option (List ℕ)
difference [] [] = None
difference (e ∷ es) [] = Some e.0
difference [] (f ∷ fs) = Some f.0
difference (e ∷ es) (f ∷ fs) = by_order (bytes_cmp e.0 f.0) (Some e.0) (if eq_by_cmp bytes_cmp e.1 f.1 then difference es fs else Some e.0) (Some f.0)

-- both none, or values alike
abbrev pub same_value : Option (List ℕ) → Option (List ℕ) → Bool
same_value None None = true
same_value None (Some w) = false
same_value (Some v) None = false
same_value (Some v) (Some w) = eq_by_cmp bytes_cmp v w

-- the first of these keys whose present value isn't the wanted one
abbrev pub first_missed : Pairs → Entries (Option (List ℕ)) → Option (List ℕ)
first_missed pairs [] = None
first_missed pairs (p ∷ ps) = if same_value (map.get pairs p.0) p.1 then first_missed pairs ps else Some p.0

-- the first key of the range whose present value isn't the wanted one
abbrev pub first_in_key_range : Pairs → Option KeyRange → Option (List ℕ)
first_in_key_range pairs None = None
first_in_key_range pairs (Some part) = difference (within part.low part.high (map.entries pairs)) (within part.low part.high (map.entries part.pairs))

-- the lesser of the keys that are there
abbrev pub lesser : Option (List ℕ) → Option (List ℕ) → Option (List ℕ)
lesser None y = y
lesser (Some j) None = Some j
lesser (Some j) (Some k) = if is_le (bytes_cmp j k) then Some j else Some k

-- the first key of both
abbrev pub conflict : Expect → Pairs → Option (List ℕ)
conflict expect pairs = lesser (first_missed pairs (map.entries expect.points)) (first_in_key_range pairs expect.key_range)
