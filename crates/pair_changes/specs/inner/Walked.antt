-- Cited by private functions alone: next_found.
-- Two lists of pairs gone over in step.
use Rattle.std.specs.Prelude.{◌≡◌, ◌+◌, ◌<◌, List, [], ◌∷◌, ◌++◌, length, Some, None}
use Rattle.std.specs.FinMap.Entries.{by_order}
use Rattle.byte_map.specs.Order.{bytes_cmp}
use Rattle.row_map.specs.Rows.{Bytes}
use Rattle.pair_changes.specs.declared.changes.PairChange.{PairChange}
use Rattle.pair_changes.specs.declared.changes.Found.{Found}
use Rattle.pair_changes.specs.inner.Differ.{change_at, change_of}

abbrev pub Entries : Type 0
Entries = List (Bytes × Bytes)

-- what only the second list has
unfoldable pub added : Entries → List PairChange
added [] = []
added (f ∷ fs) = change_at f.0 None (Some f.1) ++ added fs

-- a first pair of the first list against the second list, and then the rest of the first list
unfoldable pub against : Bytes × Bytes → (Entries → List PairChange) → Entries → List PairChange
against e rest [] = change_at e.0 (Some e.1) None ++ rest []
against e rest (f ∷ fs) =
    by_order (bytes_cmp e.0 f.0)
    (change_at e.0 (Some e.1) None ++ rest (f ∷ fs))
    (change_at e.0 (Some e.1) (Some f.1) ++ rest fs)
    (change_at f.0 None (Some f.1) ++ against e rest fs)

-- the changes from one list to the other
unfoldable pub walked : Entries → Entries → List PairChange
walked [] fs = added fs
walked (e ∷ es) fs = against e (walked es) fs

-- what was found comes first in the changes, and one pair or two fewer are left
pub record IsStep (es fs : Entries) (found : Found) (es' fs' : Entries) : Type 0 where
  pub first : walked es fs ≡ change_of found ++ walked es' fs'
  pub fewer : length es' + length fs' < length es + length fs

abbrev pub IsEnd : Entries → Entries → Type 0
IsEnd es fs = walked es fs ≡ []
