-- Cited by the contracts of due.
-- What the control records that were found say of pieces.
use Rattle.std.specs.Prelude.{ℕ, ◌+◌, ◌==◌, ◌&&◌, List, [], ◌∷◌, Option, Some, None, Bool, false, option_map, if◌then◌else◌}
use Rattle.std.specs.List.{find}
use Rattle.std.specs.Ordering.{is_eq}
use Rattle.keycode.specs.Order.{bytes_cmp}
use Rattle.row_map.specs.Rows.{Bytes}
use Rattle.drafts.specs.Publish.{found_in}
use Rattle.drafts.specs.declared.record.Reorg.{Reorg}
pub use Rattle.layer_due.specs.declared.records.Records.{Records}
pub use Rattle.layer_due.specs.declared.records.Cursor.{Cursor}

abbrev pub is_of : ℕ → ℕ → Cursor → Bool
is_of element piece cursor = (cursor.element == element) && (cursor.piece == piece)

-- the cursor of a piece among those that were found
abbrev pub cursor_in : List Cursor → ℕ → ℕ → Option Bytes
cursor_in cursors element piece = option_map (λ (cursor : Cursor). cursor.key) (find (is_of element piece) cursors)

abbrev pub is_at : Option Bytes → Bytes → Bool
is_at None high = false
is_at (Some key) high = is_eq (bytes_cmp key high)

-- the first piece from this one on whose cursor was not found at its end
abbrev pub first_open : List Cursor → ℕ → ℕ → List (Bytes × Bytes) → Option ℕ
first_open cursors element piece [] = None
first_open cursors element piece (bound ∷ bounds) = if is_at (cursor_in cursors element piece) bound.1 then first_open cursors element (piece + 1) bounds else Some piece

abbrev pub open_in : List Cursor → ℕ → Option Reorg → Option ℕ
open_in cursors element None = None
open_in cursors element (Some reorg) = first_open cursors element 0 reorg.bounds

-- the first piece of an element's reorganisation that has not ended
abbrev pub open_piece : Records → ℕ → Option ℕ
open_piece records number = open_in records.cursors number (found_in records.reorgs number)
