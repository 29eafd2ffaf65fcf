-- Cited by the contracts of World::items_left, World::next_piece.
-- How far a begun reorganisation has come: its next piece, and the items that it has still to work on.
use Rattle.std.specs.Prelude.{ℕ, suc, ◌+◌, List, [], ◌∷◌, Option, Some, None, length, if◌then◌else◌}
use Rattle.row_map.specs.Rows.{Pairs}
use Rattle.row_map.specs.Walk.{key_range}
use Rattle.reorganise.specs.declared.scan_range.ScanRange.{ScanRange}
use Rattle.reorganise.specs.declared.work.Span.{Span}
use Rattle.reorganise.specs.declared.work.Progress.{Progress}
use Rattle.reorganise.specs.Pieces.{is_ended}
use Rattle.reorganise.specs.ScanRanges.{scan_range_of, item_keys}

-- the number of the first piece that has not ended, where the pieces are numbered from this on
abbrev pub open_from : ℕ → List Span → Option ℕ
open_from number [] = None
open_from number (piece ∷ pieces) = if is_ended piece then open_from (suc number) pieces else Some number

-- in each piece, those from its cursor on
abbrev pub left_in : ScanRange → Pairs → List Span → ℕ
left_in scan_range pairs [] = 0
left_in scan_range pairs (piece ∷ pieces) = length (item_keys scan_range (key_range pairs piece.cursor piece.high)) + left_in scan_range pairs pieces

-- how many items are left, of those that are present
abbrev pub items_left : Progress → Pairs → ℕ
items_left progress pairs = left_in (scan_range_of progress.element progress.kind) pairs progress.pieces
