-- Cited by the contracts of courses_complete.
-- What is left of a change, as one number: the steps count most, then the begins, then the close, then the reads of the pieces that are open.
use Rattle.std.specs.Prelude.{ℕ, zero, suc, ◌+◌, ◌*◌, List, [], ◌∷◌, Option, Some, None, filter, length, is_some, if◌then◌else◌}
use Rattle.std.specs.Ordering.{is_lt}
use Rattle.keycode.specs.Order.{bytes_cmp}
use Rattle.row_map.specs.Rows.{Bytes}
use Rattle.schema_version.specs.declared.element.ElementDef.{ElementDef}
use Rattle.schema_version.specs.declared.step.Move.{Move}
use Rattle.schema_version.specs.Edges.{wanted_work}
use Rattle.schema_version.specs.Moves.{after_step}
use Rattle.schema_version.specs.Version.{Version, live}
use Rattle.drafts.specs.Publish.{found_in}
use Rattle.drafts.specs.declared.record.Reorg.{Reorg}
use Rattle.layer_due.specs.Records.{Records, Cursor, cursor_in, is_at}
use Rattle.layer_due.specs.Lowers.{begins_left}

-- ---- the reads of open pieces, each of which passes one of these keys, or comes to the end of its piece

-- how many of the keys a cursor has not passed
abbrev pub ahead : List Bytes → Option Bytes → ℕ
ahead keys None = length keys
ahead keys (Some cursor) = length (filter (λ key. is_lt (bytes_cmp cursor key)) keys)

-- none is left of a piece at its end; else its last read, and one for each key that is ahead
abbrev pub piece_left : List Bytes → Option Bytes → Bytes → ℕ
piece_left keys cursor high = if is_at cursor high then 0 else (1 + ahead keys cursor)

abbrev pub pieces_left : List Bytes → List Cursor → ℕ → ℕ → List (Bytes × Bytes) → ℕ
pieces_left keys cursors number piece [] = 0
pieces_left keys cursors number piece (bound ∷ bounds) = piece_left keys (cursor_in cursors number piece) bound.1 + pieces_left keys cursors number (piece + 1) bounds

abbrev pub reorg_left : List Bytes → List Cursor → ℕ → Option Reorg → ℕ
reorg_left keys cursors number None = 0
reorg_left keys cursors number (Some reorg) = pieces_left keys cursors number 0 reorg.bounds

-- the sum of a quantity over the numbers below a bound
abbrev pub sum_below : (ℕ → ℕ) → ℕ → ℕ
sum_below f zero = 0
sum_below f (suc n) = sum_below f n + f n

abbrev pub reads_left : List Bytes → Records → ℕ
reads_left keys records = sum_below (λ n. reorg_left keys records.cursors n (found_in records.reorgs n)) records.newest.schema.next

-- ---- all

-- a begin, with all reads of up to 64 pieces
abbrev pub a_begin : List Bytes → ℕ
a_begin keys = 1 + 64 * (1 + length keys)

-- how many elements of a version want a fill or a clear
abbrev pub wanting_in : Version → ℕ
wanting_in version = length (filter (λ (element : ElementDef). is_some (wanted_work element)) (live version))

-- each step, with the close and the begins in the version that it gives
abbrev pub steps_left : List Bytes → Version → List (List Move) → ℕ
steps_left keys version [] = 0
steps_left keys version (step ∷ steps) = (2 + wanting_in (after_step version step) * a_begin keys) + steps_left keys (after_step version step) steps

abbrev pub left : List Bytes → Records → List (List Move) → ℕ
left keys records steps =
    (steps_left keys records.newest.schema steps + begins_left records * a_begin keys) + ((if records.previous_is_open then 1 else 0) + reads_left keys records)
