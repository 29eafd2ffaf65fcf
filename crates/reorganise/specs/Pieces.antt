-- Cited by the contracts of Progress::begin, Progress::finished, Progress::is_done, PreparedPiece::lemma_made and 4 more.
-- The pieces that a reorganisation begins with, and what is read of one.
use Rattle.std.specs.Prelude.{◌≡◌, ℕ, zero, suc, ◌+◌, ◌*◌, ◌/◌, ◌==◌, Bool, true, ◌&&◌, List, [], ◌∷◌, ◌++◌, length, Some, ◌⊎◌, if◌then◌else◌, slice_get, unwrap_or}
use Rattle.std.specs.Ordering.{is_le, is_eq}
use Rattle.std.specs.FinMap as map
use Rattle.keycode.specs.Order.{bytes_cmp}
use Rattle.row_map.specs.Rows.{Bytes, Pairs}
use Rattle.row_map.specs.Ranges.{is_within}
use Rattle.row_map.specs.Walk.{key_range}
use Rattle.row_map.specs.declared.expect.KeyRange.{KeyRange}
use Rattle.schema_version.specs.declared.element.ElementDef.{ElementDef}
use Rattle.schema_version.specs.declared.element.Work.{Work}
use Rattle.reorganise.specs.declared.work.Span.{Span}
use Rattle.reorganise.specs.declared.work.Progress.{Progress}
use Rattle.reorganise.specs.declared.read.Reading.{Reading}
use Rattle.reorganise.specs.declared.scan_range.ScanRange.{ScanRange}
use Rattle.reorganise.specs.ScanRanges.{scan_range_of, start, end, items, item_keys, IsItemKey}

-- ---- the bounds

-- where piece k begins: piece 0 at the start, a later one at the key of item k * n / pieces
abbrev pub bound : ScanRange → List Bytes → ℕ → ℕ → Bytes
bound scan_range keys pieces k = if k == 0 then start scan_range else unwrap_or (slice_get keys ((k * length keys) / pieces)) (end scan_range)

-- a piece ends where the next one begins, and the cursor starts at the lower bound
abbrev pub span_at : ScanRange → List Bytes → ℕ → ℕ → Span
span_at scan_range keys pieces k = record { low = bound scan_range keys pieces k; high = bound scan_range keys pieces (k + 1); cursor = bound scan_range keys pieces k }

-- the pieces below k
abbrev pub spans : ScanRange → List Bytes → ℕ → ℕ → List Span
spans scan_range keys pieces zero = []
spans scan_range keys pieces (suc k) = spans scan_range keys pieces k ++ span_at scan_range keys pieces k ∷ []

-- a reorganisation with so many pieces, by the items among the pairs
abbrev pub begun : ElementDef → Work → Pairs → ℕ → Progress
begun element work pairs pieces = record {
  element = element;
  kind = work;
  pieces = spans (scan_range_of element work) (items (scan_range_of element work) pairs) pieces pieces;
}

-- the cursor is the upper bound
abbrev pub is_ended : Span → Bool
is_ended span = is_eq (bytes_cmp span.cursor span.high)

abbrev pub are_ended : List Span → Bool
are_ended [] = true
are_ended (piece ∷ pieces) = is_ended piece && are_ended pieces

-- ---- one piece of work

-- where a piece of this limit comes to: the key of the item after so many, or the upper bound
abbrev pub next_cursor : ScanRange → Pairs → Bytes → Bytes → ℕ → Bytes
next_cursor scan_range pairs cursor high limit = unwrap_or (slice_get (item_keys scan_range (key_range pairs cursor high)) limit) high

-- the pairs with keys from low to below high
abbrev pub part : Pairs → Bytes → Bytes → Pairs
part pairs low high = map.retain_keys pairs (is_within low high)

-- the pairs from the old cursor to the new one
abbrev pub key_range_read : ScanRange → Pairs → Bytes → Bytes → ℕ → KeyRange
key_range_read scan_range pairs cursor high limit = record {
  low = cursor;
  high = next_cursor scan_range pairs cursor high limit;
  pairs = part pairs cursor (next_cursor scan_range pairs cursor high limit);
}

-- what is read of a piece
abbrev pub view_at : Progress → Pairs → ℕ → ℕ → Span → Reading
view_at progress pairs piece limit span = record {
  element = progress.element;
  kind = progress.kind;
  piece = piece;
  low = span.low;
  high = span.high;
  key_range = key_range_read (scan_range_of progress.element progress.kind) pairs span.cursor span.high limit;
}

-- what is read of the piece of this number
pub record IsReadOf (progress : Progress) (pairs : Pairs) (piece limit : ℕ) (read : Reading) : Type 0 where
  pub span : Span
  pub here : slice_get progress.pieces piece ≡ Some span
  pub read_is : read ≡ view_at progress pairs piece limit span

-- where a piece comes to: not back, nor past its upper bound, and to that bound or to an item
pub record ComesTo (scan_range : ScanRange) (cursor high to : Bytes) : Type 0 where
  pub onward : is_le (bytes_cmp cursor to) ≡ true
  pub bounded : is_le (bytes_cmp to high) ≡ true
  pub ends : (to ≡ high) ⊎ IsItemKey scan_range to

-- what is true of all that was read of a piece, of whatever pairs: it comes to the new cursor, and its pairs are some between the two
pub record IsReading (read : Reading) : Type 0 where
  pub comes : ComesTo (scan_range_of read.element read.kind) read.key_range.low read.high read.key_range.high
  pub inside : (key value : Bytes) → map.get read.key_range.pairs key ≡ Some value → is_within read.key_range.low read.key_range.high key ≡ true

-- ---- reading as far as a key

-- what is read of a piece as far as this key
abbrev pub view_to : Progress → Pairs → ℕ → Bytes → Span → Reading
view_to progress pairs piece to span = record {
  element = progress.element;
  kind = progress.kind;
  piece = piece;
  low = span.low;
  high = span.high;
  key_range = record { low = span.cursor; high = to; pairs = part pairs span.cursor to };
}

-- the piece of this number can come to this key
pub record CanCome (progress : Progress) (piece : ℕ) (to : Bytes) : Type 0 where
  pub span : Span
  pub here : slice_get progress.pieces piece ≡ Some span
  pub comes : ComesTo (scan_range_of progress.element progress.kind) span.cursor span.high to

-- what is read of the piece of this number as far as this key
pub record IsReadTo (progress : Progress) (pairs : Pairs) (piece : ℕ) (to : Bytes) (read : Reading) : Type 0 where
  pub span : Span
  pub here : slice_get progress.pieces piece ≡ Some span
  pub comes : ComesTo (scan_range_of progress.element progress.kind) span.cursor span.high to
  pub read_is : read ≡ view_to progress pairs piece to span
