-- Cited by the contracts of pieces_share, cursors_pass, ranges_are, bounds_hold and 3 more.
-- What pieces come to, in the words in which elements keep their laws.
use Rattle.std.specs.Prelude.{◌≡◌, ◌⊎◌, ℕ, ◌≤◌, zero, suc, true, ◌+◌, ◌<◌, ◌^◌, ◌↔◌, List, [], ◌∷◌, length, Some, slice_get}
use Rattle.std.specs.List.{AllByRecursion}
use mathlib.Core.List.{map as each}
use Rattle.keycode.specs.declared.value.Value.{Value}
use Rattle.keycode.specs.Valid.{IsStorable}
use Rattle.row_map.specs.Rows.{Bytes, Rows, Pairs, AreStorable}
use Rattle.row_map.specs.Writes.{written_all, laid}
use Rattle.row_map.specs.Ranges.{table_prefix, IsRowBound}
use Rattle.row_map.specs.Expect.{Holds}
use Rattle.schema_version.specs.declared.element.Kind.{Kind}
use Rattle.schema_version.specs.declared.element.Kind.TheVariants.{Index, Optional, Required}
use Rattle.schema_version.specs.declared.element.ElementDef.{ElementDef}
use Rattle.schema_version.specs.Version.{Version, element_at, IsPublicColumn}
use Rattle.element_state.specs.Elements.{Meaning, AreFormed, Subset, Exact}
use Rattle.element_state.specs.Exists.{exists_meaning}
use Rattle.element_state.specs.Column.{IsLawfulColumn}
use Rattle.element_state.specs.Required.{required_of}
use Rattle.element_state.specs.Sources.{source_in, source_alone, default_value_at}
use Rattle.element_state.specs.Consistent.{DemandOf, IsConsistent}
use Rattle.schema_version.specs.Sound.{IsSoundVersion}
use Rattle.element_state.specs.Items.{ClearRange, Bounds, RowsOf, IsBound, HasRange, row_items, fill_puts, clear_writes}
use Rattle.element_state.specs.Kinds.{kind_clear}
use Rattle.element_state.specs.Versions.{meaning_of, Of}
use Rattle.element_state.specs.Core.{PassedSpan as Passed, NoCell}
use Rattle.element_state.specs.Whole.{fresh_spans}
use Rattle.element_state.specs.Reaches as reaches
use Rattle.element_state.specs.Ended.{Piece, passed_spans, HaveEnded}
use Rattle.element_state.specs.Ended as ended
use Rattle.schema_version.specs.declared.element.Work.{Work}
use Rattle.schema_version.specs.declared.element.Work.TheVariants.{Fill, Clear}
use Rattle.reorganise.specs.declared.work.Span.{Span}
use Rattle.reorganise.specs.declared.read.Reading.{Reading}
use Rattle.reorganise.specs.declared.scan_range.ScanRange.{ScanRange}
use Rattle.reorganise.specs.ScanRanges.{scan_range_of, start, end, items, IsItemKey, ItemsAreEmpty}
use Rattle.reorganise.specs.Pieces.{begun, are_ended, IsReading}
use Rattle.reorganise.specs.Partition.{AreJoined}
use Rattle.reorganise.specs.Left.{items_left}
use Rattle.reorganise.specs.Batches.{expect_of, batch_for}

-- ---- the pieces of a reorganisation

abbrev pub piece_of : Span → Piece
piece_of span = record { low = span.low; high = span.high; cursor = span.cursor }

abbrev pub pieces_of : List Span → List Piece
pieces_of = each piece_of

-- joined pieces are joined, whatever their cursors
abbrev pub PiecesJoin : Type 0
PiecesJoin = (low high : Bytes) (pieces : List Span) → AreJoined low high pieces → ended.AreJoined low high (pieces_of pieces)

-- all pieces have ended exactly when each has come to its upper bound
abbrev pub PiecesEnd : Type 0
PiecesEnd = (pieces : List Span) → (are_ended pieces ≡ true) ↔ HaveEnded (pieces_of pieces)

-- one piece's cursor is moved
abbrev pub with_cursor : ℕ → Bytes → List Span → List Span
with_cursor place to [] = []
with_cursor zero to (piece ∷ pieces) = record piece { cursor = to } ∷ pieces
with_cursor (suc place) to (piece ∷ pieces) = piece ∷ with_cursor place to pieces

-- what the pieces have passed
abbrev pub passed_by : List Span → List Passed
passed_by pieces = passed_spans (pieces_of pieces)

-- at the begin nothing is passed
abbrev pub BeginsFresh : Type 0
BeginsFresh =
    (element : ElementDef) (kind : Work) (pairs : Pairs) (pieces : ℕ)
    → passed_by (begun element kind pairs pieces).pieces ≡ fresh_spans (each (λ (s : Span). s.low) (begun element kind pairs pieces).pieces)

-- a piece has passed the keys before its cursor
abbrev pub CursorStands : Type 0
CursorStands = (pieces : List Span) (place : ℕ) (span : Span) → slice_get pieces place ≡ Some span → reaches.cursor_at place (passed_by pieces) ≡ span.cursor

-- to move its cursor is to pass more
abbrev pub CursorMoves : Type 0
CursorMoves = (pieces : List Span) (place : ℕ) (to : Bytes) → passed_by (with_cursor place to pieces) ≡ reaches.with_cursor place to (passed_by pieces)

-- pieces stay joined where a cursor is moved
abbrev pub JoinStays : Type 0
JoinStays = (low high : Bytes) (pieces : List Span) (place : ℕ) (to : Bytes) → AreJoined low high pieces → AreJoined low high (with_cursor place to pieces)

-- ---- where they stand

-- what a clear of the element goes through, which is the same in every version
abbrev pub clear_of : ElementDef → ClearRange
clear_of element = kind_clear element.table element.number (source_alone element.kind)

abbrev pub ClearIsOfKind : Type 0
ClearIsOfKind = (version : Version) (element : ElementDef) → clear_of element ≡ kind_clear element.table element.number (source_in version element.kind)

-- where a fill or a clear of `element_state` may begin and end
abbrev pub bounds_of : ElementDef → Work → Bounds
bounds_of element Fill = RowsOf element.table
bounds_of element Clear = (clear_of element).bounds

-- a fill goes through the keys of the table's rows
abbrev pub FillRange : Type 0
FillRange =
    (element : ElementDef) → element.table + 1 < 2 ^ 32
    → (start (scan_range_of element Fill) ≡ table_prefix element.table) × (end (scan_range_of element Fill) ≡ table_prefix (element.table + 1))

-- a clear goes through the range that its kind says
abbrev pub ClearRangeIs : Type 0
ClearRangeIs =
    (element : ElementDef) → HasRange element.table element.number
    → (start (scan_range_of element Clear) ≡ (clear_of element).low) × (end (scan_range_of element Clear) ≡ (clear_of element).high)

-- where a piece may begin or end, and where its cursor may stand: at an end of the range, or at the key of an item
abbrev pub IsPieceBound : ScanRange → Bytes → Type 0
IsPieceBound scan_range key = (key ≡ start scan_range) ⊎ (key ≡ end scan_range) ⊎ IsItemKey scan_range key

pub record HasBounds (scan_range : ScanRange) (span : Span) : Type 0 where
  pub low : IsPieceBound scan_range span.low
  pub high : IsPieceBound scan_range span.high
  pub cursor : IsPieceBound scan_range span.cursor

-- pieces that begin over keys of pairs begin and end where they may
abbrev pub BeginsAtBounds : Type 0
BeginsAtBounds =
    (element : ElementDef) (kind : Work) (pairs : Pairs) (pieces : ℕ) → AreFormed pairs
    → AllByRecursion (HasBounds (scan_range_of element kind)) (begun element kind pairs pieces).pieces

-- and they stay where they may, where a cursor is moved to such a place
abbrev pub BoundsStay : Type 0
BoundsStay =
    (scan_range : ScanRange) (pieces : List Span) (place : ℕ) (to : Bytes) → IsPieceBound scan_range to → AllByRecursion (HasBounds scan_range) pieces → AllByRecursion (HasBounds scan_range) (with_cursor place to pieces)

-- a piece comes to where it may end, whatever pairs it was read from
abbrev pub ComesToBound : Type 0
ComesToBound = (read : Reading) → IsReading read → IsPieceBound (scan_range_of read.element read.kind) read.high → IsPieceBound (scan_range_of read.element read.kind) read.key_range.high

-- where a piece may end, a fill or a clear of `element_state` may
abbrev pub BoundsServe : Type 0
BoundsServe = (element : ElementDef) (kind : Work) (key : Bytes) → element.table + 1 < 2 ^ 32 → IsPieceBound (scan_range_of element kind) key → IsBound (bounds_of element kind) key

-- in a store that agrees with a version, the items of a fill or a clear are the pairs of its range whose value is empty: a column's
-- value is never empty
abbrev pub ItemsEmpty : Type 0
ItemsEmpty =
    (version : Version) (element : ElementDef) (kind : Work) (P : Pairs) (R : Rows) → HasRange element.table element.number → IsConsistent version R P
    → ItemsAreEmpty (scan_range_of element kind) P

-- at its begin all items are left
abbrev pub AllLeft : Type 0
AllLeft =
    (element : ElementDef) (kind : Work) (pairs : Pairs) (pieces : ℕ) → 0 < pieces
    → items_left (begun element kind pairs pieces) pairs ≡ length (items (scan_range_of element kind) pairs)

-- ---- what they write

-- a public column of the table, which has the pairs that the version demands. Pairs can hold what stands for a missing value
pub record HasColumn (version : Version) (table : ℕ) (P : Pairs) (R : Rows) (column : ℕ) : Type 0 where
  pub lawful : IsLawfulColumn column
  pub public : IsPublicColumn version table column
  pub demand : DemandOf version column (element_at version column) P R
  pub default_value : IsStorable (default_value_at version column)

-- a required column in which no row has a value of its own yet, and that has only pairs of the default
pub record HasDefaults (element : ElementDef) (fallback : Value) (P : Pairs) (R : Rows) : Type 0 where
  pub lawful : IsLawfulColumn element.number
  pub bare : NoCell element.number R
  pub subset : Subset (required_of element.table element.number fallback) P R
  pub storable : IsStorable fallback

-- what a fill reads of a row is right: an index's columns are public, and a required column has no value but the default
abbrev pub HasColumnsOf : Version → ElementDef → Pairs → Rows → Kind → Type 0
HasColumnsOf version element P R (Index columns) = AllByRecursion (HasColumn version element.table P R) columns
HasColumnsOf version element P R (Optional type) = Unit {0}
HasColumnsOf version element P R (Required type fallback) = HasDefaults element fallback P R

abbrev pub HasColumns : Version → ElementDef → Pairs → Rows → Type 0
HasColumns version element P R = HasColumnsOf version element P R element.kind

-- a store that agrees with a sound version of the element has it so, where no row has a cell of the element's own number
abbrev pub ColumnsAgree : Type 0
ColumnsAgree =
    (version : Version) (element : ElementDef) (P : Pairs) (R : Rows) → IsSoundVersion version → element_at version element.number ≡ Some element
    → ((n : ℕ) → 1 ≤ n → DemandOf version n (element_at version n) P R) → NoCell element.number R → HasColumns version element P R

abbrev pub meaning_in : Version → ElementDef → Meaning
meaning_in version element = meaning_of element.number (Of element.table (source_in version element.kind))

-- a prepared piece of a fill, where its expectation holds, puts what `fill_of` gives for each row from the old cursor to below the new one
abbrev pub FillLays : Type 0
FillLays =
    (version : Version) (read : Reading) (P : Pairs) (R : Rows) → IsReading read → read.kind ≡ Fill → Holds (expect_of read.key_range) P
    → AreStorable R → AreFormed P → Exact exists_meaning P R → HasColumns version read.element P R
    → read.element.table + 1 < 2 ^ 32 → IsRowBound read.element.table read.key_range.high
    → laid (batch_for read) P ≡ written_all P (fill_puts (meaning_in version read.element) (row_items (meaning_in version read.element).serves R read.key_range.low read.key_range.high))

-- a prepared piece of a clear, where its expectation holds, removes each item from the old cursor to below the new one
abbrev pub ClearLays : Type 0
ClearLays =
    (read : Reading) (P : Pairs) (R : Rows) → IsReading read → read.kind ≡ Clear → Holds (expect_of read.key_range) P
    → AreStorable R → AreFormed P → Exact exists_meaning P R → HasRange read.element.table read.element.number
    → laid (batch_for read) P ≡ written_all P (clear_writes ((clear_of read.element).items R P read.key_range.low read.key_range.high))
