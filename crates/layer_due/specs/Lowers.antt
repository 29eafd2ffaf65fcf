-- Cited by the contracts of dues_lower.
-- What is left of a change in one version, and how the act that is due lowers it.
use Rattle.std.specs.Prelude.{◌≡◌, ℕ, ◌+◌, ◌<◌, ◌&&◌, List, [], ◌∷◌, Some, Bool, filter, length, is_some, not, false}
use Rattle.row_map.specs.Rows.{Bytes}
use Rattle.schema_version.specs.declared.element.ElementDef.{ElementDef}
use Rattle.schema_version.specs.declared.step.Move.{Move}
use Rattle.schema_version.specs.Edges.{wanted_work}
use Rattle.schema_version.specs.Version.{live}
use Rattle.reorganise.specs.declared.read.Reading.{Reading}
use Rattle.reorganise.specs.declared.work.Span.{Span}
use Rattle.reorganise.specs.ScanRanges.{scan_range_of, start}
use Rattle.drafts.specs.Calls.{Beginning, IsBeginning, Division, IsDivision, begin_draft, close_draft, divide_draft, piece_draft, reorg_begun, reorg_of}
use Rattle.drafts.specs.Made.{working}
use Rattle.drafts.specs.Publish.{found_in}
use Rattle.drafts.specs.Store.{Store, applied}
use Rattle.layer_due.specs.Records.{Records, Cursor, cursor_in}
use Rattle.layer_due.specs.Due.{IsDue}
use Rattle.layer_due.specs.Applies.{HasRecords, IsReadFrom}
use Rattle.layer_due.specs.declared.act.Act.{Act}
use Rattle.layer_due.specs.declared.act.Act.TheVariants as act

-- whether an element wants a fill or a clear of which none was found
abbrev pub is_wanting : Records → ElementDef → Bool
is_wanting records element = is_some (wanted_work element) && not (is_some (found_in records.reorgs element.number))

-- how many begins are left in this version
abbrev pub begins_left : Records → ℕ
begins_left records = length (filter (is_wanting records) (live records.newest.schema))

-- the records after each act but a step
abbrev pub begun : Records → Beginning → Records
begun records b = record records {
  reorgs = reorg_begun b ∷ records.reorgs;
  cursors = record { element = b.element.number; piece = 0; key = start (scan_range_of b.element b.work) } ∷ records.cursors;
}

-- the cursors of pieces from this one on, put before those that were found
abbrev pub started : ℕ → ℕ → List Span → List Cursor → List Cursor
started element piece [] cursors = cursors
started element piece (span ∷ spans) cursors = started element (piece + 1) spans (record { element = element; piece = piece; key = span.cursor } ∷ cursors)

abbrev pub divided : Records → Division → Records
divided records d = record records {
  reorgs = reorg_of d.progress ∷ records.reorgs;
  cursors = started d.progress.element.number 0 d.progress.pieces records.cursors;
}

abbrev pub closed : Records → Records
closed records = record records { previous_is_open = false }

abbrev pub worked : Records → Reading → Records
worked records read = record records { cursors = record { element = read.element.number; piece = read.piece; key = read.key_range.high } ∷ records.cursors }

-- a begin, in one piece or in several, lowers the begins that are left; a close leaves them, and is not due again in this version; a piece leaves them and moves one cursor from
-- the beginning to the end of the range that was read. A step is one fewer of the plan
abbrev pub IsLowered : Store → Records → Act → Type 0
IsLowered store records (act.Begin number) =
    ((b : Beginning) → b.newest ≡ records.newest → b.element.number ≡ number → IsBeginning b
    → HasRecords (applied (begin_draft b) store) (begun records b) × (begins_left (begun records b) < begins_left records))
    × ((d : Division) → d.newest ≡ records.newest → d.progress.element.number ≡ number → IsDivision d
    → HasRecords (applied (divide_draft d) store) (divided records d) × (begins_left (divided records d) < begins_left records))
IsLowered store records act.Close = HasRecords (applied (close_draft records.newest) store) (closed records) × (begins_left (closed records) ≡ begins_left records)
IsLowered store records act.Publish = Unit {0}
IsLowered store records (act.Work number piece) =
    (read : Reading) (bounds : List (Bytes × Bytes)) → IsReadFrom records number piece read bounds
    → HasRecords (applied (piece_draft (working read bounds)) store) (worked records read) × (begins_left (worked records read) ≡ begins_left records)
    × (cursor_in (worked records read).cursors number piece ≡ Some read.key_range.high)
IsLowered store records act.Nothing = Unit {0}

abbrev pub DuesLower : Type 0
DuesLower = (store : Store) (records : Records) (steps : List (List Move)) (due : Act) → HasRecords store records → IsDue records steps due → IsLowered store records due
