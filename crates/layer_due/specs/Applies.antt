-- Cited by the contracts of due_applies.
-- A store that still has the records that were found applies the draft of the act that is due.
use Rattle.std.specs.Prelude.{◌≡◌, ℕ, ◌+◌, List, ◌∷◌, Some, None, option_map, is_some}
use Rattle.std.specs.FinMap as map
use Rattle.row_map.specs.Expect.{Holds}
use Rattle.row_map.specs.Rows.{Bytes}
use Rattle.schema_version.specs.declared.step.Move.{Move}
use Rattle.reorganise.specs.declared.read.Reading.{Reading}
use Rattle.reorganise.specs.Batches.{expect_of}
use Rattle.drafts.specs.Calls.{Beginning, begin_draft, close_draft, piece_draft, publish_draft, reorg_worked}
use Rattle.drafts.specs.Made.{working}
use Rattle.drafts.specs.Publish.{found_in, publication, AreReady as AreBegun}
use Rattle.drafts.specs.Store.{version_key, reorg_key, cursor_key, Store, MayApply}
use Rattle.drafts.specs.declared.record.Record.TheVariants.{Version as OfVersion, Reorg as OfReorg, Cursor as OfCursor}
use Rattle.layer_due.specs.Records.{Records, cursor_in}
use Rattle.layer_due.specs.Due.{IsDue}
use Rattle.layer_due.specs.declared.act.Act.{Act}
use Rattle.layer_due.specs.declared.act.Act.TheVariants as act

-- the store has these records, and no other reorganisation or cursor
pub record HasRecords (store : Store) (records : Records) : Type 0 where
  pub newest : map.get store.control (version_key (records.newest.before + 1)) ≡ Some (OfVersion records.newest.schema)
  pub none_after : map.get store.control (version_key (records.newest.before + 2)) ≡ None
  pub previous : is_some (map.get store.control (version_key records.newest.before)) ≡ records.previous_is_open
  pub reorgs : (element : ℕ) → map.get store.control (reorg_key element) ≡ option_map OfReorg (found_in records.reorgs element)
  pub cursors : (element piece : ℕ) → map.get store.control (cursor_key element piece) ≡ option_map OfCursor (cursor_in records.cursors element piece)

-- a piece that was read from its cursor on
pub record IsReadFrom (records : Records) (number piece : ℕ) (read : Reading) (bounds : List (Bytes × Bytes)) : Type 0 where
  pub number_is : read.element.number ≡ number
  pub piece_is : read.piece ≡ piece
  pub reorg : found_in records.reorgs number ≡ Some (reorg_worked (working read bounds))
  pub cursor : cursor_in records.cursors number piece ≡ Some read.key_range.low

-- the store applies the act's draft
abbrev pub IsApplied : Store → Records → List (List Move) → Act → Type 0
IsApplied store records steps (act.Begin number) = (b : Beginning) → b.newest ≡ records.newest → b.element.number ≡ number → MayApply (begin_draft b) store
IsApplied store records steps act.Close = MayApply (close_draft records.newest) store
IsApplied store records steps act.Publish =
    (step : List Move) (more : List (List Move)) → steps ≡ step ∷ more
    → AreBegun records.newest.schema (found_in records.reorgs) step × MayApply (publish_draft (publication records.newest step records.reorgs)) store
IsApplied store records steps (act.Work number piece) =
    (read : Reading) (bounds : List (Bytes × Bytes)) → IsReadFrom records number piece read bounds → Holds (expect_of read.key_range) store.pairs → MayApply (piece_draft (working read bounds)) store
IsApplied store records steps act.Nothing = Unit {0}

abbrev pub DueApplies : Type 0
DueApplies = (store : Store) (records : Records) (steps : List (List Move)) (due : Act) → HasRecords store records → IsDue records steps due → IsApplied store records steps due
