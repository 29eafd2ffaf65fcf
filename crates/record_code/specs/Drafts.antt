-- Cited by the contracts of control_bytes, txn_bytes, txn_bytes_under, piece_bytes and open_bytes.
-- Drafts as bytes.
use Rattle.std.specs.Prelude.{List, [], ◌∷◌, ◌++◌, Option, Some, None}
use Rattle.std.specs.List.{AllByRecursion}
use mathlib.Core.List.{map as each}
use Rattle.std.specs.FinMap as map
use Rattle.row_map.specs.Rows.{Bytes}
use Rattle.row_map.specs.Writes.{Batch}
use Rattle.row_map.specs.declared.expect.Expect.{Expect}
use Rattle.schema_version.specs.Version.{Version}
use Rattle.entry_code.specs.declared.parts.DraftParts.{DraftParts}
use Rattle.entry_code.specs.Records.{draft_parts_code}
pub use Rattle.entry_code.specs.Records.{ranges_of}
use Rattle.drafts.specs.Calls.{nothing}
use Rattle.drafts.specs.Coded.{coded, IsFit}
use Rattle.drafts.specs.declared.record.Record.{Record}
use Rattle.drafts.specs.declared.record.Record.TheVariants.{Version as OfVersion}
use Rattle.drafts.specs.Store.{Key, version_key, Draft}
use Rattle.drafts.specs.declared.record.Control.{Control}
use Rattle.record_code.specs.Keys.{key_code, HasKey}
use Rattle.record_code.specs.Records.{record_code, HasRecord}

-- control records as pairs of a store, each present or missing
abbrev pub points_of : List (Key × Option Record) → List (Bytes × Option Bytes)
points_of = each (coded key_code record_code)

-- all that is compared and written, control records before the pairs of rows and indexes, which come by rising key
abbrev pub parts_of : Draft → DraftParts
parts_of draft =
    record {
      compare = points_of draft.reads ++ map.entries draft.expect.points;
      ranges = ranges_of draft.expect.key_range;
      write = points_of draft.writes ++ map.entries draft.batch;
    }

abbrev pub draft_code : Draft → Bytes
draft_code draft = draft_parts_code (parts_of draft)

-- the control records have codes that tell them apart
abbrev pub AreFitPoints : List (Key × Option Record) → Type 0
AreFitPoints = AllByRecursion (IsFit HasKey HasRecord)

pub record IsFitDraft (draft : Draft) : Type 0 where
  pub reads : AreFitPoints draft.reads
  pub writes : AreFitPoints draft.writes

-- a draft of these control records
abbrev pub draft_with : Control → Expect → Batch → Draft
draft_with control expect batch = record { reads = control.reads; expect = expect; writes = control.writes; batch = batch }

-- version 1 is missing, and is then put
abbrev pub open_draft : Version → Draft
open_draft schema =
    record {
      reads = (version_key 1, None) ∷ [];
      expect = nothing;
      writes = (version_key 1, Some (OfVersion schema)) ∷ [];
      batch = map.empty;
    }
