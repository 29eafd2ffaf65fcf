-- Cited by the contracts of all calls.
-- What a call is given as bytes: the thing whose code they are, or the status of why there is none.
use Rattle.std.specs.Prelude.{◌≡◌, ℕ, ◌⊎◌, ℤ, List, [], ◌∷◌, Option, Result, Ok, Err}
use mathlib.Core.List.{map as each}
use Rattle.std.specs.FinMap as map
use Rattle.byte_map.specs.Sorted.{IsSorted}
use Rattle.byte_map.specs.Writes.{noted}
use Rattle.entry_code.specs.Code.{opening_code, ops_code, query_code, step_code}
use Rattle.entry_code.specs.Known.{IsOpening, AreOps, IsQuery, AreMoves}
use Rattle.entry_code.specs.Parts.{pairs_code, ArePairs}
use Rattle.entry_code.specs.Records.{points_code, ArePoints}
use Rattle.keycode.specs.Valid.{IsStorable}
use Rattle.row_map.specs.Expect.{View}
use Rattle.row_map.specs.Rows.{Bytes, Pairs}
use Rattle.row_query.specs.declared.query.Query.{Query}
use Rattle.row_write.specs.declared.op.RowOp.{RowOp}
use Rattle.schema_version.specs.Version.{Version}
use Rattle.schema_version.specs.declared.step.Move.{Move}
use Rattle.schema_version.specs.declared.table.TableDef.{TableDef}
use Rattle.drafts.specs.declared.record.Record.TheVariants.{Version as OfVersion, Reorg as OfReorg, Cursor as OfCursor}
use Rattle.drafts.specs.declared.record.Reorg.{Reorg}
use Rattle.record_code.specs.Records.{record_code, IsKnown}
use Rattle.record_code.specs.declared.fault.RecordFault.{RecordFault}
use Rattle.record_code.specs.declared.fault.RecordFault.TheVariants.{Version as OtherFormat, Trailing, Malformed, Unsound, Memory}
use Rattle.handles.specs.Bounded.{IsNoCode}
use Rattle.handles.specs.Statuses.{bad_code, out_of_memory}
use Rattle.layer_calls.specs.declared.outcome.LayerOutcome.{LayerOutcome}
use Rattle.layer_calls.specs.declared.outcome.LayerReply.{LayerReply}

-- a status alone
abbrev pub alone : ℤ → LayerOutcome
alone status = record { status = status; column = 0; number = 0; length = 0 }

-- a status with a number
abbrev pub numbered : ℤ → ℕ → LayerOutcome
numbered status number = record { status = status; column = 0; number = number; length = 0 }

-- the code of a thing that is as P says; or of none, or memory ran out before it was read
abbrev pub Gives : {X Y : Type 0} → (X → Type 0) → (X → Bytes) → (X → Y) → Bytes → Result Y LayerOutcome → Type 0
Gives {X} P code made bytes (Ok y) = (x : X) × P x × (bytes ≡ code x) × (y ≡ made x)
Gives P code made bytes (Err outcome) = (outcome ≡ alone out_of_memory) ⊎ ((outcome ≡ alone bad_code) × IsNoCode P code bytes)

-- what bytes that are the code of no record are reported as
abbrev pub record_refusal : RecordFault → LayerOutcome
record_refusal OtherFormat = alone bad_code
record_refusal Trailing = alone bad_code
record_refusal Malformed = alone bad_code
record_refusal Unsound = alone bad_code
record_refusal Memory = alone out_of_memory

-- a version that may be read back
abbrev pub IsVersion : Version → Type 0
IsVersion version = IsKnown IsStorable (OfVersion version)

abbrev pub version_code : Version → Bytes
version_code version = record_code (OfVersion version)

abbrev pub GivesVersion : Bytes → Result Version LayerOutcome → Type 0
GivesVersion = Gives IsVersion version_code (λ version. version)

abbrev pub IsReorg : Reorg → Type 0
IsReorg reorg = IsKnown IsStorable (OfReorg reorg)

abbrev pub reorg_code : Reorg → Bytes
reorg_code reorg = record_code (OfReorg reorg)

abbrev pub GivesReorg : Bytes → Result Reorg LayerOutcome → Type 0
GivesReorg = Gives IsReorg reorg_code (λ reorg. reorg)

-- pairs put one after another
abbrev pub put_all : Pairs → List (Bytes × Bytes) → Pairs
put_all pairs [] = pairs
put_all pairs (pair ∷ rest) = put_all (map.insert pairs pair.0 pair.1) rest

abbrev pub AreRising : List (Bytes × Bytes) → Type 0
AreRising pairs = ArePairs pairs × IsSorted pairs

abbrev pub GivesPairs : Bytes → Result Pairs LayerOutcome → Type 0
GivesPairs = Gives AreRising pairs_code (put_all map.empty)

-- the keys of a list of points
abbrev pub keys_in : List (Bytes × Option Bytes) → List Bytes
keys_in points = each (λ (point : Bytes × Option Bytes). point.0) points

abbrev pub GivesKeys : Bytes → Result (List Bytes) LayerOutcome → Type 0
GivesKeys = Gives ArePoints points_code keys_in

abbrev pub IsCursor : Bytes → Type 0
IsCursor cursor = IsKnown IsStorable (OfCursor cursor)

abbrev pub cursor_code : Bytes → Bytes
cursor_code cursor = record_code (OfCursor cursor)

abbrev pub GivesCursor : Bytes → Result Bytes LayerOutcome → Type 0
GivesCursor = Gives IsCursor cursor_code (λ cursor. cursor)

-- ---- what has a code of its own

abbrev pub GivesOpening : Bytes → Result (ℕ × List TableDef) LayerOutcome → Type 0
GivesOpening = Gives IsOpening opening_code (λ opening. opening)

abbrev pub GivesOps : Bytes → Result (List RowOp) LayerOutcome → Type 0
GivesOps = Gives (AreOps IsStorable) ops_code (λ ops. ops)

abbrev pub GivesQuery : Bytes → Result Query LayerOutcome → Type 0
GivesQuery = Gives (IsQuery IsStorable) query_code (λ query. query)

abbrev pub GivesStep : Bytes → Result (List Move) LayerOutcome → Type 0
GivesStep = Gives (AreMoves IsStorable) step_code (λ step. step)

abbrev pub GivesView : Bytes → Result View LayerOutcome → Type 0
GivesView = Gives ArePoints points_code (noted map.empty)

-- ---- a call on what it is given

abbrev pub Answer : Type 0
Answer = Result LayerReply LayerOutcome

-- the thing is given, and the call answers for it; or it is not
abbrev pub With : {Y Z : Type 0} → (Bytes → Result Y LayerOutcome → Type 0) → (Y → Result Z LayerOutcome → Type 0) → Bytes → Result Z LayerOutcome → Type 0
With {Y} GivesIt Answers bytes answer =
    ((y : Y) × GivesIt bytes (Ok y) × Answers y answer)
    ⊎ ((outcome : LayerOutcome) × GivesIt bytes (Err outcome) × (answer ≡ Err outcome))

-- these bytes, with no number
abbrev pub Replies : Bytes → LayerReply → Type 0
Replies code reply = reply ≡ record { code = code; number = 0 }
