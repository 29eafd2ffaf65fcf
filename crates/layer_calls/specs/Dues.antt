-- Cited by the contracts of due and of what it calls.
-- What is due, by the control records that were found.
use Rattle.std.specs.Prelude.{◌≡◌, ◌≢◌, ℕ, ◌==◌, ◌||◌, ◌⊎◌, ℤ, List, [], ◌∷◌, ◌++◌, drop, false, Result, Ok, Err}
use mathlib.Core.List.{map as each}
use Rattle.change_plan.specs.declared.least_plan.PlanStep.{PlanStep}
use Rattle.entry_code.specs.Code.{plan_code}
use Rattle.entry_code.specs.Known.{IsPlan}
use Rattle.entry_code.specs.Parts.{pairs_code}
use Rattle.keycode.specs.Valid.{IsStorable}
use Rattle.row_map.specs.Rows.{Bytes}
use Rattle.schema_version.specs.declared.step.Move.{Move}
use Rattle.drafts.specs.declared.newest.Newest.{Newest}
use Rattle.drafts.specs.declared.record.Reorg.{Reorg}
use Rattle.drafts.specs.Store.{Key, version_key, reorg_key, cursor_key, mark_key}
use Rattle.layer_due.specs.Due.{IsDue, IsStuck, ComesFirst, FailsFirst}
use Rattle.layer_due.specs.declared.act.Act.{Act}
use Rattle.layer_due.specs.declared.act.Act.TheVariants as act
use Rattle.layer_due.specs.declared.act.DueFault.{DueFault}
use Rattle.layer_due.specs.declared.act.DueFault.TheVariants as fault
use Rattle.layer_due.specs.declared.records.Cursor.{Cursor}
use Rattle.layer_due.specs.declared.records.Records.{Records}
use Rattle.record_code.specs.Keys.{key_code, IsKey}
use Rattle.handles.specs.Bounded.{IsNoCode}
use Rattle.handles.specs.Statuses.{ok, bad_code, bad_piece, not_wanted, out_of_memory}
use Rattle.layer_calls.specs.Changes.{newest_of}
use Rattle.layer_calls.specs.Given.{alone, Gives, With, GivesVersion, AreRising, IsReorg, reorg_code, IsCursor, cursor_code}
use Rattle.layer_calls.specs.declared.outcome.DueOutcome.{DueOutcome}
use Rattle.layer_calls.specs.declared.outcome.LayerOutcome.{LayerOutcome}

-- ---- what was found

-- of a version the key alone is read
abbrev pub seen : Records → ℕ → Records
seen records number = record records { previous_is_open = records.previous_is_open || (number == records.newest.before) }

abbrev pub with_reorg : Records → Reorg → Records
with_reorg records reorg = record records { reorgs = records.reorgs ++ reorg ∷ [] }

abbrev pub with_cursor : Records → Cursor → Records
with_cursor records cursor = record records { cursors = records.cursors ++ cursor ∷ [] }

-- a pair is the key and the record of a reorganisation or a cursor, or the key of a version; the numbers of keys are within their types, so the bytes say which
abbrev pub IsAdded : Bytes × Bytes → Records → Records → Type 0
IsAdded pair old new =
    ((number : ℕ) × IsKey (version_key number) × (pair.0 ≡ key_code (version_key number)) × (new ≡ seen old number))
    ⊎ (((element : ℕ) × (reorg : Reorg) × IsKey (reorg_key element) × (pair.0 ≡ key_code (reorg_key element)) × IsReorg reorg × (pair.1 ≡ reorg_code reorg) × (new ≡ with_reorg old reorg))
    ⊎ ((cursor : Cursor) × IsKey (cursor_key cursor.element cursor.piece) × (pair.0 ≡ key_code (cursor_key cursor.element cursor.piece)) × IsCursor cursor.key × (pair.1 ≡ cursor_code cursor.key) × (new ≡ with_cursor old cursor)))

abbrev pub AreAdded : List (Bytes × Bytes) → Records → Records → Type 0
AreAdded [] old new = new ≡ old
AreAdded (pair ∷ pairs) old new = (middle : Records) × IsAdded pair old middle × AreAdded pairs middle new

-- the key is none, or a mark's; or the value is no record of the key's kind
abbrev pub IsUnknown : Bytes × Bytes → Type 0
IsUnknown pair =
    ((key : Key) → IsKey key → pair.0 ≢ key_code key)
    ⊎ (((name : Bytes) × (pair.0 ≡ key_code (mark_key name)))
    ⊎ (((element : ℕ) × IsKey (reorg_key element) × (pair.0 ≡ key_code (reorg_key element)) × IsNoCode IsReorg reorg_code pair.1)
    ⊎ ((element : ℕ) × (piece : ℕ) × IsKey (cursor_key element piece) × (pair.0 ≡ key_code (cursor_key element piece)) × IsNoCode IsCursor cursor_code pair.1)))

abbrev pub HasUnknown : List (Bytes × Bytes) → Type 0
HasUnknown [] = ⊥
HasUnknown (pair ∷ pairs) = IsUnknown pair ⊎ HasUnknown pairs

-- the newest version, before anything was found
abbrev pub alone_with : Newest → Records
alone_with newest = record { newest = newest; previous_is_open = false; reorgs = []; cursors = [] }

abbrev pub GivesRecords : Newest → Bytes → Result Records LayerOutcome → Type 0
GivesRecords newest bytes (Ok records) = (pairs : List (Bytes × Bytes)) × AreRising pairs × (bytes ≡ pairs_code pairs) × AreAdded pairs (alone_with newest) records
GivesRecords newest bytes (Err outcome) =
    (outcome ≡ alone out_of_memory)
    ⊎ ((outcome ≡ alone bad_code) × (IsNoCode AreRising pairs_code bytes ⊎ ((pairs : List (Bytes × Bytes)) × AreRising pairs × (bytes ≡ pairs_code pairs) × HasUnknown pairs)))

-- the steps of a plan
abbrev pub steps_in : List PlanStep → List (List Move)
steps_in plan = each (λ (planned : PlanStep). planned.step) plan

abbrev pub GivesSteps : Bytes → Result (List (List Move)) LayerOutcome → Type 0
GivesSteps = Gives (IsPlan IsStorable) plan_code steps_in

-- ---- what is due

abbrev pub stuck_outcome : DueFault → LayerOutcome
stuck_outcome (fault.NoCursor element piece) = alone bad_piece
stuck_outcome fault.NotReady = alone not_wanted

abbrev pub DueBy : Records → List (List Move) → Result Act LayerOutcome → Type 0
DueBy records steps (Ok due) = IsDue records steps due × ComesFirst records due
DueBy records steps (Err outcome) = (why : DueFault) × IsStuck records steps why × FailsFirst records why × (outcome ≡ stuck_outcome why)

-- the act that is due by the records, and by the steps of the plan after so many
abbrev pub DueFrom : ℕ → Bytes → Bytes → Bytes → ℕ → Result Act LayerOutcome → Type 0
DueFrom before version found plan published =
    With GivesVersion (λ v a. With (GivesRecords (newest_of before v)) (λ r b. With GivesSteps (λ s c. DueBy r (drop published s) c) plan b) found a) version

-- ---- what it is reported as

abbrev pub due_alone : ℤ → DueOutcome
due_alone status = record { status = status; act = 0; element = 0; piece = 0 }

abbrev pub act_outcome : Act → DueOutcome
act_outcome act.Nothing = due_alone ok
act_outcome (act.Begin element) = record { status = ok; act = 1; element = element; piece = 0 }
act_outcome act.Close = record { status = ok; act = 2; element = 0; piece = 0 }
act_outcome act.Publish = record { status = ok; act = 3; element = 0; piece = 0 }
act_outcome (act.Work element piece) = record { status = ok; act = 4; element = element; piece = piece }

abbrev pub due_outcome : Result Act LayerOutcome → DueOutcome
due_outcome (Ok due) = act_outcome due
due_outcome (Err outcome) = due_alone outcome.status

abbrev pub Dues : ℕ → Bytes → Bytes → Bytes → ℕ → DueOutcome → Type 0
Dues before version found plan published outcome = (answer : Result Act LayerOutcome) × DueFrom before version found plan published answer × (outcome ≡ due_outcome answer)
