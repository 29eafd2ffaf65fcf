-- Cited by the contracts of lemma_drafts_keep, runs_agree, runs_have_logs, marks_are_once, fresh_txns_apply.
-- After any list of drafts that a store applied, each open version has the pairs that it demands.
use Rattle.std.specs.Prelude.{◌≡◌, ℕ, ◌≤◌, List, [], ◌∷◌, ◌++◌, Option, Some, ◌+◌, ◌⊎◌}
use Rattle.std.specs.List.{AllByRecursion}
use Rattle.std.specs.FinMap as map
use Rattle.row_map.specs.Expect.{View}
use Rattle.row_map.specs.Rows.{Bytes, Rows}
use Rattle.schema_version.specs.Sound.{IsSoundVersion}
use Rattle.schema_version.specs.Version.{Version}
use Rattle.element_state.specs.Consistent.{IsConsistent}
use Rattle.row_write.specs.Made.{PreparedTxn, expects}
use Rattle.row_write.specs.Plain.{transacted}
use Rattle.reorganise.specs.declared.work.Progress.{Progress}
use Rattle.replay.specs.declared.entry.Entry.{Entry}
use Rattle.replay.specs.declared.entry.What.{What}
use Rattle.replay.specs.declared.entry.What.TheVariants.{Lease as GrantEntry, Txn as TxnEntry, Publish as PublishEntry, Begin as BeginEntry, Piece as PieceEntry}
use Rattle.replay.specs.Headline.{MayFollow, AllFollow}
use Rattle.replay.specs.Kept.{IsKept}
use Rattle.replay.specs.Replay.{Opening, Facts, start, after, replay}
use Rattle.drafts.specs.Store.{OfVersion, version_key, Store, IsThere, MayApply, applied, opened}
use Rattle.drafts.specs.Calls.{Call, Transact, Close, Begin, Divide, Piece, Publish, mark_reads, txn_draft, draft_of, IsDrafted}
use Rattle.drafts.specs.Log.{LogEntry, Logged, BegunAt, after_one, after_log, MayComeNext, AllCome}
use Rattle.drafts.specs.Mirror.{Mirrors}

-- ---- a run

abbrev pub AreDrafted : List Call → Type 0
AreDrafted [] = Unit {0}
AreDrafted (call ∷ calls) = IsDrafted call × AreDrafted calls

-- drafts that the store applied in turn; one that it does not apply changes nothing
abbrev pub AreApplied : Store → List Call → Type 0
AreApplied store [] = Unit {0}
AreApplied store (call ∷ calls) = MayApply (draft_of call) store × AreApplied (applied (draft_of call) store) calls

abbrev pub after_calls : Store → List Call → Store
after_calls store [] = store
after_calls store (call ∷ calls) = after_calls (applied (draft_of call) store) calls

-- the transactions applied in turn to plain rows
abbrev pub rows_after : Rows → Call → Rows
rows_after rows (Transact txn mark) = transacted rows txn.ops
rows_after rows (Close newest) = rows
rows_after rows (Begin b) = rows
rows_after rows (Divide d) = rows
rows_after rows (Piece w) = rows
rows_after rows (Publish p) = rows

abbrev pub rows_by : Rows → List Call → Rows
rows_by rows [] = rows
rows_by rows (call ∷ calls) = rows_by (rows_after rows call) calls

-- ---- one draft

-- what an entry says of the draft: a transaction's has its operations, under its version; a close is time that goes by, which a lease of nobody tells
abbrev pub IsWhatOf : Call → What → Type 0
IsWhatOf (Transact txn mark) what = what ≡ TxnEntry txn.lease txn.ops
IsWhatOf (Close newest) what = what ≡ GrantEntry (record { version = 0; granted = 0; until = 0 })
IsWhatOf (Begin b) what = what ≡ BeginEntry b.element.number 1
IsWhatOf (Divide d) what = ⊥
IsWhatOf (Piece w) what = what ≡ PieceEntry w.read.element.number w.read.piece w.read.key_range.high
IsWhatOf (Publish p) what = what ≡ PublishEntry p.step

-- one more entry of the log, with which the store mirrors the log again
pub record HasEntry (facts : Facts) (store : Store) (call : Call) : Type 0 where
  pub entry : Entry
  pub entry_of : IsWhatOf call entry.what
  pub later : facts.moment ≤ entry.moment
  pub may : MayFollow facts entry.moment entry.what
  pub mirrors : Mirrors (after facts entry) (applied (draft_of call) store)
  pub rows : (after facts entry).rows ≡ rows_after facts.rows call

-- what `replay` has entries for: all but begins with given bounds
abbrev pub IsLogged : Call → Type 0
IsLogged (Transact txn mark) = Unit {0}
IsLogged (Close newest) = Unit {0}
IsLogged (Begin b) = Unit {0}
IsLogged (Divide d) = ⊥
IsLogged (Piece w) = Unit {0}
IsLogged (Publish p) = Unit {0}

abbrev pub AreLogged : List Call → Type 0
AreLogged [] = Unit {0}
AreLogged (call ∷ calls) = IsLogged call × AreLogged calls

abbrev pub DraftsKeep : Type 0
DraftsKeep = (facts : Facts) (store : Store) (call : Call) → IsKept facts → Mirrors facts store → IsDrafted call → IsLogged call → MayApply (draft_of call) store → HasEntry facts store call

-- a begin with given bounds is that begin
abbrev pub IsBegunBy : Call → Progress → Type 0
IsBegunBy (Divide d) begun = begun ≡ d.progress
IsBegunBy (Transact txn mark) begun = ⊥
IsBegunBy (Close newest) begun = ⊥
IsBegunBy (Begin b) begun = ⊥
IsBegunBy (Piece w) begun = ⊥
IsBegunBy (Publish p) begun = ⊥

-- the entry that a draft is
abbrev pub IsEntryOf : Call → LogEntry → Type 0
IsEntryOf call (Logged entry) = IsWhatOf call entry.what
IsEntryOf call (BegunAt now begun) = IsBegunBy call begun

-- one for each draft, in their order
abbrev pub AreEntriesOf : List Call → List LogEntry → Type 0
AreEntriesOf [] [] = Unit {0}
AreEntriesOf [] (one ∷ log) = ⊥
AreEntriesOf (call ∷ calls) [] = ⊥
AreEntriesOf (call ∷ calls) (one ∷ log) = IsEntryOf call one × AreEntriesOf calls log

-- one more entry, with which the store mirrors the log again and keeps all
pub record HasNext (facts : Facts) (store : Store) (call : Call) : Type 0 where
  pub one : LogEntry
  pub entry_of : IsEntryOf call one
  pub comes : MayComeNext facts one
  pub kept : IsKept (after_one facts one)
  pub mirrors : Mirrors (after_one facts one) (applied (draft_of call) store)
  pub rows : (after_one facts one).rows ≡ rows_after facts.rows call

abbrev pub AllKeep : Type 0
AllKeep = (facts : Facts) (store : Store) (call : Call) → IsKept facts → Mirrors facts store → IsDrafted call → MayApply (draft_of call) store → HasNext facts store call

-- ---- all drafts

-- the log's lease length is one moment
abbrev pub opening_of : Version → Opening
opening_of schema = record { length = 1; schema = schema }

-- a log that the theorem on logs speaks of, with an entry for each draft
pub record HasLog (schema : Version) (store : Store) (rows : Rows) (calls : List Call) : Type 0 where
  pub log : List LogEntry
  pub entries : AreEntriesOf calls log
  pub comes : AllCome (start (opening_of schema)) log
  pub mirrors : Mirrors (after_log (start (opening_of schema)) log) store
  pub rows_are : (after_log (start (opening_of schema)) log).rows ≡ rows

-- one for each draft, in their order
abbrev pub AreReplayOf : List Call → List Entry → Type 0
AreReplayOf [] [] = Unit {0}
AreReplayOf [] (entry ∷ log) = ⊥
AreReplayOf (call ∷ calls) [] = ⊥
AreReplayOf (call ∷ calls) (entry ∷ log) = IsWhatOf call entry.what × AreReplayOf calls log

-- a log of `replay`
pub record HasReplay (schema : Version) (store : Store) (rows : Rows) (calls : List Call) : Type 0 where
  pub log : List Entry
  pub entries : AreReplayOf calls log
  pub follows : AllFollow (start (opening_of schema)) log
  pub mirrors : Mirrors (replay (opening_of schema) log) store
  pub rows_are : (replay (opening_of schema) log).rows ≡ rows

-- every open version has the pairs that it demands of these rows
abbrev pub Agrees : Store → Rows → Type 0
Agrees store rows = (number : ℕ) (version : Version) → map.get store.control (version_key number) ≡ Some (OfVersion version) → IsConsistent version rows store.pairs

-- a transaction with a mark is applied once at most, however often its draft is handed in
abbrev pub MarksAreOnce : Type 0
MarksAreOnce =
    (store : Store) (first second : PreparedTxn) (name : Bytes) (between : List Call)
    → ¬ (AreApplied store (Transact first (Some name) ∷ between ++ Transact second (Some name) ∷ []))

-- a draft of a transaction that was made from what is there is applied, if its mark is missing
abbrev pub FreshTxnsApply : Type 0
FreshTxnsApply =
    (store : Store) (txn : PreparedTxn) (mark : Option Bytes) (view : View) → txn.expect ≡ expects view → ((key : Bytes) (value : Option Bytes) → map.get view key ≡ Some value → map.get store.pairs key ≡ value)
    → map.get store.control (version_key txn.lease.version) ≡ Some (OfVersion txn.schema) → AllByRecursion (IsThere store.control) (mark_reads mark)
    → MayApply (txn_draft txn mark) store

abbrev pub RunsHaveLogs : Type 0
RunsHaveLogs = (schema : Version) (calls : List Call) → IsSoundVersion schema → AreDrafted calls → AreApplied (opened schema) calls → HasLog schema (after_calls (opened schema) calls) (rows_by map.empty calls) calls

-- without begins at given keys the log is one of `replay`
abbrev pub RunsReplay : Type 0
RunsReplay = (schema : Version) (calls : List Call) → IsSoundVersion schema → AreDrafted calls → AreLogged calls → AreApplied (opened schema) calls → HasReplay schema (after_calls (opened schema) calls) (rows_by map.empty calls) calls

abbrev pub RunsAgree : Type 0
RunsAgree = (schema : Version) (calls : List Call) → IsSoundVersion schema → AreDrafted calls → AreApplied (opened schema) calls → Agrees (after_calls (opened schema) calls) (rows_by map.empty calls)

-- a version is always open, and no other but the one before it
pub record HasNewest (store : Store) : Type 0 where
  pub number : ℕ
  pub version : Version
  pub opened_so : map.get store.control (version_key number) ≡ Some (OfVersion version)
  pub others : (other : ℕ) (old : Version) → map.get store.control (version_key other) ≡ Some (OfVersion old) → (other ≡ number) ⊎ (other + 1 ≡ number)

abbrev pub RunsStayOpen : Type 0
RunsStayOpen = (schema : Version) (calls : List Call) → IsSoundVersion schema → AreDrafted calls → AreApplied (opened schema) calls → HasNewest (after_calls (opened schema) calls)
