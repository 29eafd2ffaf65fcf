-- Cited by the contracts of runs_agree_in_bytes, runs_have_logs_in_bytes and marks_are_once_in_bytes.
-- The theorem on drafts, of a store that has nothing but bytes.
use Rattle.std.specs.Prelude.{◌≡◌, ℕ, ◌+◌, ◌⊎◌, List, [], ◌∷◌, ◌++◌, Some, option_map}
use Rattle.std.specs.FinMap as map
use Rattle.element_state.specs.Consistent.{IsConsistent}
use Rattle.reorganise.specs.declared.work.Span.{Span}
use Rattle.replay.specs.Replay.{Facts, start, progress_of}
use Rattle.row_map.specs.Rows.{Bytes, Pairs, Rows}
use Rattle.row_write.specs.Made.{PreparedTxn}
use Rattle.schema_version.specs.Version.{Version}
use Rattle.drafts.specs.Calls.{Call, Transact, reorg_of}
use Rattle.drafts.specs.Coded.{AreFit, ByteStore, MayApplyIn, applied_in, AreAppliedIn, after_in, opened_in}
use Rattle.drafts.specs.Laws.{AreDrafted, AreEntriesOf, opening_of, rows_by}
use Rattle.drafts.specs.Log.{LogEntry, AllCome, after_log}
use Rattle.drafts.specs.Mirror.{IsClocked, open_at, piece_of}
use Rattle.drafts.specs.declared.record.Record.{Record}
use Rattle.drafts.specs.declared.record.Record.TheVariants.{Version as OfVersion, Reorg as OfReorg, Cursor as OfCursor}
use Rattle.drafts.specs.Store.{Key, version_key, reorg_key, cursor_key}
use Rattle.record_code.specs.Drafts.{open_draft}
use Rattle.record_code.specs.Keys.{key_code, HasKey, IsNumber}
use Rattle.record_code.specs.Records.{record_code, HasRecord, IsUnder}

-- a store of bytes after these drafts, each of which it applied in turn
abbrev pub store_after : Version → List Call → ByteStore
store_after schema calls = after_in key_code record_code (opened_in key_code record_code schema) calls

-- nothing at all
abbrev pub no_store : ByteStore
no_store = record { control = map.empty; pairs = map.empty }

-- the draft that opens a store is applied where there is nothing, and then there is version 1 alone
abbrev pub OpensStores : Type 0
OpensStores =
    (schema : Version) → MayApplyIn key_code record_code (open_draft schema) no_store × (applied_in key_code record_code (open_draft schema) no_store ≡ opened_in key_code record_code schema)

-- drafts that are made by their calls, whose records have codes, and that a store of bytes applied in turn once it had version 1
pub record IsRun (schema : Version) (calls : List Call) : Type 0 where
  pub first : HasRecord (OfVersion schema)
  pub made : AreDrafted calls
  pub fit : AreFit HasKey HasRecord calls
  pub applied : AreAppliedIn key_code record_code (opened_in key_code record_code schema) calls

-- the value under a version's key is the code of a version with all the pairs that it demands of the rows
pub record IsOpenIn (bytes : Bytes) (rows : Rows) (store : ByteStore) : Type 0 where
  pub version : Version
  pub spelled : bytes ≡ record_code (OfVersion version)
  pub known : HasRecord (OfVersion version)
  pub agrees : IsConsistent version rows store.pairs

abbrev pub RunsAgreeInBytes : Type 0
RunsAgreeInBytes =
    (schema : Version) (calls : List Call) (number : ℕ) (bytes : Bytes) → IsRun schema calls → IsNumber number
    → map.get (store_after schema calls).control (key_code (version_key number)) ≡ Some bytes → IsOpenIn bytes (rows_by map.empty calls) (store_after schema calls)

-- the value under a control record's key is the code of a record of the key's kind
pub record IsRecordIn (key : Key) (bytes : Bytes) : Type 0 where
  pub found : Record
  pub under : IsUnder key found
  pub spelled : bytes ≡ record_code found
  pub known : HasRecord found

abbrev pub RecordsAreRead : Type 0
RecordsAreRead =
    (schema : Version) (calls : List Call) (key : Key) (bytes : Bytes) → IsRun schema calls → HasKey key
    → map.get (store_after schema calls).control (key_code key) ≡ Some bytes → IsRecordIn key bytes

-- ---- which versions are open

-- under one version's key is a value, and under no other's but that of the one before it
pub record HasNewestIn (control : Pairs) : Type 0 where
  pub number : ℕ
  pub known : IsNumber number
  pub bytes : Bytes
  pub opened_so : map.get control (key_code (version_key number)) ≡ Some bytes
  pub others : (other : ℕ) (old : Bytes) → IsNumber other → map.get control (key_code (version_key other)) ≡ Some old → (other ≡ number) ⊎ (other + 1 ≡ number)

abbrev pub RunsStayOpenInBytes : Type 0
RunsStayOpenInBytes = (schema : Version) (calls : List Call) → IsRun schema calls → HasNewestIn (store_after schema calls).control

-- ---- the log

-- the values are the codes of what the log says, and the pairs are the log's
pub record MirrorsIn (facts : Facts) (store : ByteStore) : Type 0 where
  pub clock : IsClocked facts.line facts.moment
  pub versions : (number : ℕ) → IsNumber number → map.get store.control (key_code (version_key number)) ≡ option_map (λ v. record_code (OfVersion v)) (open_at facts number)
  pub reorgs : (element : ℕ) → IsNumber element → map.get store.control (key_code (reorg_key element)) ≡ option_map (λ p. record_code (OfReorg (reorg_of p))) (progress_of facts.progress element)
  pub cursors : (element piece : ℕ) → IsNumber element → IsNumber piece
      → map.get store.control (key_code (cursor_key element piece)) ≡ option_map (λ (s : Span). record_code (OfCursor s.cursor)) (piece_of (progress_of facts.progress element) piece)
  pub pairs : store.pairs ≡ facts.pairs

-- a log that the theorem on logs speaks of, with an entry for each draft
pub record HasLogIn (schema : Version) (store : ByteStore) (rows : Rows) (calls : List Call) : Type 0 where
  pub log : List LogEntry
  pub entries : AreEntriesOf calls log
  pub comes : AllCome (start (opening_of schema)) log
  pub mirrors : MirrorsIn (after_log (start (opening_of schema)) log) store
  pub rows_are : (after_log (start (opening_of schema)) log).rows ≡ rows

abbrev pub RunsHaveLogsInBytes : Type 0
RunsHaveLogsInBytes = (schema : Version) (calls : List Call) → IsRun schema calls → HasLogIn schema (store_after schema calls) (rows_by map.empty calls) calls

-- ---- marks

-- a transaction with a mark is applied once at most, whatever the store has and whoever makes the drafts between
abbrev pub MarksAreOnceInBytes : Type 0
MarksAreOnceInBytes =
    (store : ByteStore) (first second : PreparedTxn) (name : Bytes) (between : List Call)
    → AreFit HasKey HasRecord (Transact first (Some name) ∷ between ++ Transact second (Some name) ∷ [])
    → ¬ (AreAppliedIn key_code record_code store (Transact first (Some name) ∷ between ++ Transact second (Some name) ∷ []))
