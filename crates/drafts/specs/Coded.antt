-- Cited by the contracts of record_code::runs_agree_in_bytes.
-- The same of a store that has bytes alone: control records as values under keys.
use Rattle.std.specs.Prelude.{◌≡◌, ℕ, List, [], ◌∷◌, Option, Some, option_map}
use Rattle.std.specs.List.{AllByRecursion}
use mathlib.Core.List.{map as each}
use Rattle.std.specs.FinMap as map
use Rattle.element_state.specs.Consistent.{IsConsistent}
use Rattle.row_map.specs.Expect.{Holds}
use Rattle.row_map.specs.Rows.{Bytes, Pairs}
use Rattle.row_map.specs.Writes.{written_all, laid}
use Rattle.schema_version.specs.Sound.{IsSoundVersion}
use Rattle.schema_version.specs.Version.{Version}
use Rattle.drafts.specs.Store.{Record, OfVersion, Key, version_key, Draft}
use Rattle.drafts.specs.Calls.{Call, draft_of}
use Rattle.drafts.specs.Laws.{AreDrafted, rows_by}

-- two keys, and two values, of those that drafts have, have two codes
pub record IsCoding (key : Key → Bytes) (value : Record → Bytes) (HasKey : Key → Type 0) (HasValue : Record → Type 0) : Type 0 where
  pub keys : (k l : Key) → HasKey k → HasKey l → key k ≡ key l → k ≡ l
  pub values : (r s : Record) → HasValue r → HasValue s → value r ≡ value s → r ≡ s

-- an entry that has a code
pub record IsFit (HasKey : Key → Type 0) (HasValue : Record → Type 0) (entry : Key × Option Record) : Type 0 where
  pub key : HasKey entry.0
  pub value : (r : Record) → entry.1 ≡ Some r → HasValue r

abbrev pub AreFit : (Key → Type 0) → (Record → Type 0) → List Call → Type 0
AreFit HasKey HasValue [] = Unit {0}
AreFit HasKey HasValue (call ∷ calls) =
    AllByRecursion (IsFit HasKey HasValue) (draft_of call).reads × AllByRecursion (IsFit HasKey HasValue) (draft_of call).writes × AreFit HasKey HasValue calls

-- control pairs and those of rows and indexes: two tables, or two prefixes of one store
pub record ByteStore : Type 0 where
  pub control : Pairs
  pub pairs : Pairs

abbrev pub coded : (Key → Bytes) → (Record → Bytes) → Key × Option Record → Bytes × Option Bytes
coded key value entry = (key entry.0, option_map value entry.1)

-- the pair is there, or is missing, as it was read
abbrev pub IsThereIn : (Key → Bytes) → (Record → Bytes) → Pairs → Key × Option Record → Type 0
IsThereIn key value control entry = map.get control (key entry.0) ≡ option_map value entry.1

-- a store of bytes applies the draft
pub record MayApplyIn (key : Key → Bytes) (value : Record → Bytes) (draft : Draft) (store : ByteStore) : Type 0 where
  pub control : AllByRecursion (IsThereIn key value store.control) draft.reads
  pub pairs : Holds draft.expect store.pairs

abbrev pub applied_in : (Key → Bytes) → (Record → Bytes) → Draft → ByteStore → ByteStore
applied_in key value draft store = record { control = written_all store.control (each (coded key value) draft.writes); pairs = laid draft.batch store.pairs }

abbrev pub AreAppliedIn : (Key → Bytes) → (Record → Bytes) → ByteStore → List Call → Type 0
AreAppliedIn key value store [] = Unit {0}
AreAppliedIn key value store (call ∷ calls) = MayApplyIn key value (draft_of call) store × AreAppliedIn key value (applied_in key value (draft_of call) store) calls

abbrev pub after_in : (Key → Bytes) → (Record → Bytes) → ByteStore → List Call → ByteStore
after_in key value store [] = store
after_in key value store (call ∷ calls) = after_in key value (applied_in key value (draft_of call) store) calls

abbrev pub opened_in : (Key → Bytes) → (Record → Bytes) → Version → ByteStore
opened_in key value schema = record { control = map.insert map.empty (key (version_key 1)) (value (OfVersion schema)); pairs = map.empty }

-- the theorem on drafts, of a store that compares and writes bytes
abbrev pub RunsAgreeIn : Type 1
RunsAgreeIn =
    (key : Key → Bytes) (value : Record → Bytes) (HasKey : Key → Type 0) (HasValue : Record → Type 0) (schema : Version) (calls : List Call)
    → IsCoding key value HasKey HasValue → HasKey (version_key 1) → HasValue (OfVersion schema) → AreFit HasKey HasValue calls
    → IsSoundVersion schema → AreDrafted calls → AreAppliedIn key value (opened_in key value schema) calls
    → (number : ℕ) (version : Version) → HasKey (version_key number) → HasValue (OfVersion version)
    → map.get (after_in key value (opened_in key value schema) calls).control (key (version_key number)) ≡ Some (value (OfVersion version))
    → IsConsistent version (rows_by map.empty calls) (after_in key value (opened_in key value schema) calls).pairs
