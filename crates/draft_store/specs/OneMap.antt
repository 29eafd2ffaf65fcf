-- Cited by the contracts of one_map, runs_agree_in_one_map, runs_have_logs_in_one_map and marks_are_once_in_one_map.
-- The theorem on drafts, of a store that has control records and pairs in one map.
use Rattle.std.specs.Prelude.{◌≡◌, ℕ, List, [], ◌∷◌, ◌++◌, Bool, true, not, Option, Some, None, IsTrue, nat_lt, ◌↔◌}
use Rattle.std.specs.List.{AllByRecursion}
use Rattle.std.specs.FinMap as map
use Rattle.keycode.specs.Order.{bytes_cmp}
use Rattle.row_map.specs.Rows.{Bytes, Pairs}
use Rattle.row_map.specs.declared.expect.KeyRange.{KeyRange}
use Rattle.row_write.specs.Made.{PreparedTxn}
use Rattle.schema_version.specs.Version.{Version}
use Rattle.drafts.specs.Calls.{Call, Transact, draft_of}
use Rattle.drafts.specs.Coded.{AreFit, ByteStore, MayApplyIn, applied_in}
use Rattle.drafts.specs.Laws.{AreDrafted, rows_by}
use Rattle.drafts.specs.declared.record.Record.{Record}
use Rattle.drafts.specs.declared.record.Record.TheVariants.{Version as OfVersion}
use Rattle.drafts.specs.Store.{Key, version_key, Draft}
use Rattle.record_code.specs.Drafts.{parts_of, open_draft}
use Rattle.record_code.specs.Keys.{key_code, HasKey, IsNumber}
use Rattle.record_code.specs.Records.{record_code, HasRecord}
use Rattle.record_code.specs.Runs.{store_after, IsRun, IsOpenIn, HasNewestIn, HasLogIn}
use Rattle.draft_store.specs.Apply.{Allows, after}

-- ---- two maps in one

-- keys of control records begin with 0 to 3, those of pairs with a letter
abbrev pub is_control : Bytes → Bool
is_control [] = true
is_control (kind ∷ rest) = nat_lt kind 4

abbrev pub is_pair : Bytes → Bool
is_pair key = not (is_control key)

-- the control records of one map, and its pairs
abbrev pub sides : Pairs → ByteStore
sides one = record { control = map.retain_keys one is_control; pairs = map.retain_keys one is_pair }

-- ---- one draft

abbrev pub HasControl : Key × Option Record → Type 0
HasControl entry = IsTrue (is_control (key_code entry.0))

-- all keys of a map are those of pairs
abbrev pub ArePairs : {X : Type 0} → map.FinMap bytes_cmp X → Type 0
ArePairs {X} keyed = (key : Bytes) (value : X) → map.get keyed key ≡ Some value → IsTrue (is_pair key)

abbrev pub IsPairRange : Option KeyRange → Type 0
IsPairRange None = Unit {0}
IsPairRange (Some part) = IsTrue (is_pair part.low)

-- its control records have keys of such, and its pairs have keys of pairs
pub record IsSided (draft : Draft) : Type 0 where
  pub reads : AllByRecursion HasControl draft.reads
  pub writes : AllByRecursion HasControl draft.writes
  pub points : ArePairs draft.expect.points
  pub range : IsPairRange draft.expect.key_range
  pub batch : ArePairs draft.batch

-- one map allows a draft if and only if its two sides do, and writes to them the same
pub record IsSameIn (draft : Draft) (one : Pairs) : Type 0 where
  pub allowed : Allows (parts_of draft) one ↔ MayApplyIn key_code record_code draft (sides one)
  pub written_so : sides (after (parts_of draft) one) ≡ applied_in key_code record_code draft (sides one)

abbrev pub OneMap : Type 0
OneMap = (draft : Draft) (one : Pairs) → IsSided draft → IsSameIn draft one

-- ---- a run

-- one map applies the drafts in turn
abbrev pub AreAllowed : Pairs → List Call → Type 0
AreAllowed one [] = Unit {0}
AreAllowed one (call ∷ calls) = Allows (parts_of (draft_of call)) one × AreAllowed (after (parts_of (draft_of call)) one) calls

abbrev pub after_all : Pairs → List Call → Pairs
after_all one [] = one
after_all one (call ∷ calls) = after_all (after (parts_of (draft_of call)) one) calls

-- an empty store to which the draft was applied that opens a store with this version
abbrev pub opened_one : Version → Pairs
opened_one schema = after (parts_of (open_draft schema)) map.empty

abbrev pub one_after : Version → List Call → Pairs
one_after schema calls = after_all (opened_one schema) calls

-- drafts that are made by their calls, whose records have codes, and that one map applied in turn once it was opened
pub record IsRunInOne (schema : Version) (calls : List Call) : Type 0 where
  pub first : HasRecord (OfVersion schema)
  pub made : AreDrafted calls
  pub fit : AreFit HasKey HasRecord calls
  pub allowed : AreAllowed (opened_one schema) calls

-- two maps apply them too, and the two are the sides of the one
pub record IsRunInTwo (schema : Version) (calls : List Call) : Type 0 where
  pub run : IsRun schema calls
  pub same : sides (one_after schema calls) ≡ store_after schema calls

abbrev pub RunsAreTheSame : Type 0
RunsAreTheSame = (schema : Version) (calls : List Call) → IsRunInOne schema calls → IsRunInTwo schema calls

-- the value under a version's key is the code of a version with all the pairs that it demands of the rows
abbrev pub RunsAgreeInOneMap : Type 0
RunsAgreeInOneMap =
    (schema : Version) (calls : List Call) (number : ℕ) (bytes : Bytes) → IsRunInOne schema calls → IsNumber number
    → map.get (one_after schema calls) (key_code (version_key number)) ≡ Some bytes → IsOpenIn bytes (rows_by map.empty calls) (sides (one_after schema calls))

-- one or two versions are open
abbrev pub RunsStayOpenInOneMap : Type 0
RunsStayOpenInOneMap = (schema : Version) (calls : List Call) → IsRunInOne schema calls → HasNewestIn (one_after schema calls)

-- it mirrors a log with an entry for each draft
abbrev pub RunsHaveLogsInOneMap : Type 0
RunsHaveLogsInOneMap = (schema : Version) (calls : List Call) → IsRunInOne schema calls → HasLogIn schema (sides (one_after schema calls)) (rows_by map.empty calls) calls

-- no run applies two transactions with one mark
abbrev pub MarksAreOnceInOneMap : Type 0
MarksAreOnceInOneMap =
    (schema : Version) (before : List Call) (first second : PreparedTxn) (name : Bytes) (between : List Call)
    → ¬ (IsRunInOne schema (before ++ (Transact first (Some name) ∷ between ++ Transact second (Some name) ∷ [])))
