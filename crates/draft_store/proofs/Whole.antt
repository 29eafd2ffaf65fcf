-- The open versions, the log and the marks of a store with one map.
use Rattle.std.proofs.Common.{◌≡◌, ℕ, List, [], ◌∷◌, ◌++◌, Some, refl, sym, ap, subst, ◌∙◌}
use Rattle.std.specs.FinMap as map
use Rattle.drafts.specs.Calls.{Call, Transact, draft_of}
use Rattle.drafts.specs.Coded.{AreFit, ByteStore, AreAppliedIn, after_in, applied_in, opened_in}
use Rattle.drafts.specs.Laws.{rows_by}
use Rattle.drafts.specs.Store.{version_key}
use Rattle.record_code.specs.Keys.{key_code, HasKey}
use Rattle.record_code.specs.Records.{record_code, HasRecord}
use Rattle.record_code.specs.Runs.{store_after, HasLogIn}
use Rattle.record_code.proofs.Whole.{runs_stay_open_in_bytes, runs_have_logs_in_bytes, marks_are_once_in_bytes}
use Rattle.draft_store.specs.OneMap.{is_control, sides, one_after, RunsStayOpenInOneMap, RunsHaveLogsInOneMap, MarksAreOnceInOneMap}
use Rattle.draft_store.proofs.OneMap.{on_side}
use Rattle.draft_store.proofs.Runs.{runs_are_the_same}

pub runs_stay_open_in_one_map : RunsStayOpenInOneMap
runs_stay_open_in_one_map schema calls run =
    let two = runs_are_the_same schema calls run in
    let has = runs_stay_open_in_bytes schema calls two.run in
    let value : (number : ℕ) → map.get (store_after schema calls).control (key_code (version_key number)) ≡ map.get (one_after schema calls) (key_code (version_key number))
    = λ number. ap (λ (s : ByteStore). map.get s.control (key_code (version_key number))) (sym two.same) ∙ on_side is_control (one_after schema calls) (key_code (version_key number)) refl in
    record {
      number = has.number;
      known = has.known;
      bytes = has.bytes;
      opened_so = sym (value has.number) ∙ has.opened_so;
      others = λ other old is at. has.others other old is (value other ∙ at);
    }

pub runs_have_logs_in_one_map : RunsHaveLogsInOneMap
runs_have_logs_in_one_map schema calls run =
    let two = runs_are_the_same schema calls run in
    subst (λ (s : ByteStore). HasLogIn schema s (rows_by map.empty calls) calls) (sym two.same) (runs_have_logs_in_bytes schema calls two.run)

-- ---- marks

-- the later calls of a run
later_fit : (before rest : List Call) → AreFit HasKey HasRecord (before ++ rest) → AreFit HasKey HasRecord rest
later_fit [] rest fit = fit
later_fit (call ∷ before) rest fit = later_fit before rest fit.2

later_applied : (store : ByteStore) (before rest : List Call) → AreAppliedIn key_code record_code store (before ++ rest) → AreAppliedIn key_code record_code (after_in key_code record_code store before) rest
later_applied store [] rest may = may
later_applied store (call ∷ before) rest may = later_applied (applied_in key_code record_code (draft_of call) store) before rest may.1

pub marks_are_once_in_one_map : MarksAreOnceInOneMap
marks_are_once_in_one_map schema before first second name between run =
    let rest : List Call = Transact first (Some name) ∷ between ++ Transact second (Some name) ∷ [] in
    let two = runs_are_the_same schema (before ++ rest) run in
    marks_are_once_in_bytes (after_in key_code record_code (opened_in key_code record_code schema) before) first second name between (later_fit before rest two.run.fit)
    (later_applied (opened_in key_code record_code schema) before rest two.run.applied)
