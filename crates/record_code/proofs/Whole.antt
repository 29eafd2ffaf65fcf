-- The open versions, the log and the marks of a store of bytes.
use Rattle.std.proofs.Common.{◌≡◌, ℕ, List, [], ◌∷◌, ◌++◌, Option, Some, None, option_map, refl, sym, ap, subst, ◌∙◌, inl, inr, lit<}
use Rattle.std.specs.List.{AllByRecursion}
use mathlib.Core.List.{map as each}
use Rattle.std.specs.FinMap as map
use Rattle.byte_map.proofs.Written.{written_here, written_apart, same_or_apart}
use Rattle.keycode.specs.Order.{bytes_cmp}
use Rattle.keycode.proofs.Orders.{bytes_cmp_total, bytes_cmp-IsAntisymmetric}
use Rattle.reorganise.specs.declared.work.Span.{Span}
use Rattle.replay.specs.Replay.{progress_of, start}
use Rattle.row_map.specs.Rows.{Bytes, Pairs}
use Rattle.row_map.specs.Writes.{written, written_all}
use Rattle.row_write.specs.Made.{PreparedTxn}
use Rattle.schema_version.specs.Version.{Version}
use Rattle.drafts.specs.declared.record.Record.{Record}
use Rattle.drafts.specs.declared.record.Record.TheVariants.{Version as OfVersion, Reorg as OfReorg, Cursor as OfCursor, Mark as OfMark}
use Rattle.drafts.specs.Store.{Key, Control, version_key, reorg_key, cursor_key, mark_key, Store, opened, applied}
use Rattle.drafts.specs.Calls.{Call, Transact, draft_of, reorg_of}
use Rattle.drafts.specs.Coded.{IsFit, AreFit, ByteStore, coded, applied_in, AreAppliedIn}
use Rattle.drafts.specs.Laws.{after_calls, opening_of}
use Rattle.drafts.specs.Log.{after_log}
use Rattle.drafts.specs.Mirror.{open_at, piece_of}
use Rattle.drafts.proofs.Marks.{KeepsMark, call_keeps}
use Rattle.drafts.proofs.Opens.{none_some}
use Rattle.drafts.proofs.Records.{apart}
use Rattle.drafts.proofs.Runs.{runs_stay_open, runs_have_logs}
use Rattle.record_code.specs.Keys.{key_code, HasKey, IsNumber}
use Rattle.record_code.specs.Records.{record_code, HasRecord, IsUnder}
use Rattle.record_code.specs.Runs.{store_after, RunsStayOpenInBytes, RunsHaveLogsInBytes, MarksAreOnceInBytes}
use Rattle.record_code.proofs.KeyCodes.{keys_tell}
use Rattle.record_code.proofs.Runs.{goes, find}

-- ---- the log

of_record : {X : Type 0} (made : X → Record) (o : Option X) → option_map record_code (option_map made o) ≡ option_map (λ x. record_code (made x)) o
of_record made None = refl
of_record made (Some x) = refl

pub runs_have_logs_in_bytes : RunsHaveLogsInBytes
runs_have_logs_in_bytes schema calls run =
    let go = goes schema calls run in
    let has = runs_have_logs schema calls run.first.0 run.made go.applied_so in
    let facts = after_log (start (opening_of schema)) has.log in
    record {
      log = has.log;
      entries = has.entries;
      comes = has.comes;
      mirrors = record {
        clock = has.mirrors.clock;
        versions = λ n is. go.same.there (version_key n) (is, tt) ∙ ap (option_map record_code) (has.mirrors.versions n) ∙ of_record OfVersion (open_at facts n);
        reorgs = λ e is. go.same.there (reorg_key e) (is, tt) ∙ ap (option_map record_code) (has.mirrors.reorgs e) ∙ of_record (λ p. OfReorg (reorg_of p)) (progress_of facts.progress e);
        cursors = λ e j is at.
            go.same.there (cursor_key e j) (is, (at, tt)) ∙ ap (option_map record_code) (has.mirrors.cursors e j) ∙ of_record (λ (s : Span). OfCursor s.cursor) (piece_of (progress_of facts.progress e) j);
        pairs = go.pairs ∙ has.mirrors.pairs;
      };
      rows_are = has.rows_are;
    }

-- ---- the open versions

abbrev AllHave : Control → Type 0
AllHave control = (k : Key) (r : Record) → map.get control k ≡ Some r → HasKey k

one_has : (control : Control) (w : Key × Option Record) → AllHave control → HasKey w.0 → AllHave (written control w.0 w.1)
one_has control w have key k r at = elim (same_or_apart bytes_cmp_total bytes_cmp-IsAntisymmetric k w.0) [
  | inl s ↦ subst HasKey (sym s) key
  | inr ne ↦ have k r (sym (apart control w.0 k w.1 ne) ∙ at)
]

all_have : (control : Control) (ws : List (Key × Option Record)) → AllHave control → AllByRecursion (IsFit HasKey HasRecord) ws → AllHave (written_all control ws)
all_have control [] have fit = have
all_have control (w ∷ ws) have fit = all_have (written control w.0 w.1) ws (one_has control w have fit.0.key) fit.1

calls_have : (store : Store) (calls : List Call) → AllHave store.control → AreFit HasKey HasRecord calls → AllHave (after_calls store calls).control
calls_have store [] have fit = have
calls_have store (call ∷ calls) have fit = calls_have (applied (draft_of call) store) calls (all_have store.control (draft_of call).writes have fit.1) fit.2

first_has : (schema : Version) → HasKey (version_key 1) → AllHave (opened schema).control
first_has schema key = one_has map.empty (version_key 1, Some (OfVersion schema)) (λ k r at. none_some (sym (map.get-empty bytes_cmp k) ∙ at)) key

-- a record under a version's key is a version
of_version : (number : ℕ) (r : Record) → IsUnder (version_key number) r → (v : Version) × (r ≡ OfVersion v)
of_version number (OfVersion v) under = (v, refl)
of_version number (OfReorg reorg) under = absurd cc
of_version number (OfCursor cursor) under = absurd cc
of_version number OfMark under = absurd cc

pub runs_stay_open_in_bytes : RunsStayOpenInBytes
runs_stay_open_in_bytes schema calls run =
    let go = goes schema calls run in
    let has = runs_stay_open schema calls run.first.0 run.made go.applied_so in
    let one : IsNumber 1 = lit< tt in
    let known = calls_have (opened schema) calls (first_has schema (one, tt)) run.fit (version_key has.number) (OfVersion has.version) has.opened_so in
    record {
      number = has.number;
      known = known.0;
      bytes = record_code (OfVersion has.version);
      opened_so = go.same.there (version_key has.number) known ∙ ap (option_map record_code) has.opened_so;
      others = λ other old is at.
          let f = find (version_key other) old (store_after schema calls).control (after_calls (opened schema) calls).control go.same (is, tt) at in
          let v = of_version other f.found f.fits.under in
          has.others other v.0 (f.there ∙ ap Some v.1);
    }

-- ---- marks

abbrev mark_code : Bytes → Bytes
mark_code name = key_code (mark_key name)

abbrev HasMark : Bytes → Pairs → Type 0
HasMark name control = map.get control (mark_code name) ≡ Some (record_code OfMark)

one_kept : (name : Bytes) (c : Pairs) (w : Key × Option Record) → KeepsMark name w → HasKey w.0 → HasMark name c → HasMark name (written c (key_code w.0) (option_map record_code w.1))
one_kept name c w (inl ne) key at =
    written_apart bytes_cmp_total bytes_cmp-IsAntisymmetric c (key_code w.0) (option_map record_code w.1) (mark_code name) (λ s. ne (keys_tell w.0 (mark_key name) key tt (sym s))) ∙ at
one_kept name c w (inr put) key at = elim (same_or_apart bytes_cmp_total bytes_cmp-IsAntisymmetric (mark_code name) (key_code w.0)) [
  | inl s ↦
      subst (λ (k : Bytes). map.get (written c (key_code w.0) (option_map record_code w.1)) k ≡ Some (record_code OfMark)) (sym s)
      (written_here bytes_cmp_total bytes_cmp-IsAntisymmetric c (key_code w.0) (option_map record_code w.1) ∙ ap (option_map record_code) put)
  | inr ne ↦ written_apart bytes_cmp_total bytes_cmp-IsAntisymmetric c (key_code w.0) (option_map record_code w.1) (mark_code name) ne ∙ at
]

all_kept : (name : Bytes) (c : Pairs) (ws : List (Key × Option Record)) → AllByRecursion (KeepsMark name) ws → AllByRecursion (IsFit HasKey HasRecord) ws → HasMark name c → HasMark name (written_all c (each (coded key_code record_code) ws))
all_kept name c [] keeps fit at = at
all_kept name c (w ∷ ws) keeps fit at = all_kept name (written c (key_code w.0) (option_map record_code w.1)) ws keeps.1 fit.1 (one_kept name c w keeps.0 fit.0.key at)

there_refuses : (store : ByteStore) (second : PreparedTxn) (name : Bytes) (between : List Call) → AreFit HasKey HasRecord (between ++ Transact second (Some name) ∷ []) → HasMark name store.control
    → ¬ (AreAppliedIn key_code record_code store (between ++ Transact second (Some name) ∷ []))
there_refuses store second name [] fit at may = none_some (sym may.0.control.1.0 ∙ at)
there_refuses store second name (call ∷ between) fit at may =
    there_refuses (applied_in key_code record_code (draft_of call) store) second name between fit.2 (all_kept name store.control (draft_of call).writes (call_keeps name call) fit.1 at) may.1

pub marks_are_once_in_bytes : MarksAreOnceInBytes
marks_are_once_in_bytes store first second name between fit may =
    there_refuses (applied_in key_code record_code (draft_of (Transact first (Some name))) store) second name between fit.2
    (written_here bytes_cmp_total bytes_cmp-IsAntisymmetric store.control (mark_code name) (Some (record_code OfMark))) may.1
