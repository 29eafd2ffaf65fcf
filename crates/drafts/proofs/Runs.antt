-- Any list of drafts that a store applied has a log, so its open versions agree with the rows.
use Rattle.std.proofs.Common.{◌≡◌, ℕ, List, [], ◌∷◌, Some, None, option_map, refl, sym, ap, subst, ◌∙◌, inl, inr, arith}
use Rattle.std.specs.Prelude.{◌≢◌}
use Rattle.std.specs.FinMap as map
use Rattle.keycode.specs.Order.{bytes_cmp}
use Rattle.element_state.proofs.Whole.{number_one}
use Rattle.element_state.specs.Consistent.{IsConsistent}
use Rattle.row_map.specs.Rows.{Rows, Pairs}
use Rattle.lease.specs.Timeline.{IsLength, newest as newest_number}
use Rattle.schema_version.specs.Sound.{IsSoundVersion}
use Rattle.schema_version.specs.Version.{Version}
use Rattle.replay.specs.declared.entry.Entry.{Entry}
use Rattle.replay.specs.Headline.{AllFollow}
use Rattle.replay.specs.Kept.{IsKept}
use Rattle.replay.specs.Replay.{Facts, start, after, after_all}
use Rattle.replay.proofs.Agree.{agrees}
use Rattle.replay.proofs.Follows.{call_kept}
use Rattle.replay.proofs.Time.{opened_kept}
use Rattle.drafts.specs.Store.{Store, OfVersion, version_key, applied, opened}
use Rattle.drafts.specs.Calls.{Call, Transact, Close, Begin, Divide, Piece, Publish, draft_of}
use Rattle.drafts.specs.Mirror.{Mirrors, open_at}
use Rattle.drafts.specs.Laws.{AreDrafted, AreApplied, after_calls, rows_by, HasEntry, DraftsKeep, AreLogged, AreEntriesOf, AreReplayOf, HasNext, AllKeep, opening_of, Agrees, RunsHaveLogs, RunsReplay, RunsAgree, HasNewest, RunsStayOpen}
use Rattle.drafts.specs.Log.{LogEntry, Logged, BegunAt, after_one, after_log, MayComeNext, AllCome, LogsAgree}
use Rattle.drafts.proofs.Begins.{begin_kept}
use Rattle.drafts.proofs.Closes.{close_kept}
use Rattle.drafts.proofs.Divides.{divide_kept}
use Rattle.drafts.proofs.Given.{given_begins_keep}
use Rattle.drafts.proofs.Opens.{opens, read_of, usable, newest_open, open_none}
use Rattle.drafts.proofs.Pieces.{piece_kept}
use Rattle.drafts.proofs.Publications.{publish_kept}
use Rattle.drafts.proofs.Records.{put_here, put_apart, other_kind, other_number, one_zero, two_zero}
use Rattle.drafts.proofs.Txns.{txn_kept}

pub drafts_keep : DraftsKeep
drafts_keep facts store (Transact txn mark) k m made logged may = txn_kept facts store txn mark k m made may
drafts_keep facts store (Close newest) k m made logged may = close_kept facts store newest k m may
drafts_keep facts store (Begin b) k m made logged may = begin_kept facts store b k m made may
drafts_keep facts store (Divide d) k m made logged may = absurd logged
drafts_keep facts store (Piece w) k m made logged may = piece_kept facts store w k m made may
drafts_keep facts store (Publish p) k m made logged may = publish_kept facts store p k m made may

by_entry : (facts : Facts) (store : Store) (call : Call) → IsKept facts → HasEntry facts store call → HasNext facts store call
by_entry facts store call k e = record { one = Logged e.entry; entry_of = e.entry_of; comes = (e.later, e.may); kept = call_kept facts e.entry.moment e.entry.what e.later e.may k; mirrors = e.mirrors; rows = e.rows }

pub all_keep : AllKeep
all_keep facts store (Transact txn mark) k m made may = by_entry facts store (Transact txn mark) k (txn_kept facts store txn mark k m made may)
all_keep facts store (Close newest) k m made may = by_entry facts store (Close newest) k (close_kept facts store newest k m may)
all_keep facts store (Begin b) k m made may = by_entry facts store (Begin b) k (begin_kept facts store b k m made may)
all_keep facts store (Divide d) k m made may = divide_kept facts store d k m made may
all_keep facts store (Piece w) k m made may = by_entry facts store (Piece w) k (piece_kept facts store w k m made may)
all_keep facts store (Publish p) k m made may = by_entry facts store (Publish p) k (publish_kept facts store p k m made may)

-- what a list of drafts comes to
pub record Ends (facts : Facts) (store : Store) (rows : Rows) (calls : List Call) : Type 0 where
  pub log : List LogEntry
  pub entries : AreEntriesOf calls log
  pub comes : AllCome facts log
  pub kept : IsKept (after_log facts log)
  pub mirrors : Mirrors (after_log facts log) store
  pub rows_are : (after_log facts log).rows ≡ rows

pub all_end : (facts : Facts) (store : Store) (calls : List Call) → IsKept facts → Mirrors facts store → AreDrafted calls → AreApplied store calls → Ends facts (after_calls store calls) (rows_by facts.rows calls) calls
all_end facts store [] k m made may = record { log = []; entries = tt; comes = tt; kept = k; mirrors = m; rows_are = refl }
all_end facts store (call ∷ calls) k m made may =
    let e = all_keep facts store call k m made.0 may.0 in
    let rest = all_end (after_one facts e.one) (applied (draft_of call) store) calls e.kept e.mirrors made.1 may.1 in
    record {
      log = e.one ∷ rest.log;
      entries = (e.entry_of, rest.entries);
      comes = (e.comes, rest.comes);
      kept = rest.kept;
      mirrors = rest.mirrors;
      rows_are = rest.rows_are ∙ ap (λ (rows : Rows). rows_by rows calls) e.rows;
    }

-- ---- all drafts

record Goes (facts : Facts) (store : Store) (rows : Rows) (calls : List Call) : Type 0 where
  pub log : List Entry
  pub entries : AreReplayOf calls log
  pub follows : AllFollow facts log
  pub kept : IsKept (after_all facts log)
  pub mirrors : Mirrors (after_all facts log) store
  pub rows_are : (after_all facts log).rows ≡ rows

all_go : (facts : Facts) (store : Store) (calls : List Call) → IsKept facts → Mirrors facts store → AreDrafted calls → AreLogged calls → AreApplied store calls → Goes facts (after_calls store calls) (rows_by facts.rows calls) calls
all_go facts store [] k m made logged may = record { log = []; entries = tt; follows = tt; kept = k; mirrors = m; rows_are = refl }
all_go facts store (call ∷ calls) k m made logged may =
    let e = drafts_keep facts store call k m made.0 logged.0 may.0 in
    let rest = all_go (after facts e.entry) (applied (draft_of call) store) calls (call_kept facts e.entry.moment e.entry.what e.later e.may k) e.mirrors made.1 logged.1 may.1 in
    record {
      log = e.entry ∷ rest.log;
      entries = (e.entry_of, rest.entries);
      follows = (e.later, e.may, rest.follows);
      kept = rest.kept;
      mirrors = rest.mirrors;
      rows_are = rest.rows_are ∙ ap (λ (rows : Rows). rows_by rows calls) e.rows;
    }

one_moment : IsLength 1
one_moment = (omega arith, omega arith)

module _ (schema : Version) (sound : IsSoundVersion schema) where
  pub opened_so : IsKept (start (opening_of schema))
  opened_so = opened_kept (opening_of schema) one_moment sound

  empty_apart : (kind : ℕ) (rest : List ℕ) → kind ≢ 0 → map.get (opened schema).control (kind ∷ rest) ≡ None
  empty_apart kind rest ne = put_apart map.empty (version_key 1) (kind ∷ rest) (OfVersion schema) (other_kind kind 0 _ _ ne) ∙ map.get-empty bytes_cmp (kind ∷ rest)

  first_version : (n : ℕ) → map.get (opened schema).control (version_key n) ≡ option_map OfVersion (open_at (start (opening_of schema)) n)
  first_version n = elim (number_one n 1) [
    | inl e ↦ subst (λ (x : ℕ). map.get (opened schema).control (version_key x) ≡ option_map OfVersion (open_at (start (opening_of schema)) x)) (sym e)
        (put_here map.empty (version_key 1) (OfVersion schema) ∙ sym (ap (option_map OfVersion) (newest_open (start (opening_of schema)) 1 opened_so refl)))
    | inr ne ↦
        put_apart map.empty (version_key 1) (version_key n) (OfVersion schema) (other_number 0 n 1 ne) ∙ map.get-empty bytes_cmp (version_key n)
        ∙ sym (ap (option_map OfVersion) (none n ne))
  ]
    where
      none : (v : ℕ) → v ≢ 1 → open_at (start (opening_of schema)) v ≡ None
      none v ne = elim (number_one v 0) [
        | inl e ↦ subst (λ (x : ℕ). open_at (start (opening_of schema)) x ≡ None) (sym e) refl
        | inr nz ↦ open_none (start (opening_of schema)) v ne (λ e. nz (omega (arith, e)))
      ]

  pub first_mirror : Mirrors (start (opening_of schema)) (opened schema)
  first_mirror = record {
    clock = record { length = refl; counted = refl; within = omega arith };
    versions = first_version;
    reorgs = λ e. empty_apart 1 (e ∷ []) one_zero;
    cursors = λ e j. empty_apart 2 (e ∷ j ∷ []) two_zero;
    pairs = refl;
  }

pub runs_replay : RunsReplay
runs_replay schema calls sound made logged may =
    let all = all_go (start (opening_of schema)) (opened schema) calls (opened_so schema sound) (first_mirror schema sound) made logged may in
    record { log = all.log; entries = all.entries; follows = all.follows; mirrors = all.mirrors; rows_are = all.rows_are }

pub runs_have_logs : RunsHaveLogs
runs_have_logs schema calls sound made may =
    let all = all_end (start (opening_of schema)) (opened schema) calls (opened_so schema sound) (first_mirror schema sound) made may in
    record { log = all.log; entries = all.entries; comes = all.comes; mirrors = all.mirrors; rows_are = all.rows_are }

one_kept : (facts : Facts) (one : LogEntry) → IsKept facts → MayComeNext facts one → IsKept (after_one facts one)
one_kept facts (Logged entry) k may = call_kept facts entry.moment entry.what may.0 may.1 k
one_kept facts (BegunAt now begun) k may = given_begins_keep facts now begun may.0 may.1 k

log_kept : (facts : Facts) (log : List LogEntry) → IsKept facts → AllCome facts log → IsKept (after_log facts log)
log_kept facts [] k all = k
log_kept facts (one ∷ log) k all = log_kept (after_one facts one) log (one_kept facts one k all.0) all.1

pub logs_agree : LogsAgree
logs_agree opening log length sound all = agrees (after_log (start opening) log) (log_kept (start opening) log (opened_kept opening length sound) all)

agrees_at : (facts : Facts) (store : Store) (rows : Rows) → IsKept facts → Mirrors facts store → facts.rows ≡ rows → Agrees store rows
agrees_at facts store rows k m is number version there =
    let open_so : open_at facts number ≡ Some version = read_of (open_at facts number) version (sym (m.versions number) ∙ there) in
    let used = usable facts number version k open_so in
    subst (λ (r : Rows). IsConsistent version r store.pairs) is
    (subst (λ (pairs : Pairs). IsConsistent version facts.rows pairs) (sym m.pairs) (agrees facts k number version used.0 used.1))

pub runs_agree : RunsAgree
runs_agree schema calls sound made may =
    let all = all_end (start (opening_of schema)) (opened schema) calls (opened_so schema sound) (first_mirror schema sound) made may in
    agrees_at (after_log (start (opening_of schema)) all.log) (after_calls (opened schema) calls) (rows_by map.empty calls) all.kept all.mirrors all.rows_are

newest_of : (facts : Facts) (store : Store) → IsKept facts → Mirrors facts store → HasNewest store
newest_of facts store k m = record {
  number = newest_number facts.line;
  version = facts.newest;
  opened_so = m.versions (newest_number facts.line) ∙ ap (option_map OfVersion) (newest_open facts (newest_number facts.line) k refl);
  others = λ other old there.
      let open_so : open_at facts other ≡ Some old = read_of (open_at facts other) old (sym (m.versions other) ∙ there) in
      elim (opens facts other old open_so).0 [
        | inl is ↦ inl is
        | inr before ↦ inr before.1
      ];
}

pub runs_stay_open : RunsStayOpen
runs_stay_open schema calls sound made may =
    let all = all_end (start (opening_of schema)) (opened schema) calls (opened_so schema sound) (first_mirror schema sound) made may in
    newest_of (after_log (start (opening_of schema)) all.log) (after_calls (opened schema) calls) all.kept all.mirrors
