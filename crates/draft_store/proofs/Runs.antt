-- A store with one map goes along with one of two.
use Rattle.std.proofs.Common.{◌≡◌, Bool, List, [], ◌∷◌, Option, Some, None, refl, sym, ap, subst, ◌∙◌, cond, true, false}
use Rattle.std.specs.List.{AllByRecursion}
use Rattle.std.specs.FinMap as map
use Rattle.keycode.specs.Order.{bytes_cmp}
use Rattle.keycode.proofs.Orders.{bytes_cmp_total, bytes_cmp-IsAntisymmetric}
use Rattle.row_map.specs.declared.expect.Expect.{Expect}
use Rattle.row_map.specs.Expect.{Holds}
use Rattle.row_map.specs.Rows.{Bytes, Pairs}
use Rattle.row_map.specs.Writes.{Batch, laid}
use Rattle.schema_version.specs.Version.{Version}
use Rattle.replay.specs.Kept.{IsKept}
use Rattle.replay.specs.Replay.{Facts, start}
use Rattle.replay.proofs.Agree.{counts_still}
use Rattle.drafts.specs.Calls.{Call, Transact, Close, Begin, Divide, Piece, Publish, txn_draft, draft_of, IsDrafted, nothing}
use Rattle.drafts.specs.Coded.{IsFit, AreFit, ByteStore, AreAppliedIn, MayApplyIn, after_in, applied_in, opened_in}
use Rattle.drafts.specs.Laws.{AreDrafted, rows_by, opening_of}
use Rattle.drafts.specs.Log.{after_one}
use Rattle.drafts.specs.Mirror.{Mirrors, open_at}
use Rattle.drafts.specs.Store.{Store, MayApply, IsThere, opened, applied, version_key}
use Rattle.drafts.proofs.Opens.{read_of, usable}
use Rattle.drafts.proofs.Runs.{all_keep, opened_so, first_mirror}
use Rattle.record_code.specs.Drafts.{parts_of, open_draft}
use Rattle.record_code.specs.Keys.{key_code, HasKey}
use Rattle.record_code.specs.Records.{record_code, HasRecord}
use Rattle.record_code.specs.Runs.{no_store, store_after, IsOpenIn}
use Rattle.record_code.proofs.Runs.{Encodes, read_there, all_written, first_code, opens_stores, runs_agree_in_bytes}
use Rattle.record_code.proofs.Suits.{reads_suit, writes_suit}
use Rattle.draft_store.specs.Apply.{Allows, after}
use Rattle.draft_store.specs.OneMap.{is_control, is_pair, sides, ArePairs, IsPairRange, IsSided, AreAllowed, after_all, opened_one, one_after, RunsAreTheSame, RunsAgreeInOneMap}
use Rattle.draft_store.proofs.OneMap.{on_side, reads_allowed, pairs_allowed, one_map}
use Rattle.draft_store.proofs.Controlled.{reads_control, writes_control}
use Rattle.draft_store.proofs.Sided.{no_pairs, piece_low, piece_batch, txn_batch, txn_points}

-- ---- one draft

-- a draft that compares and writes no pair
bare : (call : Call) → (draft_of call).expect ≡ nothing → (draft_of call).batch ≡ map.empty → IsSided (draft_of call)
bare call expects writes = record {
  reads = reads_control call;
  writes = writes_control call;
  points = subst (λ (e : Expect). ArePairs e.points) (sym expects) no_pairs;
  range = subst (λ (e : Expect). IsPairRange e.key_range) (sym expects) tt;
  batch = subst (λ (b : Batch). ArePairs b) (sym writes) no_pairs;
}

module _ (facts : Facts) (store : Store) (one : Pairs) (k : IsKept facts) (m : Mirrors facts store) (codes : Encodes (sides one).control store.control) (pairs : (sides one).pairs ≡ store.pairs) where
  -- the control records are as the draft says
  there : (call : Call) → AllByRecursion (IsFit HasKey HasRecord) (draft_of call).reads → Allows (parts_of (draft_of call)) one → AllByRecursion (IsThere store.control) (draft_of call).reads
  there call fit allows = read_there (sides one).control store.control codes (draft_of call).reads fit (reads_suit call) (reads_allowed (draft_of call) one (reads_control call) allows)

  sided : (call : Call) → AllByRecursion (IsFit HasKey HasRecord) (draft_of call).reads → IsDrafted call → Allows (parts_of (draft_of call)) one → IsSided (draft_of call)
  sided (Transact txn mark) fit made allows =
      let open_so : open_at facts txn.lease.version ≡ Some txn.schema = read_of (open_at facts txn.lease.version) txn.schema (sym (m.versions txn.lease.version) ∙ (there (Transact txn mark) fit allows).0) in
      let used = usable facts txn.lease.version txn.schema k open_so in
      let points = txn_points txn made.made in
      let range : IsPairRange txn.expect.key_range = subst (λ (e : Expect). IsPairRange e.key_range) (sym made.made.expected) tt in
      let holds : Holds txn.expect facts.pairs = subst (Holds txn.expect) (pairs ∙ m.pairs) (pairs_allowed (txn_draft txn mark) one points range allows) in
      record {
        reads = reads_control (Transact txn mark);
        writes = writes_control (Transact txn mark);
        points = points;
        range = range;
        batch = txn_batch facts k txn made.made (counts_still facts k txn.lease.version txn.schema used.0 used.1) holds;
      }
  sided (Close newest) fit made allows = bare (Close newest) refl refl
  sided (Begin b) fit made allows = bare (Begin b) refl refl
  sided (Divide d) fit made allows = bare (Divide d) refl refl
  sided (Piece w) fit made allows =
      record {
        reads = reads_control (Piece w);
        writes = writes_control (Piece w);
        points = no_pairs;
        range = piece_low facts store w k m (there (Piece w) fit allows);
        batch = piece_batch w;
      }
  sided (Publish p) fit made allows = bare (Publish p) refl refl

-- ---- all drafts

record Same (one : Pairs) (calls : List Call) : Type 0 where
  pub applied_so : AreAppliedIn key_code record_code (sides one) calls
  pub same : sides (after_all one calls) ≡ after_in key_code record_code (sides one) calls

all_same : (facts : Facts) (store : Store) (one : Pairs) (calls : List Call) → IsKept facts → Mirrors facts store → Encodes (sides one).control store.control → (sides one).pairs ≡ store.pairs → AreFit HasKey HasRecord calls → AreDrafted calls → AreAllowed one calls → Same one calls
all_same facts store one [] k m codes pairs fit made allowed = record { applied_so = tt; same = refl }
all_same facts store one (call ∷ calls) k m codes pairs fit made allowed =
    let draft = draft_of call in
    let same = one_map draft one (sided facts store one k m codes pairs call fit.0 made.0 allowed.0) in
    let may : MayApplyIn key_code record_code draft (sides one) = same.allowed.0 allowed.0 in
    let may_too : MayApply draft store = record { control = there facts store one k m codes pairs call fit.0 allowed.0; pairs = subst (Holds draft.expect) pairs may.pairs } in
    let next = all_keep facts store call k m made.0 may_too in
    let new = after (parts_of draft) one in
    let codes_new : Encodes (sides new).control (applied draft store).control
    = subst (λ (s : ByteStore). Encodes s.control (applied draft store).control) (sym same.written_so) (all_written (sides one).control store.control draft.writes codes fit.1 (writes_suit call)) in
    let pairs_new : (sides new).pairs ≡ (applied draft store).pairs = ap (λ (s : ByteStore). s.pairs) same.written_so ∙ ap (laid draft.batch) pairs in
    let rest = all_same (after_one facts next.one) (applied draft store) new calls next.kept next.mirrors codes_new pairs_new fit.2 made.1 allowed.1 in
    record {
      applied_so = (may, subst (λ (s : ByteStore). AreAppliedIn key_code record_code s calls) same.written_so rest.applied_so);
      same = rest.same ∙ ap (λ (s : ByteStore). after_in key_code record_code s calls) same.written_so;
    }

-- ---- the opening

none_kept : (p : Bytes → Bool) → map.retain_keys (let m : Pairs = map.empty in m) p ≡ map.empty
none_kept p = map.same_map bytes_cmp_total bytes_cmp-IsAntisymmetric _ _ (λ q.
    map.get-retain_keys map.empty p q (λ x e. ap p (sym (bytes_cmp-IsAntisymmetric q x e))) ∙ ap (λ (o : Option Bytes). cond (p q) o None) (map.get-empty bytes_cmp q) ∙ none_or (p q)
    ∙ sym (map.get-empty bytes_cmp q))
  where
    none_or : (b : Bool) → cond b (let o : Option Bytes = None in o) None ≡ None
    none_or true = refl
    none_or false = refl

opening_sided : (schema : Version) → IsSided (open_draft schema)
opening_sided schema = record { reads = (refl, tt); writes = (refl, tt); points = no_pairs; range = tt; batch = no_pairs }

opened_is : (schema : Version) → sides (opened_one schema) ≡ opened_in key_code record_code schema
opened_is schema =
    let nothing_kept : sides map.empty ≡ no_store = λ i. record { control = none_kept is_control i; pairs = none_kept is_pair i } in
    (one_map (open_draft schema) map.empty (opening_sided schema)).written_so ∙ ap (applied_in key_code record_code (open_draft schema)) nothing_kept ∙ (opens_stores schema).1

pub runs_are_the_same : RunsAreTheSame
runs_are_the_same schema calls run =
    let opened_two = opened_is schema in
    let codes : Encodes (sides (opened_one schema)).control (opened schema).control = subst (λ (s : ByteStore). Encodes s.control (opened schema).control) (sym opened_two) (first_code schema run.first) in
    let all = all_same (start (opening_of schema)) (opened schema) (opened_one schema) calls (opened_so schema run.first.0) (first_mirror schema run.first.0) codes (ap (λ (s : ByteStore). s.pairs) opened_two) run.fit run.made run.allowed in
    record {
      run = record { first = run.first; made = run.made; fit = run.fit; applied = subst (λ (s : ByteStore). AreAppliedIn key_code record_code s calls) opened_two all.applied_so };
      same = all.same ∙ ap (λ (s : ByteStore). after_in key_code record_code s calls) opened_two;
    }

pub runs_agree_in_one_map : RunsAgreeInOneMap
runs_agree_in_one_map schema calls number bytes run is at =
    let two = runs_are_the_same schema calls run in
    let there_too : map.get (store_after schema calls).control (key_code (version_key number)) ≡ Some bytes
    = ap (λ (s : ByteStore). map.get s.control (key_code (version_key number))) (sym two.same) ∙ on_side is_control (one_after schema calls) (key_code (version_key number)) refl ∙ at in
    subst (IsOpenIn bytes (rows_by map.empty calls)) (sym two.same) (runs_agree_in_bytes schema calls number bytes two.run is there_too)
