-- A store of bytes goes along with one of records.
use Rattle.std.proofs.Common.{◌≡◌, ℕ, List, [], ◌∷◌, Option, Some, None, option_map, refl, sym, ap, subst, ◌∙◌, inl, inr, arith}
use Rattle.std.specs.List.{AllByRecursion}
use mathlib.Core.List.{map as each}
use Rattle.std.specs.FinMap as map
use Rattle.byte_map.proofs.Written.{written_here, written_apart, same_or_apart}
use Rattle.element_state.specs.Consistent.{IsConsistent}
use Rattle.keycode.specs.Order.{bytes_cmp}
use Rattle.keycode.proofs.Orders.{bytes_cmp_total, bytes_cmp-IsAntisymmetric}
use Rattle.row_map.specs.Expect.{Holds}
use Rattle.row_map.specs.Rows.{Bytes, Pairs}
use Rattle.row_map.specs.Writes.{written, written_all, laid}
use Rattle.schema_version.specs.Version.{Version}
use Rattle.drafts.specs.declared.record.Record.{Record}
use Rattle.drafts.specs.declared.record.Record.TheVariants.{Version as OfVersion, Reorg as OfReorg, Cursor as OfCursor, Mark as OfMark}
use Rattle.drafts.specs.Store.{Key, Control, version_key, Store, opened, IsThere, applied}
use Rattle.drafts.specs.Calls.{Call, draft_of, nothing}
use Rattle.drafts.specs.Coded.{IsFit, AreFit, ByteStore, coded, IsThereIn, applied_in, AreAppliedIn, after_in, opened_in}
use Rattle.drafts.specs.Laws.{AreApplied, after_calls, rows_by}
use Rattle.drafts.proofs.Opens.{none_some, some_one}
use Rattle.drafts.proofs.Records.{here, apart, laid_nothing}
use Rattle.drafts.proofs.Runs.{runs_agree as records_agree}
use Rattle.record_code.specs.Keys.{key_code, HasKey, IsNumber}
use Rattle.record_code.specs.Records.{record_code, HasRecord, IsUnder}
use Rattle.record_code.specs.Runs.{OpensStores, store_after, IsRun, IsOpenIn, RunsAgreeInBytes, RecordsAreRead}
use Rattle.record_code.proofs.KeyCodes.{keys_tell}
use Rattle.record_code.proofs.Records.{records_tell, one_kind}
use Rattle.record_code.proofs.Suits.{Suits, AllSuit, reads_suit, writes_suit}

-- a record under its key that has a code
pub record Fits (k : Key) (r : Record) : Type 0 where
  pub under : IsUnder k r
  pub known : HasRecord r

-- the pairs of the records that have codes
pub record Encodes (bytes : Pairs) (control : Control) : Type 0 where
  pub there : (k : Key) → HasKey k → map.get bytes (key_code k) ≡ option_map record_code (map.get control k)
  pub fit : (k : Key) (r : Record) → HasKey k → map.get control k ≡ Some r → Fits k r

one_value : (k : Key) (o p : Option Record) → ((r : Record) → o ≡ Some r → Fits k r) → ((r : Record) → p ≡ Some r → Fits k r) → option_map record_code o ≡ option_map record_code p → o ≡ p
one_value k None None f g e = refl
one_value k None (Some s) f g e = none_some e
one_value k (Some r) None f g e = none_some (sym e)
one_value k (Some r) (Some s) f g e =
    let a = f r refl in
    let b = g s refl in
    ap Some (records_tell r s (one_kind k r s a.under b.under) a.known b.known (some_one e))

fit_one : (entry : Key × Option Record) → IsFit HasKey HasRecord entry → Suits entry → (r : Record) → entry.1 ≡ Some r → Fits entry.0 r
fit_one (k, None) fit suits r e = none_some e
fit_one (k, Some s) fit suits r e = record { under = subst (IsUnder k) (some_one e) suits; known = fit.value r e }

pub read_there : (bytes : Pairs) (control : Control) → Encodes bytes control → (reads : List (Key × Option Record)) → AllByRecursion (IsFit HasKey HasRecord) reads → AllSuit reads
    → AllByRecursion (IsThereIn key_code record_code bytes) reads → AllByRecursion (IsThere control) reads
read_there bytes control e [] fit suit at = tt
read_there bytes control e (entry ∷ reads) fit suit at = (
  one_value entry.0 (map.get control entry.0) entry.1 (λ r there. e.fit entry.0 r fit.0.key there) (fit_one entry fit.0 suit.0) (sym (e.there entry.0 fit.0.key) ∙ at.0),
  read_there bytes control e reads fit.1 suit.1 at.1,
)

one_written : (bytes : Pairs) (control : Control) (w : Key × Option Record) → Encodes bytes control → IsFit HasKey HasRecord w → Suits w → Encodes (written bytes (key_code w.0) (option_map record_code w.1)) (written control w.0 w.1)
one_written bytes control w e fit suit = record {
  there = λ k has. elim (same_or_apart bytes_cmp_total bytes_cmp-IsAntisymmetric k w.0) [
    | inl s ↦
        subst (λ (x : Key). map.get (written bytes (key_code w.0) (option_map record_code w.1)) (key_code x) ≡ option_map record_code (map.get (written control w.0 w.1) x)) (sym s)
        (written_here bytes_cmp_total bytes_cmp-IsAntisymmetric bytes (key_code w.0) (option_map record_code w.1) ∙ ap (option_map record_code) (sym (here control w.0 w.1)))
    | inr ne ↦
        written_apart bytes_cmp_total bytes_cmp-IsAntisymmetric bytes (key_code w.0) (option_map record_code w.1) (key_code k) (λ s. ne (keys_tell k w.0 has fit.key s))
        ∙ e.there k has ∙ ap (option_map record_code) (sym (apart control w.0 k w.1 ne))
  ];
  fit = λ k r has there. elim (same_or_apart bytes_cmp_total bytes_cmp-IsAntisymmetric k w.0) [
    | inl s ↦ subst (λ (x : Key). Fits x r) (sym s) (fit_one w fit suit r (sym (here control w.0 w.1) ∙ subst (λ (x : Key). map.get (written control w.0 w.1) x ≡ Some r) s there))
    | inr ne ↦ e.fit k r has (sym (apart control w.0 k w.1 ne) ∙ there)
  ];
}

-- each value that is put, or removed, is so of both
pub all_written : (bytes : Pairs) (control : Control) (ws : List (Key × Option Record)) → Encodes bytes control → AllByRecursion (IsFit HasKey HasRecord) ws → AllSuit ws
    → Encodes (written_all bytes (each (coded key_code record_code) ws)) (written_all control ws)
all_written bytes control [] e fit suit = e
all_written bytes control (w ∷ ws) e fit suit =
    all_written (written bytes (key_code w.0) (option_map record_code w.1)) (written control w.0 w.1) ws (one_written bytes control w e fit.0 suit.0) fit.1 suit.1

pub record Goes (bytes : ByteStore) (store : Store) (calls : List Call) : Type 0 where
  pub applied_so : AreApplied store calls
  pub same : Encodes (after_in key_code record_code bytes calls).control (after_calls store calls).control
  pub pairs : (after_in key_code record_code bytes calls).pairs ≡ (after_calls store calls).pairs

all_go : (bytes : ByteStore) (store : Store) (calls : List Call) → Encodes bytes.control store.control → bytes.pairs ≡ store.pairs → AreFit HasKey HasRecord calls → AreAppliedIn key_code record_code bytes calls → Goes bytes store calls
all_go bytes store [] e pairs fit may = record { applied_so = tt; same = e; pairs = pairs }
all_go bytes store (call ∷ calls) e pairs fit may =
    let rest =
    all_go (applied_in key_code record_code (draft_of call) bytes) (applied (draft_of call) store) calls
    (all_written bytes.control store.control (draft_of call).writes e fit.1 (writes_suit call)) (ap (laid (draft_of call).batch) pairs) fit.2 may.1 in
    record {
      applied_so = (
        record { control = read_there bytes.control store.control e (draft_of call).reads fit.0 (reads_suit call) may.0.control; pairs = subst (Holds (draft_of call).expect) pairs may.0.pairs },
        rest.applied_so,
      );
      same = rest.same;
      pairs = rest.pairs;
    }

one_key : (number : ℕ) → IsNumber number → HasKey (version_key number)
one_key number is = (is, tt)

pub first_code : (schema : Version) → HasRecord (OfVersion schema) → Encodes (opened_in key_code record_code schema).control (opened schema).control
first_code schema known =
    one_written map.empty map.empty (version_key 1, Some (OfVersion schema))
    (record { there = λ k h. map.get-empty bytes_cmp (key_code k) ∙ sym (ap (option_map record_code) (map.get-empty bytes_cmp k)); fit = λ k r h there. none_some (sym (map.get-empty bytes_cmp k) ∙ there) })
    (record { key = one_key 1 (omega arith); value = λ r e. subst HasRecord (some_one e) known }) refl

pub goes : (schema : Version) (calls : List Call) → IsRun schema calls → Goes (opened_in key_code record_code schema) (opened schema) calls
goes schema calls run = all_go (opened_in key_code record_code schema) (opened schema) calls (first_code schema run.first) refl run.fit run.applied

-- a value under a key is the code of the record under it
pub record Found (k : Key) (bytes : Bytes) (control : Control) : Type 0 where
  pub found : Record
  pub there : map.get control k ≡ Some found
  pub fits : Fits k found
  pub spelled : bytes ≡ record_code found

found_in : (k : Key) (bytes : Bytes) (control : Control) (o : Option Record) → map.get control k ≡ o → ((r : Record) → o ≡ Some r → Fits k r) → Some bytes ≡ option_map record_code o → Found k bytes control
found_in k bytes control None at fit e = none_some (sym e)
found_in k bytes control (Some r) at fit e = record { found = r; there = at; fits = fit r refl; spelled = some_one e }

pub find : (k : Key) (bytes : Bytes) (pairs : Pairs) (control : Control) → Encodes pairs control → HasKey k → map.get pairs (key_code k) ≡ Some bytes → Found k bytes control
find k bytes pairs control e has at = found_in k bytes control (map.get control k) refl (λ r there. e.fit k r has there) (sym at ∙ e.there k has)

pub records_are_read : RecordsAreRead
records_are_read schema calls key bytes run has at =
    let go = goes schema calls run in
    let f = find key bytes (store_after schema calls).control (after_calls (opened schema) calls).control go.same has at in
    record { found = f.found; under = f.fits.under; spelled = f.spelled; known = f.fits.known }

open_in : (schema : Version) (calls : List Call) (number : ℕ) (bytes : Bytes) (r : Record) → IsRun schema calls → IsUnder (version_key number) r → HasRecord r → bytes ≡ record_code r
    → map.get (after_calls (opened schema) calls).control (version_key number) ≡ Some r → IsOpenIn bytes (rows_by map.empty calls) (store_after schema calls)
open_in schema calls number bytes (OfVersion version) run under known spelled at =
    let go = goes schema calls run in
    record {
      version = version;
      spelled = spelled;
      known = known;
      agrees = subst (λ (pairs : Pairs). IsConsistent version (rows_by map.empty calls) pairs) (sym go.pairs) (records_agree schema calls run.first.0 run.made go.applied_so number version at);
    }
open_in schema calls number bytes (OfReorg s) run under known spelled at = absurd cc
open_in schema calls number bytes (OfCursor c) run under known spelled at = absurd cc
open_in schema calls number bytes OfMark run under known spelled at = absurd cc

pub runs_agree_in_bytes : RunsAgreeInBytes
runs_agree_in_bytes schema calls number bytes run is at =
    let go = goes schema calls run in
    let f = find (version_key number) bytes (store_after schema calls).control (after_calls (opened schema) calls).control go.same (one_key number is) at in
    open_in schema calls number bytes f.found run f.fits.under f.fits.known f.spelled f.there

-- ---- the opening

holds_nothing : (pairs : Pairs) → Holds nothing pairs
holds_nothing pairs key misses =
    elim misses [
      | inl wanted ↦ none_some (sym (map.get-empty bytes_cmp key) ∙ wanted.1)
      | inr none ↦ none
    ]

pub opens_stores : OpensStores
opens_stores schema = (
  record { control = (map.get-empty bytes_cmp (key_code (version_key 1)), tt); pairs = holds_nothing map.empty },
  λ i. record { control = map.insert map.empty (key_code (version_key 1)) (record_code (OfVersion schema)); pairs = laid_nothing map.empty i },
)
