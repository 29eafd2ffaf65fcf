-- A transaction of either version that counts: its outcome, what it writes, and that it keeps all.
use Rattle.std.proofs.Common.{◌≡◌, ℕ, ◌≤◌, List, [], ◌∷◌, Option, Some, None, option_map, Result, Ok, Err, refl, sym, ap, subst, ◌∙◌, ◌⊎◌, inl, inr}
use Rattle.std.specs.Prelude.{◌≢◌, IsTrue}
use Rattle.std.specs.FinMap as map
use Rattle.byte_map.proofs.Written.{laid-noted}
use Rattle.keycode.specs.declared.value.Value.{Value}
use Rattle.keycode.proofs.Orders.{bytes_cmp_total, bytes_cmp-IsAntisymmetric}
use Rattle.row_map.specs.declared.shape.ColumnType.{ColumnType}
use Rattle.row_map.specs.Expect.{Holds}
use Rattle.row_map.specs.Rows.{RowKey, Cells, Rows, Pairs}
use Rattle.row_map.specs.Shape.{has_type}
use Rattle.row_map.specs.Writes.{Batch, written_all, laid}
use Rattle.schema_version.specs.declared.element.ElementState.TheVariants.{Absent, Public}
use Rattle.schema_version.specs.declared.element.Kind.{Kind}
use Rattle.schema_version.specs.declared.element.Kind.TheVariants.{Index, Optional, Required}
use Rattle.schema_version.specs.declared.element.ElementDef.{ElementDef}
use Rattle.schema_version.specs.Version.{Version, table_at, element_at, type_of_kind}
use Rattle.schema_version.specs.Sound.{IsSoundVersion}
use Rattle.element_state.specs.Consistent.{IsLawfulRow, AreLawfulRows}
use Rattle.element_state.specs.Core.{Invariant, Runs, JoinedAt}
use Rattle.element_state.specs.lemmas.Effects.{row_here, row_apart, key_one}
use Rattle.element_state.specs.Elements.{Change, rows_after, cell}
use Rattle.element_state.specs.Schemas.{state_of}
use Rattle.element_state.specs.Sources.{Source, IndexOn, OptionalIn, RequiredIn, source_in}
use Rattle.element_state.specs.Versions.{Of, the_kinds, schema_of, entry_of}
use Rattle.element_state.specs.Whole.{RunsAll, all_writes, rows_after_all}
use Rattle.element_state.proofs.Whole.{commit_all_kept}
use Rattle.row_write.specs.declared.op.RowOp.{RowOp}
use Rattle.row_write.specs.declared.op.RowOutcome.{RowOutcome}
use Rattle.row_write.specs.declared.op.RowOutcome.TheVariants.{Done, Refused}
use Rattle.row_write.specs.declared.fault.RowFault.{RowFault}
use Rattle.row_write.specs.Plain.{applied, reported, outcome, kept, transacted}
use Rattle.row_write.specs.Prepare.{writes_of, accepted_writes, txn_writes, Encodes}
use Rattle.row_write.specs.Made.{PreparedTxn}
use Rattle.replay.specs.Replay.{Facts, after, writes_under}
use Rattle.replay.specs.Kept.{IsKept, core_at, used_before}
use Rattle.replay.specs.Laws.{IsDue, txn_entry, OutcomesHold, TxnsKeep, RefusedWriteNothing}
use Rattle.replay.proofs.Agree.{at_number, counts_still}
use Rattle.replay.proofs.Changes.{changes, all_applied}
use Rattle.replay.proofs.Operations.{all_steps}
use Rattle.replay.proofs.Soundness.{fits, small}
use Rattle.replay.proofs.Encoding.{Agreeing, encodes}
use Rattle.replay.proofs.Time.{at, kept_later}

some_one : {A : Type 0} {v w : A} → Some v ≡ (let o : Option A = Some w in o) → v ≡ w
some_one e = cc

none_some : {A B : Type 0} {v : A} → None ≡ Some v → B
none_some e = absurd cc

-- ---- a column that a version lacks keeps its cells

-- all values of a column in the rows
abbrev HaveAll : ℕ → (Value → Type 0) → Rows → Type 0
HaveAll n P R = (key : RowKey) (cells : Cells) → map.get R key ≡ Some cells → (v : Value) → map.get cells n ≡ Some v → P v

old_cell : (n : ℕ) (P : Value → Type 0) (R : Rows) (key : RowKey) (o : Option Cells) → map.get R key ≡ o → HaveAll n P R → (v : Value) → cell o n ≡ Some v → P v
old_cell n P R key None is all v at = none_some at
old_cell n P R key (Some r) is all v at = all key r is v at

one_kept : (version : Version) (n : ℕ) (P : Value → Type 0) (R : Rows) (c : Change) → state_of (map.get (schema_of version) n) ≢ Public → Runs the_kinds (schema_of version) R c → HaveAll n P R → HaveAll n P (rows_after R c)
one_kept version n P R c hidden runs all key cells at v is = elim (key_one key c.key) [
  | inl e ↦
      let new : c.new ≡ Some cells = sym (row_here R c) ∙ ap (map.get (rows_after R c)) (sym e) ∙ at in
      old_cell n P R c.key c.old runs.fits all v (sym (runs.public_only n hidden cells new) ∙ is)
  | inr ne ↦ all key cells (sym (row_apart R c key ne) ∙ at) v is
]

all_kept : (version : Version) (n : ℕ) (P : Value → Type 0) (cs : List Change) (R : Rows) → state_of (map.get (schema_of version) n) ≢ Public → RunsAll the_kinds (schema_of version) R cs → HaveAll n P R → HaveAll n P (rows_after_all the_kinds R cs)
all_kept version n P [] R hidden runs all = all
all_kept version n P (c ∷ cs) R hidden runs all = all_kept version n P cs (rows_after R c) hidden runs.1 (one_kept version n P R c hidden runs.0 all)

-- ---- rows that are lawful in one version are in the other

abbrev SameTypes : Version → Version → Type 0
SameTypes u v = (n : ℕ) (e d : ElementDef) → element_at u n ≡ Some e → element_at v n ≡ Some d → type_of_kind e.kind ≡ type_of_kind d.kind

absent_public : Absent ≡ Public → ⊥
absent_public e = absurd cc

lawful_other : (u v : Version) (R : Rows) (cs : List Change) → IsSoundVersion u → u.tables ≡ v.tables → SameTypes u v → RunsAll the_kinds (schema_of v) R cs → AreLawfulRows u R → AreLawfulRows v (rows_after_all the_kinds R cs)
    → AreLawfulRows u (rows_after_all the_kinds R cs)
lawful_other u v R cs sound tables kinds runs before after key cells at =
    let r : IsLawfulRow v key cells = after key cells at in
    record {
      table = r.table;
      known = ap (λ ts. table_at (record u { tables = ts }) key.0) tables ∙ r.known;
      primary = r.primary;
      types = λ column element type value there kind is. by r column element type value there kind is (element_at v column) refl;
      values = r.values;
    }
  where
    by : IsLawfulRow v key cells → (column : ℕ) (element : ElementDef) (type : ColumnType) (value : Value) → element_at u column ≡ Some element → type_of_kind element.kind ≡ Some type → map.get cells column ≡ Some value → (o : Option ElementDef) → element_at v column ≡ o → IsTrue (has_type type value)
    by r column element type value there kind is (Some d) at_v = r.types column d type value at_v (sym (kinds column element d there at_v) ∙ kind) is
    by r column element type value there kind is None at_v =
        let hidden : state_of (map.get (schema_of v) column) ≢ Public = λ e. absent_public (sym (ap state_of (at_number v column (sound.elements column element there).first ∙ ap (option_map (entry_of v)) at_v)) ∙ e) in
        all_kept v column (λ x. IsTrue (has_type type x)) cs R hidden runs (λ k c a x i. (before k c a).types column element type x there kind i) key cells at value is

of_source : (a b : ℕ) (x y : Source) → Of a x ≡ Of b y → x ≡ y
of_source a b x y e = cc

-- what pairs are built from tells the type of a column
type_of_source : Source → Option ColumnType
type_of_source (IndexOn columns) = None
type_of_source (OptionalIn type) = Some type
type_of_source (RequiredIn type fallback) = Some type

type_reported : (version : Version) (kind : Kind) → type_of_source (source_in version kind) ≡ type_of_kind kind
unfolding type_of_source
type_reported version (Index columns) = refl
type_reported version (Optional type) = refl
type_reported version (Required type fallback) = refl

-- ---- what was prepared

done_applied : (rows : Rows) (ops : List RowOp) (r : Result Rows (ℕ × RowFault)) → applied 0 rows ops ≡ r → reported r ≡ Done → applied 0 rows ops ≡ Ok (kept rows r)
done_applied rows ops (Ok new) e done = e
done_applied rows ops (Err refusal) e done = absurd (not_done refusal.0 refusal.1 done)
  where
    not_done : (op : ℕ) (why : RowFault) → Refused op why ≡ Done → ⊥
    not_done op why wrong = cc

module _ (facts : Facts) (now : ℕ) (prepared : PreparedTxn) (later : facts.moment ≤ now) (due : IsDue facts now prepared) (is_kept : IsKept facts) where
  k : IsKept (at facts now)
  k = kept_later facts now later is_kept

  abbrev pub version : Version
  version = prepared.schema

  abbrev pub before : Version
  before = used_before facts now

  abbrev pub ops : List RowOp
  ops = prepared.ops

  counts : (version ≡ before) ⊎ (version ≡ facts.newest)
  counts = counts_still (at facts now) k prepared.lease.version version due.usable due.schema

  agreeing_before : Agreeing before facts.pairs facts.rows
  agreeing_before = record { sound = k.sound_before; small = small before k.sound_before; fit = fits before k.sound_before; lawful = k.rows_before; held = k.core_kept.held; consistent = k.core_kept.before }

  agreeing_newest : Agreeing facts.newest facts.pairs facts.rows
  agreeing_newest = record { sound = k.sound; small = small facts.newest k.sound; fit = fits facts.newest k.sound; lawful = k.rows; held = k.core_kept.held; consistent = k.core_kept.newest }

  agreeing : Agreeing version facts.pairs facts.rows
  agreeing = elim counts [
    | inl e ↦ subst (λ (v : Version). Agreeing v facts.pairs facts.rows) (sym e) agreeing_before
    | inr e ↦ subst (λ (v : Version). Agreeing v facts.pairs facts.rows) (sym e) agreeing_newest
  ]

  reads_encode : Encodes version ops due.made.view facts.rows
  reads_encode = encodes version ops due.made.view facts.pairs facts.rows agreeing due.made.keys (subst (λ e. Holds e facts.pairs) due.made.expected due.holds) due.made.sound

  pub outcome_holds : prepared.reported ≡ outcome facts.rows ops
  outcome_holds = (due.made.prepared_so facts.rows reads_encode).0

  lays : laid prepared.batch facts.pairs ≡ written_all facts.pairs (txn_writes version facts.rows ops)
  lays =
      ap (λ (b : Batch). laid b facts.pairs) (due.made.prepared_so facts.rows reads_encode).1
      ∙ laid-noted bytes_cmp_total bytes_cmp-IsAntisymmetric (txn_writes version facts.rows ops) facts.pairs

  pub writes_so : laid prepared.batch facts.pairs ≡ (after facts (txn_entry now prepared)).pairs
  writes_so = lays ∙ ap (λ (v : Option Version). written_all facts.pairs (writes_under v facts.rows ops)) (sym due.schema)

  pub refused_so : (op : ℕ) (why : RowFault) → outcome facts.rows ops ≡ Refused op why → laid prepared.batch facts.pairs ≡ facts.pairs
  refused_so op why is = lays ∙ ap (λ (o : RowOutcome). written_all facts.pairs (accepted_writes o (writes_of version facts.rows ops))) is

  module _ (done : outcome facts.rows ops ≡ Done) where
    applies : applied 0 facts.rows ops ≡ Ok (transacted facts.rows ops)
    applies = done_applied facts.rows ops (applied 0 facts.rows ops) refl done

    steps : RunsAll the_kinds (schema_of version) facts.rows (changes facts.rows ops) × AreLawfulRows version (rows_after_all the_kinds facts.rows (changes facts.rows ops))
    steps = all_steps version facts.rows ops agreeing.small agreeing.lawful due.made.sound

    rows_are : rows_after_all the_kinds facts.rows (changes facts.rows ops) ≡ transacted facts.rows ops
    rows_are = (all_applied version 0 facts.rows (transacted facts.rows ops) ops applies).0

    pairs_are : written_all facts.pairs (all_writes the_kinds (schema_of version) (changes facts.rows ops)) ≡ (after facts (txn_entry now prepared)).pairs
    pairs_are =
        ap (written_all facts.pairs) ((all_applied version 0 facts.rows (transacted facts.rows ops) ops applies).1 ∙ sym (ap (λ (o : RowOutcome). accepted_writes o (writes_of version facts.rows ops)) done))
        ∙ ap (λ (v : Option Version). written_all facts.pairs (writes_under v facts.rows ops)) (sym due.schema)

    core : Invariant the_kinds (record (core_at (at facts now) now) { pairs = (after facts (txn_entry now prepared)).pairs; rows = transacted facts.rows ops })
    core =
        subst (λ (P : Pairs). Invariant the_kinds (record (core_at (at facts now) now) { pairs = P; rows = transacted facts.rows ops })) pairs_are
        (subst (λ (R : Rows). Invariant the_kinds (record (core_at (at facts now) now) { pairs = written_all facts.pairs (all_writes the_kinds (schema_of version) (changes facts.rows ops)); rows = R })) rows_are
        (commit_all_kept the_kinds (changes facts.rows ops) (core_at (at facts now) now) (schema_of version) (elim counts [ inl e ↦ inl (ap schema_of e) | inr e ↦ inr (ap schema_of e) ]) steps.0 k.core_kept))

    -- a column has one type in both
    kinds : SameTypes before facts.newest
    kinds n e d at_before at_newest =
        let above = (k.sound_before.elements n e at_before).first in
        let joined : JoinedAt the_kinds n (Some (entry_of before e)) (Some (entry_of facts.newest d))
        = subst (λ o. JoinedAt the_kinds n o (Some (entry_of facts.newest d))) (at_number before n above ∙ ap (option_map (entry_of before)) at_before)
        (subst (JoinedAt the_kinds n (map.get (schema_of before) n)) (at_number facts.newest n above ∙ ap (option_map (entry_of facts.newest)) at_newest) (k.core_kept.joined n)) in
        sym (type_reported before e.kind) ∙ ap type_of_source (of_source e.table d.table (source_in before e.kind) (source_in facts.newest d.kind) joined.0) ∙ type_reported facts.newest d.kind

    lawful_of : (u : Version) → IsSoundVersion u → u.tables ≡ version.tables → SameTypes u version → AreLawfulRows u facts.rows → AreLawfulRows u (transacted facts.rows ops)
    lawful_of u sound tables same rows = subst (AreLawfulRows u) rows_are (lawful_other u version facts.rows (changes facts.rows ops) sound tables same steps.0 rows steps.1)

    lawful_self : AreLawfulRows version (transacted facts.rows ops)
    lawful_self = subst (AreLawfulRows version) rows_are steps.1

    both_lawful : AreLawfulRows before (transacted facts.rows ops) × AreLawfulRows facts.newest (transacted facts.rows ops)
    both_lawful = elim counts [
      | inl e ↦ (
        subst (λ (v : Version). AreLawfulRows v (transacted facts.rows ops)) e lawful_self,
        lawful_of facts.newest k.sound (sym k.tables ∙ ap (λ (v : Version). v.tables) (sym e)) (subst (SameTypes facts.newest) (sym e) (λ n a b p q. sym (kinds n b a q p))) k.rows,
      )
      | inr e ↦ (
        lawful_of before k.sound_before (k.tables ∙ ap (λ (v : Version). v.tables) (sym e)) (subst (SameTypes before) (sym e) kinds) k.rows_before,
        subst (λ (v : Version). AreLawfulRows v (transacted facts.rows ops)) e lawful_self,
      )
    ]

    pub txn_kept : IsKept (after facts (txn_entry now prepared))
    txn_kept = record {
      counted = k.counted;
      valid = k.valid;
      since = k.since;
      sound = k.sound;
      sound_before = k.sound_before;
      tables = k.tables;
      core_kept = core;
      rows = both_lawful.1;
      rows_before = both_lawful.0;
      begun = k.begun;
      different = k.different;
      in_pieces = k.in_pieces;
    }

pub outcomes_hold : OutcomesHold
outcomes_hold facts now prepared later due kept = outcome_holds facts now prepared later due kept

pub txns_keep : TxnsKeep
txns_keep facts now prepared later due done kept = (writes_so facts now prepared later due kept, txn_kept facts now prepared later due kept done)

pub refused_write_nothing : RefusedWriteNothing
refused_write_nothing facts now prepared op why later due is kept = refused_so facts now prepared later due kept op why is
