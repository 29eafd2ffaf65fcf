-- All that the theorem on logs rests on is kept with the rows that are stored.
use Rattle.std.specs.Prelude.{◌≡◌, ◌≢◌, ℕ, ◌≤◌, ◌==◌, ◌&&◌, zero, suc, Bool, true, false, cond, IsTrue, List, Option, Some, None, option_map, refl}
use Rattle.std.specs.FinMap.{get}
use Rattle.std.proofs.Common.{sym, ap, subst, ◌∙◌, inl, inr, arith}
use Rattle.keycode.specs.declared.value.Value.{Value}
use Rattle.keycode.specs.declared.value.Value.TheVariants.{Null}
use Rattle.keycode.specs.Valid.{IsStorable}
use Rattle.row_map.specs.declared.shape.ColumnType.{ColumnType}
use Rattle.row_map.specs.Rows.{RowKey, Cells, Rows, Pairs, AreStorable}
use Rattle.row_map.specs.Shape.{has_type}
use Rattle.schema_version.specs.declared.element.ElementState.{ElementState}
use Rattle.schema_version.specs.declared.element.ElementState.TheVariants.{Absent, DeleteOnly, WriteOnly, Public}
use Rattle.schema_version.specs.declared.element.Way.{Way}
use Rattle.schema_version.specs.declared.element.Way.TheVariants.{Adding, Dropping}
use Rattle.schema_version.specs.declared.element.Work.{Work}
use Rattle.schema_version.specs.declared.element.Work.TheVariants.{Fill, Clear}
use Rattle.schema_version.specs.declared.element.Kind.{Kind}
use Rattle.schema_version.specs.declared.element.Kind.TheVariants.{Index, Optional, Required}
use Rattle.schema_version.specs.declared.element.ElementDef.{ElementDef}
use Rattle.schema_version.specs.Version.{Version, element_at, type_of_kind}
use Rattle.element_state.specs.Consistent.{IsLawfulRow, AreLawfulRows}
use Rattle.element_state.specs.Core.{CoreProgress, PassedSpan, Meets, JoinedAt, NeverPublic, NoCell, MayRun, Passed, Reached, Invariant}
use Rattle.element_state.specs.Elements.{Meaning, Subset, Empty, Demand}
use Rattle.element_state.specs.Exists.{exists_meaning}
use Rattle.element_state.specs.Laws.{Grows, Joined}
use Rattle.element_state.specs.Schemas.{Entry, state_of}
use Rattle.element_state.specs.Sources.{Source, IndexOn, OptionalIn, RequiredIn, source_in}
use Rattle.element_state.specs.Versions.{ElementKind, Row, Of, the_kinds, meaning_of, numbered, schema_of, entry_of, row_entry, is_adding}
use Rattle.element_state.specs.lemmas.Apart.{false_true, none_some, some_one}
use Rattle.element_state.specs.lemmas.ExistsLaws.{exists_laws}
use Rattle.element_state.proofs.Versions.{get-schema_of}
use Rattle.element_state.proofs.Visible.{short_typed}
use Rattle.replay.specs.Replay.{Facts}
use Rattle.replay.specs.Kept.{IsKept, core_at, used_before}
use Rattle.replay.proofs.Agree.{at_number}
use Rattle.checkpoint.specs.Stored.{is_stored, stored_by, stored_in, stored_cells}
use Rattle.checkpoint.proofs.Stored.{stored_get}
use Rattle.checkpoint.proofs.Columns.{AreStored, Moves, demand_moves, same_moves}
use Rattle.checkpoint.proofs.Elements.{element_moves, hides, cell_typed}

-- ---- small facts

-- an element that the newest version lacks has no pair
pub empty_demand : (c : ℕ) (kind : ElementKind) (q : ElementState) (P : Pairs) (S : Rows) → Joined (meaning_of c kind) q Absent → Empty c P → Demand (meaning_of c kind) q P S
empty_demand c kind Absent P S j none = λ x own. none x (own ∙ ap Some (numbered c kind))
empty_demand c kind DeleteOnly P S j none = λ x v own got. absurd (none_some v (sym (none x (own ∙ ap Some (numbered c kind))) ∙ got))
empty_demand c kind WriteOnly P S j none = λ x v own got. absurd (none_some v (sym (none x (own ∙ ap Some (numbered c kind))) ∙ got))
empty_demand c kind Public P S (inl is) none = absurd cc
empty_demand c Row Public P S (inr edge) none = absurd (false_true edge)
empty_demand c (Of table (IndexOn columns)) Public P S (inr edge) none = absurd (false_true edge)
empty_demand c (Of table (OptionalIn type)) Public P S (inr edge) none = absurd (false_true edge)
empty_demand c (Of table (RequiredIn type fallback)) Public P S (inr edge) none = absurd (false_true edge)

subset_grows : (m : Meaning) (q : ElementState) (P : Pairs) (R : Rows) → Grows q → Demand m q P R → Subset m P R
subset_grows m Absent P R g d = absurd g
subset_grows m DeleteOnly P R g d = absurd g
subset_grows m WriteOnly P R g d = d
subset_grows m Public P R g d = d.subset

-- what was never public is not stored
pub not_stored : (e : ElementDef) → is_adding e.way ≡ true → e.state ≢ Public → is_stored e ≡ false
not_stored e adding hidden = by e.state e.way refl refl
  where
    by : (q : ElementState) (w : Way) → e.state ≡ q → e.way ≡ w → is_stored e ≡ false
    by Public w s t = absurd (hidden s)
    by Absent Adding s t = λ i. is_stored (record e { state = s i; way = t i })
    by DeleteOnly Adding s t = λ i. is_stored (record e { state = s i; way = t i })
    by WriteOnly Adding s t = λ i. is_stored (record e { state = s i; way = t i })
    by q Dropping s t = absurd (false_true (sym (ap is_adding t) ∙ adding))

-- the types of a column in two versions that have it with one kind
abbrev type_of_source : Source → Option ColumnType
type_of_source (IndexOn columns) = None
type_of_source (OptionalIn type) = Some type
type_of_source (RequiredIn type fallback) = Some type

type_reported : (version : Version) (kind : Kind) → type_of_source (source_in version kind) ≡ type_of_kind kind
type_reported version (Index columns) = refl
type_reported version (Optional type) = refl
type_reported version (Required type fallback) = refl

abbrev type_of_element : ElementKind → Option ColumnType
type_of_element Row = None
type_of_element (Of table source) = type_of_source source

neither : {A : Type 0} (c : Bool) → cond {A = Option A} c None None ≡ None
neither true = refl
neither false = refl

module _ (facts : Facts) (k : IsKept facts) (S : Rows) (stored : AreStored facts.newest facts.pairs facts.rows S) where
  abbrev n : Version
  n = facts.newest

  abbrev b : Version
  b = used_before facts facts.moment

  abbrev P : Pairs
  P = facts.pairs

  abbrev R : Rows
  R = facts.rows

  i : Invariant the_kinds (core_at facts facts.moment)
  i = k.core_kept

  bare : (c : ℕ) → NeverPublic the_kinds n.next c (get (schema_of n) c) → NoCell c R
  bare c never = (i.bare c never).0

  -- ---- the pairs

  row_moves : Moves exists_meaning P R S
  row_moves = same_moves n P R S stored exists_meaning exists_laws (λ key r there serves. refl) (λ key r there serves. refl)

  kind_moves : (c : ℕ) (f : Entry ElementKind) → get (schema_of n) c ≡ Some f → Moves (meaning_of c f.kind) P R S
  kind_moves zero f is = subst (λ (g : Entry ElementKind). Moves (meaning_of 0 g.kind) P R S) (some_one row_entry f (sym (get-schema_of n 0) ∙ is)) row_moves
  kind_moves (suc c) f is = by (element_at n (suc c)) refl
    where
      by : (o : Option ElementDef) → element_at n (suc c) ≡ o → Moves (meaning_of (suc c) f.kind) P R S
      by None at = absurd (none_some f (sym (at_number n (suc c) (omega arith) ∙ ap (option_map (entry_of n)) at) ∙ is))
      by (Some e) at =
          subst (λ (g : Entry ElementKind). Moves (meaning_of (suc c) g.kind) P R S) (some_one (entry_of n e) f (sym (at_number n (suc c) (omega arith) ∙ ap (option_map (entry_of n)) at) ∙ is))
          (element_moves n P R S stored i.held k.sound k.rows i.newest bare (suc c) e at)

  newest_meets : (c : ℕ) (o : Option (Entry ElementKind)) → get (schema_of n) c ≡ o → Meets the_kinds c o P R → Meets the_kinds c o P S
  newest_meets c None is m = m
  newest_meets c (Some f) is m = demand_moves (meaning_of c f.kind) P R S (kind_moves c f is) f.state m

  before_meets : (c : ℕ) (o u : Option (Entry ElementKind)) → get (schema_of n) c ≡ u → JoinedAt the_kinds c o u → Meets the_kinds c u P R → Meets the_kinds c o P R → Meets the_kinds c o P S
  before_meets c None u is j new m = m
  before_meets c (Some d) None is j new m = empty_demand c d.kind d.state P S j new
  before_meets c (Some d) (Some f) is j new m = demand_moves (meaning_of c d.kind) P R S (subst (λ (y : ElementKind). Moves (meaning_of c y) P R S) (sym j.0) (kind_moves c f is)) d.state m

  -- ---- what the reorganisations have passed

  passed_so : (c : ℕ) (kind : ElementKind) (entry : Entry ElementKind) (work : Work) (spans : List PassedSpan) → get (schema_of n) c ≡ Some entry → entry.kind ≡ kind → MayRun the_kinds work kind (state_of (get (schema_of n) c))
      → Passed the_kinds c kind work spans P R → Passed the_kinds c kind work spans P S
  passed_so c kind entry Clear spans is same may passed = passed
  passed_so c kind entry Fill spans is same may passed = λ l inside.
      let m = meaning_of c kind in
      let demand : Demand (meaning_of c kind) entry.state P R = subst (λ (y : ElementKind). Demand (meaning_of c y) entry.state P R) same (subst (λ o. Meets the_kinds c o P R) is (i.newest c)) in
      let sub : Subset m P R = subset_grows m entry.state P R (subst Grows (ap state_of is) may) demand in
      (subst (λ (y : ElementKind). Moves (meaning_of c y) P R S) same (kind_moves c entry is)).covered sub l (passed l inside)

  reached_so : (c : ℕ) (p : CoreProgress) → Reached the_kinds c p (schema_of b) (schema_of n) P R → Reached the_kinds c p (schema_of b) (schema_of n) P S
  reached_so c p old = record {
    kind = old.kind;
    entry = old.entry;
    entry_is = old.entry_is;
    kind_is = old.kind_is;
    filled = old.filled;
    run_before = old.run_before;
    run_newest = old.run_newest;
    passed = passed_so c old.kind old.entry p.work p.spans old.entry_is old.kind_is old.run_newest old.passed;
  }

  -- ---- the rows

  -- what is stored in a column is a value of its type
  cell : (key : RowKey) (r : Cells) (c : ℕ) (w : Value) → get R key ≡ Some r → get (stored_cells n P key) c ≡ Some w → (e : ElementDef) × (type : ColumnType) × (element_at n c ≡ Some e) × (type_of_kind e.kind ≡ Some type) × IsStorable w × IsTrue (has_type type w)
  cell key r c w there has = by (element_at n c) refl
    where
      of_type : (e : ElementDef) → element_at n c ≡ Some e → (o : Option ColumnType) → type_of_kind e.kind ≡ o → (e : ElementDef) × (type : ColumnType) × (element_at n c ≡ Some e) × (type_of_kind e.kind ≡ Some type) × IsStorable w × IsTrue (has_type type w)
      of_type e at (Some type) typed = let t = cell_typed n P R S stored i.held k.sound k.rows i.newest bare c e at type typed key r w there has in (e, type, at, typed, t.0, t.1)
      of_type e at None typed = absurd (none_some w (sym (stored_get n P key c ∙ ap (stored_in P key c) at ∙ untyped) ∙ has))
        where
          untyped : stored_in P key c (Some e) ≡ None
          untyped = ap (λ (o : Option ColumnType). stored_by P key c (cond ((e.table == key.0) && is_stored e) o None)) typed ∙ ap (stored_by P key c) (neither ((e.table == key.0) && is_stored e))

      by : (o : Option ElementDef) → element_at n c ≡ o → (e : ElementDef) × (type : ColumnType) × (element_at n c ≡ Some e) × (type_of_kind e.kind ≡ Some type) × IsStorable w × IsTrue (has_type type w)
      by None at = absurd (none_some w (sym (stored_get n P key c ∙ ap (stored_in P key c) at) ∙ has))
      by (Some e) at = of_type e at (type_of_kind e.kind) refl

  storable : (key : RowKey) (s : Cells) → get S key ≡ Some s → (c : ℕ) (w : Value) → get s c ≡ Some w → IsStorable w × (w ≢ Null)
  storable key s at c w has =
      let r = stored.from key s at in
      let t = cell key r.0 c w r.1 (ap (λ (y : Cells). get y c) (sym r.2) ∙ has) in
      (t.4, (short_typed t.1 w t.5).1)

  -- one type in both versions
  same_type : (c : ℕ) (d e : ElementDef) → element_at b c ≡ Some d → element_at n c ≡ Some e → type_of_kind d.kind ≡ type_of_kind e.kind
  same_type c d e at_b at_n =
      let first : 1 ≤ c = (k.sound_before.elements c d at_b).first in
      let j : JoinedAt the_kinds c (Some (entry_of b d)) (Some (entry_of n e))
      = subst (λ o. JoinedAt the_kinds c o (Some (entry_of n e))) (at_number b c first ∙ ap (option_map (entry_of b)) at_b) (subst (JoinedAt the_kinds c (get (schema_of b) c)) (at_number n c first ∙ ap (option_map (entry_of n)) at_n) (i.joined c)) in
      sym (type_reported b d.kind) ∙ ap type_of_element j.0 ∙ type_reported n e.kind

  pub lawful_newest : AreLawfulRows n S
  lawful_newest key s at =
      let r = stored.from key s at in
      let row : IsLawfulRow n key r.0 = k.rows key r.0 r.1 in
      record {
        table = row.table;
        known = row.known;
        primary = row.primary;
        types = λ c element type w is typed has.
            let t = cell key r.0 c w r.1 (ap (λ (y : Cells). get y c) (sym r.2) ∙ has) in
            let same : type_of_kind t.0.kind ≡ type_of_kind element.kind = ap (λ (y : ElementDef). type_of_kind y.kind) (some_one t.0 element (sym t.2 ∙ is)) in
            subst (λ (y : ColumnType). IsTrue (has_type y w)) (some_one t.1 type (sym t.3 ∙ same ∙ typed)) t.5;
        values = λ c w has. storable key s at c w has;
      }

  pub lawful_before : AreLawfulRows b S
  lawful_before key s at =
      let r = stored.from key s at in
      let row : IsLawfulRow b key r.0 = k.rows_before key r.0 r.1 in
      record {
        table = row.table;
        known = row.known;
        primary = row.primary;
        types = λ c element type w is typed has.
            let t = cell key r.0 c w r.1 (ap (λ (y : Cells). get y c) (sym r.2) ∙ has) in
            subst (λ (y : ColumnType). IsTrue (has_type y w)) (some_one t.1 type (sym t.3 ∙ sym (same_type c element t.0 is t.2) ∙ typed)) t.5;
        values = λ c w has. storable key s at c w has;
      }

  held : AreStorable S
  held key s at =
      let r = stored.from key s at in
      let row = i.held key r.0 r.1 in
      record { table = row.table; primary = row.primary; values = λ c w has. (storable key s at c w has).0 }

  bare_so : (c : ℕ) → NeverPublic the_kinds n.next c (get (schema_of n) c) → NoCell c S
  bare_so c never key s at = ap (λ (y : Cells). get y c) (stored.from key s at).2 ∙ by c (element_at n c) refl never
    where
      by : (c : ℕ) (o : Option ElementDef) → element_at n c ≡ o → NeverPublic the_kinds n.next c (get (schema_of n) c) → get (stored_cells n P key) c ≡ None
      by c None at never = stored_get n P key c ∙ ap (stored_in P key c) at
      by c (Some e) at never =
          let is : get (schema_of n) c ≡ Some (entry_of n e) = at_number n c (k.sound.elements c e at).first ∙ ap (option_map (entry_of n)) at in
          let new = subst (NeverPublic the_kinds n.next c) is never in
          hides n P R S stored i.held k.sound k.rows i.newest bare c e at (not_stored e new.0 new.1) key

  -- ---- all of it

  core : Invariant the_kinds (core_at (record facts { rows = S }) facts.moment)
  core = record {
    held = held;
    formed = i.formed;
    lawful_before = i.lawful_before;
    lawful_newest = i.lawful_newest;
    joined = i.joined;
    before = λ c. before_meets c (get (schema_of b) c) (get (schema_of n) c) refl (i.joined c) (i.newest c) (i.before c);
    newest = λ c. newest_meets c (get (schema_of n) c) refl (i.newest c);
    reached = λ c p at. reached_so c p (i.reached c p at);
    bare = λ c never. (bare_so c never, (i.bare c never).1);
  }

  pub kept_so : IsKept (record facts { rows = S })
  kept_so = record {
    counted = k.counted;
    valid = k.valid;
    since = k.since;
    sound = k.sound;
    sound_before = k.sound_before;
    tables = k.tables;
    core_kept = core;
    rows = lawful_newest;
    rows_before = lawful_before;
    begun = k.begun;
    different = k.different;
    in_pieces = k.in_pieces;
  }
