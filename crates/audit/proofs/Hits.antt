-- Which row and index give a pair of an index: for a pair with a reason there is just one of each.
use Rattle.std.proofs.Common.{◌≡◌, ℕ, ◌==◌, ◌&&◌, Bool, true, false, List, [], ◌++◌, length, drop, Option, Some, None, refl, sym, ap, ◌∙◌, eqb-true, eq-eqb, true≢false}
use Rattle.std.specs.Prelude.{bytes_eq}
use Rattle.std.specs.FinMap as map
use Rattle.std.proofs.lemmas.List.{drop_at, length-map}
use Rattle.std.proofs.lemmas.Option.{same_Some}
use Rattle.std.proofs.lemmas.Slice.Eq.{bytes_eq-Decides}
use Rattle.keycode.specs.declared.value.Value.{Value}
use Rattle.row_map.specs.declared.key.KeyOf.{KeyOf}
use Rattle.row_map.specs.declared.key.KeyOf.TheVariants.{Exists, Column, Index as IndexKey}
use Rattle.row_map.specs.Keys.{IsKey, row_code}
use Rattle.row_map.specs.Rows.{Bytes, Cells, Pairs}
use Rattle.row_map.proofs.KeyLaws.{key_again}
use Rattle.schema_version.specs.declared.element.Kind.{Kind}
use Rattle.schema_version.specs.declared.element.Kind.TheVariants.{Index, Optional, Required}
use Rattle.schema_version.specs.declared.element.ElementDef.{ElementDef}
use Rattle.schema_version.specs.Sound.{IsSoundVersion}
use Rattle.schema_version.specs.Version.{Version, element_at, indexed_columns, is_index}
use Rattle.element_state.specs.lemmas.Clears.{both_true, left_true, right_true}
use Rattle.element_state.specs.Index.{indexed, index_pair}
use Rattle.element_state.specs.lemmas.IndexLaws.{index_is_key, indexed_length}
use Rattle.element_state.specs.Sources.{default_value_at}
use Rattle.audit.specs.Audit.{Pair, given, numbered, is_same_pair, is_index_pair, reason_by}
use Rattle.audit.specs.Encoded.{found, key_read, row_at}
use Rattle.audit.specs.Meaning.{HasExistsPair, AreByteStrings, with_default_values, Belongs}
use Rattle.audit.specs.Meaning.Belongs.{ExistsPair, ColumnPair, IndexPair}
use Rattle.audit.proofs.RowsRead.{read_cells, read_is_encoded}
use Rattle.audit.proofs.Exists.{key_form, encoded_storable}
use Rattle.audit.proofs.Present.{given_by_index, same_pair_key}
use Rattle.audit.proofs.Reasons.{is_index_key, same_bytes, lawful_index, index_says, reason_from}

-- whether a pair is the one that the element, an index, gives the row of an `exists` pair
abbrev pub hit_by : Version → Pairs → Pair → ElementDef → Option KeyOf → Bool
hit_by version pairs p e None = false
hit_by version pairs p e (Some (Exists table primary)) = ((e.table == table) && is_index e.kind) && is_same_pair (given version e (row_at version pairs table primary)) p
hit_by version pairs p e (Some (Column table primary number)) = false
hit_by version pairs p e (Some (IndexKey number values)) = false

-- whether a pair is an index's, and has a reason
abbrev pub index_reason : Version → Pairs → Pair → Option KeyOf → Bool
index_reason version pairs p None = false
index_reason version pairs p (Some (Exists table primary)) = false
index_reason version pairs p (Some (Column table primary number)) = false
index_reason version pairs p (Some (IndexKey number values)) = is_index_pair version pairs values p (numbered version number)

abbrev index_number : Option KeyOf → ℕ
index_number (Some (IndexKey number values)) = number
index_number _ = 0

abbrev index_values : Option KeyOf → List Value
index_values (Some (IndexKey number values)) = values
index_values _ = []

index_kind : (k : Kind) → is_index k ≡ true → (columns : List ℕ) × (k ≡ Index columns)
index_kind (Index columns) e = (columns, refl)
index_kind (Optional type) e = absurd (true≢false (sym e))
index_kind (Required type fallback) e = absurd (true≢false (sym e))

-- a key that is an index's has the reason that its pair has
reason_is : (version : Version) (pairs : Pairs) (p : Pair) (o : Option KeyOf) → is_index_key o ≡ true → index_reason version pairs p o ≡ reason_by version pairs p o
reason_is version pairs p None e = absurd (true≢false (sym e))
reason_is version pairs p (Some (Exists table primary)) e = absurd (true≢false (sym e))
reason_is version pairs p (Some (Column table primary number)) e = absurd (true≢false (sym e))
reason_is version pairs p (Some (IndexKey number values)) e = refl

module _ (version : Version) (sound : IsSoundVersion version) (pairs : Pairs) (strings : AreByteStrings pairs) where
  abbrev pub hits : Pair → Pair → ElementDef → Bool
  hits p q e = hit_by version pairs p e (key_read q.0)

  abbrev pub has_index_reason : Pair → Bool
  has_index_reason p = index_reason version pairs p (key_read p.0)

  -- what a row and an index that give a pair say of it
  pub record Hit (p q : Pair) (e : ElementDef) : Type 0 where
    pub primary : List Value
    pub row_key : q.0 ≡ row_code e.table primary 0
    pub number : index_number (key_read p.0) ≡ e.number
    pub behind : drop (length (indexed_columns e.kind)) (index_values (key_read p.0)) ≡ primary
    pub reason : has_index_reason p ≡ true

  primary_behind : (element : ElementDef) (columns : List ℕ) → element.kind ≡ Index columns → (primary : List Value) (cells : Cells)
      → drop (length (indexed_columns element.kind)) (indexed (with_default_values version columns) cells ++ primary) ≡ primary
  primary_behind element columns kind primary cells =
      ap (λ (k : Kind). drop (length (indexed_columns k)) (indexed (with_default_values version columns) cells ++ primary)) kind
      ∙ drop_at (indexed (with_default_values version columns) cells) primary (length columns) (indexed_length (with_default_values version columns) cells ∙ length-map columns (λ (column : ℕ). (column, default_value_at version column)))

  given_says : (p q : Pair) (e : ElementDef) (primary : List Value) (columns : List ℕ) → map.get pairs q.0 ≡ Some q.1 → element_at version e.number ≡ Some e → e.kind ≡ Index columns
      → key_read q.0 ≡ Some (Exists e.table primary) → is_same_pair (given version e (row_at version pairs e.table primary)) p ≡ true → Hit p q e
  given_says p q e primary columns there at kind names is =
      let exists : HasExistsPair pairs (e.table, primary) = record { key = q.0; value = q.1; there = there; names = names } in
      let encoded = read_is_encoded version pairs e.table primary sound exists in
      let cells : Cells = read_cells version pairs e.table primary sound in
      let own : Bytes = index_pair e.number (with_default_values version columns) (e.table, primary) cells in
      let same : (bytes_eq own p.0 && bytes_eq [] p.1) ≡ true = ap (λ (o : Option Pair). is_same_pair o p) (sym (given_by_index version pairs sound e columns kind primary)) ∙ is in
      let key : p.0 ≡ own = sym ((bytes_eq-Decides own p.0).0 (left_true (bytes_eq own p.0) (bytes_eq [] p.1) same)) in
      let empty : p.1 ≡ [] = sym ((bytes_eq-Decides [] p.1).0 (right_true (bytes_eq own p.0) (bytes_eq [] p.1) same)) in
      let values : List Value = indexed (with_default_values version columns) cells ++ primary in
      let form : IsKey (IndexKey e.number values) =
      index_is_key e.number (with_default_values version columns) (lawful_index version sound pairs strings e.number e columns at kind) (e.table, primary) cells (encoded_storable pairs strings version (e.table, primary) cells encoded) in
      let reads : key_read p.0 ≡ Some (IndexKey e.number values) = ap key_read key ∙ ap found (key_again (IndexKey e.number values) form) in
      record {
        primary = primary;
        row_key = (key_form pairs strings q.0 q.1 there (Exists e.table primary) names).1;
        number = ap index_number reads;
        behind = ap (λ (o : Option KeyOf). drop (length (indexed_columns e.kind)) (index_values o)) reads ∙ primary_behind e columns kind primary cells;
        reason =
            reason_is version pairs p (key_read p.0) (ap is_index_key reads)
            ∙ reason_from version sound pairs strings p.0 p.1 (IndexPair e.number e columns at kind primary cells encoded key empty);
      }

  pub hit_says : (p q : Pair) (e : ElementDef) → map.get pairs q.0 ≡ Some q.1 → element_at version e.number ≡ Some e → hits p q e ≡ true → Hit p q e
  hit_says p q e there at is = by (key_read q.0) refl is
    where
      by : (o : Option KeyOf) → key_read q.0 ≡ o → hit_by version pairs p e o ≡ true → Hit p q e
      by None names f = absurd (true≢false (sym f))
      by (Some (Column table primary number)) names f = absurd (true≢false (sym f))
      by (Some (IndexKey number values)) names f = absurd (true≢false (sym f))
      by (Some (Exists table primary)) names f =
          let same = is_same_pair (given version e (row_at version pairs table primary)) p in
          let own : ((e.table == table) && is_index e.kind) ≡ true = left_true ((e.table == table) && is_index e.kind) same f in
          let home : table ≡ e.table = sym (eqb-true e.table table (left_true (e.table == table) (is_index e.kind) own)) in
          let kind = index_kind e.kind (right_true (e.table == table) (is_index e.kind) own) in
          given_says p q e primary kind.0 there at kind.1
          (names ∙ ap (λ (t : ℕ). Some (Exists t primary)) home)
          (ap (λ (t : ℕ). is_same_pair (given version e (row_at version pairs t primary)) p) (sym home) ∙ right_true ((e.table == table) && is_index e.kind) same f)

  -- the row and the index that give a pair
  pub record Owner (p : Pair) : Type 0 where
    pub row : Pair
    pub element : ElementDef
    pub there : map.get pairs row.0 ≡ Some row.1
    pub known : element_at version element.number ≡ Some element
    pub hit : hits p row element ≡ true

  pub owner_of : (p : Pair) → map.get pairs p.0 ≡ Some p.1 → has_index_reason p ≡ true → Owner p
  owner_of p there is = by (key_read p.0) refl is
    where
      by_cause : (number : ℕ) (values : List Value) → key_read p.0 ≡ Some (IndexKey number values) → Belongs version pairs p.0 p.1 → Owner p
      by_cause number values names (ExistsPair row other) = absurd (true≢false (ap is_index_key (sym names ∙ other)))
      by_cause number values names (ColumnPair row column other live exists) = absurd (true≢false (ap is_index_key (sym names ∙ other)))
      by_cause number values names (IndexPair n element columns at kind primary cells encoded key_is empty) =
          let own : element.number ≡ n = (sound.elements n element at).own in
          let row : Pair = (encoded.exists.key, encoded.exists.value) in
          record {
            row = row;
            element = element;
            there = encoded.exists.there;
            known = ap (element_at version) own ∙ at;
            hit =
                ap (hit_by version pairs p element) encoded.exists.names
                ∙ both_true ((element.table == element.table) && is_index element.kind) (is_same_pair (given version element (row_at version pairs element.table primary)) p)
                (both_true (element.table == element.table) (is_index element.kind) (eq-eqb element.table element.table refl) (ap is_index kind))
                (ap (λ (o : Option Pair). is_same_pair o p) (given_by_index version pairs sound element columns kind primary)
                ∙ ap (λ (y : Bytes). bytes_eq y p.0 && bytes_eq [] p.1) (same_pair_key version pairs sound n element columns at primary cells encoded ∙ sym key_is)
                ∙ both_true (bytes_eq p.0 p.0) (bytes_eq [] p.1) (same_bytes p.0) ((bytes_eq-Decides [] p.1).1 (sym empty)));
          }

      by : (o : Option KeyOf) → key_read p.0 ≡ o → index_reason version pairs p o ≡ true → Owner p
      by None names f = absurd (true≢false (sym f))
      by (Some (Exists table primary)) names f = absurd (true≢false (sym f))
      by (Some (Column table primary number)) names f = absurd (true≢false (sym f))
      by (Some (IndexKey number values)) names f =
          by_cause number values names (index_says version sound pairs strings number values p.0 p.1 names (key_form pairs strings p.0 p.1 there (IndexKey number values) names).0.1.values f)

  -- a pair is given by one index, and one row
  pub one_element : (p q r : Pair) (e f : ElementDef) → element_at version e.number ≡ Some e → element_at version f.number ≡ Some f → Hit p q e → Hit p r f → e ≡ f
  one_element p q r e f at_e at_f one two = same_Some e f (sym at_e ∙ ap (element_at version) (sym one.number ∙ two.number) ∙ at_f)

  pub one_row : (p q r : Pair) (e f : ElementDef) → e ≡ f → Hit p q e → Hit p r f → q.0 ≡ r.0
  one_row p q r e f same one two =
      let primaries : one.primary ≡ two.primary = sym one.behind ∙ ap (λ (d : ElementDef). drop (length (indexed_columns d.kind)) (index_values (key_read p.0))) same ∙ two.behind in
      one.row_key ∙ ap (λ (d : ElementDef). row_code d.table one.primary 0) same ∙ ap (λ (vs : List Value). row_code f.table vs 0) primaries ∙ sym two.row_key
