-- Where each pair is one that a version allows, the pairs agree with the version and the rows that they store.
use Rattle.std.specs.Prelude.{◌≡◌, not, ℕ, zero, suc, ◌<◌, ◌≤◌, ◌^◌, ◌==◌, ◌&&◌, Bool, true, false, IsTrue, cond, eqb, List, [], ◌∷◌, length, drop, Option, Some, None, Result, Ok, Err, option_map, filter_map, bytes_eq, refl}
use Rattle.std.specs.List.{AllByRecursion, cons_option}
use Rattle.std.specs.Cmp.{nat_cmp_total}
use Rattle.std.specs.FinMap as map
use Rattle.std.specs.FinMap.{nat_cmp-IsAntisymmetric}
use Rattle.std.specs.FinMap.Entries as list
use Rattle.std.specs.Ordering.{nat_cmp, eq_by_cmp}
use mathlib.Core.List.{map as each}
use Rattle.std.proofs.Common.{sym, ap, subst, ◌∙◌, arith, eqb-true, eq-eqb, true≢false}
use Rattle.std.proofs.lemmas.List.{nil_from_length}
use Rattle.std.proofs.lemmas.Slice.Eq.{bytes_eq-Decides}
use Rattle.keycode.specs.declared.fault.KeyFault.{KeyFault}
use Rattle.keycode.specs.declared.value.Value.{Value}
use Rattle.keycode.specs.Valid.{IsStorable, AreValues, AreShort}
use Rattle.keycode.proofs.Fields.{IsBytes}
use Rattle.keycode.proofs.Orders.{bytes_cmp-IsAntisymmetric}
use Rattle.row_map.specs.declared.key.KeyOf.{KeyOf}
use Rattle.row_map.specs.declared.key.KeyOf.TheVariants.{Exists, Column, Index}
use Rattle.row_map.specs.declared.shape.ColumnType.{ColumnType}
use Rattle.row_map.specs.Cell.{IsTypedEncoding}
use Rattle.row_map.specs.Keys.{IsKey}
use Rattle.row_map.specs.ReadKey.{key_at}
use Rattle.row_map.specs.Rows.{Bytes, RowKey, Cells, Rows, Pairs}
use Rattle.row_map.specs.Shape.{has_type}
use Rattle.row_map.proofs.Cells.{typed_is}
use Rattle.row_map.proofs.Entries.{each_entry}
use Rattle.row_map.proofs.KeyLaws.{key_again}
use Rattle.schema_version.specs.declared.element.ElementState.{ElementState}
use Rattle.schema_version.specs.declared.element.ElementState.TheVariants.{Absent, DeleteOnly, WriteOnly, Public}
use Rattle.schema_version.specs.declared.element.ElementDef.{ElementDef}
use Rattle.schema_version.specs.Sound.{IsSoundVersion}
use Rattle.schema_version.specs.Version.{Version, Table, table_at, element_at, live, is_public, type_of_kind, indexed_columns}
use Rattle.schema_version.proofs.Live.{IsLeast, first_is_least, element_at-lookup}
use Rattle.element_state.specs.Column.{column_pair}
use Rattle.element_state.specs.Consistent.{IsConsistent, DemandOf, IsLawfulRow, AreLawfulRows}
use Rattle.element_state.specs.Elements.{Meaning, HasForm, AreFormed, IsFromScratch, Subset, CoveredAt, Exact, Demand, owner, owner_read}
use Rattle.element_state.specs.Exists.{exists_meaning, row_key}
use Rattle.element_state.specs.Kinds.{kind_meaning, kind_numbered}
use Rattle.element_state.specs.Operations.{cells_of}
use Rattle.element_state.specs.Sources.{source_in}
use Rattle.element_state.specs.Tables.{within, some_in}
use Rattle.element_state.specs.lemmas.Apart.{none_some, some_one}
use Rattle.element_state.specs.lemmas.Clears.{both_true, left_true, right_true}
use Rattle.audit.specs.Audit.{Pair, is_absent, differs, is_same_pair, numbered}
use Rattle.audit.specs.Encoded.{found, key_read, is_row}
use Rattle.audit.specs.Meaning.{AreByteStrings, HasExistsPair}
use Rattle.audit.proofs.Exists.{key_form, row_says}
use Rattle.audit.proofs.LastMet.{values_behind}
use Rattle.audit.proofs.Zero.{all_found, values_all, zero_count}
use Rattle.replay.proofs.Soundness.{small}
use Rattle.checkpoint.specs.Stored.{is_stored, stored_type, value_of_pair, stored_by, stored_in, with_value, stored_among, stored_cells, stored_rows}
use Rattle.checkpoint.proofs.Stored.{stored_get}
use Rattle.checkpoint.proofs.Rows.{row_at, key_in}
use Rattle.checkpoint_check.specs.inner.Beside.{HaveSameKinds}
use Rattle.checkpoint_check.specs.inner.Judged.{cell_by, stored_cell, stored_row, pair_by, own_pair, lacks, is_key_for, key_columns, count_lacking, is_good_row, is_given, is_column_pair, is_index_pair, judged_by, IsGood, AreGood}

bytes_of : (bytes : Bytes) → AllByRecursion (λ b. b < 2 ^ 8) bytes → IsBytes bytes
bytes_of [] all i = omega arith
bytes_of (b ∷ bytes) all zero = all.0
bytes_of (b ∷ bytes) all (suc i) = bytes_of bytes all.1 i

-- ---- the row that is read is the one that is stored

module _ (P : Pairs) (key : RowKey) where
  cells_among : (es : List (ℕ × ElementDef)) → AllByRecursion (λ (e : ℕ × ElementDef). e.1.number ≡ e.0) es → (n : ℕ)
      → list.find nat_cmp n (filter_map (stored_cell P key.0 key.1) (each (λ (e : ℕ × ElementDef). e.1) es)) ≡ map.get (stored_among P key es) n
  cells_among [] own n = sym (map.get-empty nat_cmp n)
  cells_among (e ∷ es) own n = by (stored_type key.0 e.1) (cells_among es own.1 n)
    where
      rest : List (ℕ × Value)
      rest = filter_map (stored_cell P key.0 key.1) (each (λ (e : ℕ × ElementDef). e.1) es)

      with_one : (o : Option Value) → list.find nat_cmp n rest ≡ map.get (stored_among P key es) n → list.find nat_cmp n (cons_option (option_map (λ (v : Value). (e.0, v)) o) rest) ≡ map.get (with_value e.0 o (stored_among P key es)) n
      with_one None before = before
      with_one (Some v) before =
          ap (λ (r : Option Value). cond (eq_by_cmp nat_cmp n e.0) (Some v) r) before
          ∙ sym (map.get-insert nat_cmp_total (stored_among P key es) e.0 v n)

      by : (o : Option ColumnType) → list.find nat_cmp n rest ≡ map.get (stored_among P key es) n → list.find nat_cmp n (cons_option (cell_by P key.0 key.1 e.1.number o) rest) ≡ map.get (with_value e.0 (stored_by P key e.0 o) (stored_among P key es)) n
      by None before = before
      by (Some type) before = ap (λ (m : ℕ). list.find nat_cmp n (cons_option (cell_by P key.0 key.1 m (Some type)) rest)) own.0 ∙ with_one (value_of_pair type (map.get P (column_pair e.0 key))) before

pub row_cells : (newest : Version) → IsSoundVersion newest → (P : Pairs) (key : RowKey) → cells_of (stored_row newest P key.0 key.1) ≡ stored_cells newest P key
row_cells newest sound P key = map.same_map nat_cmp_total nat_cmp-IsAntisymmetric _ _ (λ n.
    map.get-from_entries nat_cmp_total (filter_map (stored_cell P key.0 key.1) (live newest)) n
    ∙ cells_among P key (map.entries newest.elements) (each_entry nat_cmp nat_cmp_total nat_cmp-IsAntisymmetric (λ n (e : ElementDef). e.number ≡ n) newest.elements (λ n e is. (sound.elements n e is).own)) n)

-- ---- tests

same_says : (o : Option Pair) (x w : Bytes) → is_same_pair o (x, w) ≡ true → o ≡ Some (x, w)
same_says None x w e = absurd (true≢false (sym e))
same_says (Some own) x w e = λ i. Some (
  (bytes_eq-Decides own.0 x).0 (left_true (bytes_eq own.0 x) (bytes_eq own.1 w) e) i,
  (bytes_eq-Decides own.1 w).0 (right_true (bytes_eq own.0 x) (bytes_eq own.1 w) e) i,
)

pub pair_says : (m : Meaning) (k : RowKey) (r : Cells) (x w : Bytes) → pair_by m k r ≡ Some (x, w) → (m.pair_key k r ≡ x) × (m.pair_value k r ≡ Some w)
pair_says m k r x w e = by (m.pair_value k r) refl e
  where
    by : (o : Option Bytes) → m.pair_value k r ≡ o → option_map {U = Pair} (λ (v : Bytes). (m.pair_key k r, v)) o ≡ Some (x, w) → (m.pair_key k r ≡ x) × (m.pair_value k r ≡ Some w)
    by None is f = absurd (none_some (x, w) f)
    by (Some v) is f =
        let same : Path Pair (m.pair_key k r, v) (x, w) = some_one (m.pair_key k r, v) (x, w) f in
        (ap (λ (p : Pair). p.0) same, is ∙ ap (λ (p : Pair). Some p.1) same)

present_says : (P : Pairs) (x w : Bytes) → is_absent P (Some (x, w)) ≡ false → map.get P x ≡ Some w
present_says P x w e = by (map.get P x) refl e
  where
    equal : (a b : Bytes) (c : Bool) → bytes_eq a b ≡ c → not c ≡ false → a ≡ b
    equal a b true is none = (bytes_eq-Decides a b).0 is
    equal a b false is none = absurd (true≢false none)

    by : (o : Option Bytes) → map.get P x ≡ o → differs o w ≡ false → map.get P x ≡ Some w
    by None is f = absurd (true≢false f)
    by (Some v) is f = is ∙ ap Some (equal v w (bytes_eq v w) refl f)

storables : (vs : List Value) → AreValues vs → AreShort vs → AllByRecursion IsStorable vs
storables [] values short = tt
storables (v ∷ vs) values short = ((values.0, short.0), storables vs values.1 short.1)

chosen : {A : Type 0} (b : Bool) (o : Option A) (v : A) → cond b o None ≡ Some v → o ≡ Some v
chosen true o v e = e
chosen false o v e = absurd (none_some v e)

module _ (version newest : Version) (sound : IsSoundVersion version) (sound_newest : IsSoundVersion newest) (same_kinds : HaveSameKinds version newest) (P : Pairs) (good : AreGood version newest P (map.entries P)) where
  abbrev pub S : Rows
  S = stored_rows newest P

  pair_good : (x w : Bytes) → map.get P x ≡ Some w → IsGood version newest P (x, w)
  pair_good = all_found bytes_cmp-IsAntisymmetric (λ (x w : Bytes). IsGood version newest P (x, w)) P good

  strings : AreByteStrings P
  strings x w there = (pair_good x w there).0

  pub forms : AreFormed P
  forms x w there = by (key_read x) refl (pair_good x w there).1
    where
      by : (o : Option KeyOf) → key_read x ≡ o → judged_by version newest P (x, w) o ≡ true → HasForm x
      by None names is = absurd (true≢false (sym is))
      by (Some k) names is = let f = key_form P strings x w there k names in record { key = k; form = f.0; encoded = f.1 }

  -- ---- rows

  row_there : (k : RowKey) (w : Bytes) → IsKey (Exists k.0 k.1) → map.get P (row_key k) ≡ Some w → map.get S k ≡ Some (stored_cells newest P k)
  row_there k w form there = row_at newest P forms k form ∙ ap (option_map (λ _. stored_cells newest P k)) there

  pub record IsStoredRow (k : RowKey) (r : Cells) : Type 0 where
    pub form : IsKey (Exists k.0 k.1)
    pub value : Bytes
    pub there : map.get P (row_key k) ≡ Some value
    pub cells : r ≡ stored_cells newest P k
    pub good_row : is_good_row version newest P k.0 k.1 value ≡ true

  pub row_is : (k : RowKey) (r : Cells) → map.get S k ≡ Some r → IsStoredRow k r
  row_is k r at = by (map.get P (row_key k)) refl
    where
      form : IsKey (Exists k.0 k.1)
      form = key_in newest P forms k r at

      by : (o : Option Bytes) → map.get P (row_key k) ≡ o → IsStoredRow k r
      by None none = absurd (none_some r (sym (row_at newest P forms k form ∙ ap (option_map (λ _. stored_cells newest P k)) none) ∙ at))
      by (Some w) there = record {
        form = form;
        value = w;
        there = there;
        cells = some_one r (stored_cells newest P k) (sym at ∙ row_there k w form there);
        good_row =
            sym (ap (judged_by version newest P (row_key k, w)) (ap found (key_again (Exists k.0 k.1) form)))
            ∙ (pair_good (row_key k) w there).1;
      }

  -- ---- what a good row is

  module _ (k : RowKey) (r : Cells) (s : IsStoredRow k r) where
    abbrev is_empty : Bool
    is_empty = length s.value == 0

    abbrev is_key : Bool
    is_key = is_key_for (key_columns version k.0) k.1

    abbrev has_all : Bool
    has_all = count_lacking version newest P k.0 k.1 == 0

    empty : s.value ≡ []
    empty = nil_from_length s.value (eqb-true (length s.value) 0 (left_true is_empty is_key (left_true (is_empty && is_key) has_all s.good_row)))

    keyed : is_key ≡ true
    keyed = right_true is_empty is_key (left_true (is_empty && is_key) has_all s.good_row)

    lacks_none : (n : ℕ) (e : ElementDef) → element_at version n ≡ Some e → lacks version P k.0 (stored_row newest P k.0 k.1) e ≡ false
    lacks_none n e at =
        all_found nat_cmp-IsAntisymmetric (λ (n : ℕ) (e : ElementDef). lacks version P k.0 (stored_row newest P k.0 k.1) e ≡ false) version.elements
        (values_all (λ (e : ElementDef). lacks version P k.0 (stored_row newest P k.0 k.1) e ≡ false) (map.entries version.elements)
        (zero_count (lacks version P k.0 (stored_row newest P k.0 k.1)) (live version)
        (eqb-true (count_lacking version newest P k.0 k.1) 0 (right_true (is_empty && is_key) has_all s.good_row))))
        n e at

  -- ---- pairs of elements

  numbered_says : (number : ℕ) (element : ElementDef) → numbered version number ≡ Some element → element_at version number ≡ Some element
  numbered_says number element e =
      let least : IsLeast (λ (element : ElementDef). element.number == number) (map.entries version.elements) element = first_is_least (λ (element : ElementDef). element.number == number) (map.entries version.elements) element (map.entries_sorted version.elements) e in
      let at : element_at version least.number ≡ Some element = element_at-lookup version least.number ∙ least.found in
      ap (element_at version) (sym (eqb-true element.number number least.passes) ∙ (sound.elements least.number element at).own) ∙ at

  record Given (number : ℕ) (x w : Bytes) : Type 0 where
    element : ElementDef
    at : element_at version number ≡ Some element
    primary : List Value
    values : AreValues primary
    given : is_given version newest P primary (x, w) element ≡ true

  -- whose key it is, and what is known of the pair by it
  given_of : (number : ℕ) → 1 ≤ number → (x w : Bytes) → owner x ≡ Some number → map.get P x ≡ Some w → Given number x w
  given_of number some x w own there = by (key_at x) refl own (pair_good x w there).1
    where
      at_element : (primary : List Value) (o : Option ElementDef) → numbered version number ≡ o → AreValues primary → (e : ElementDef) → o ≡ Some e → is_given version newest P primary (x, w) e ≡ true → Given number x w
      at_element primary o is values e here given = record { element = e; at = numbered_says number e (is ∙ here); primary = primary; values = values; given = given }

      in_column : (primary : List Value) (o : Option ElementDef) → numbered version number ≡ o → AreValues primary → is_column_pair version newest P primary (x, w) o ≡ true → Given number x w
      in_column primary None is values given = absurd (true≢false (sym given))
      in_column primary (Some e) is values given = at_element primary (Some e) is values e refl given

      in_index : (values : List Value) (o : Option ElementDef) → numbered version number ≡ o → AreValues values → is_index_pair version newest P values (x, w) o ≡ true → Given number x w
      in_index values None is are given = absurd (true≢false (sym given))
      in_index values (Some e) is are given =
          at_element (drop (length (indexed_columns e.kind)) values) (Some e) is (values_behind (length (indexed_columns e.kind)) values are) e refl given

      by : (r : Result KeyOf KeyFault) → key_at x ≡ r → owner_read r ≡ Some number → judged_by version newest P (x, w) (found r) ≡ true → Given number x w
      by (Err fault) is names judgement = absurd (true≢false (sym judgement))
      by (Ok (Exists table primary)) is names judgement = absurd (omega (arith, some, some_one 0 number names))
      by (Ok (Column table primary n)) is names judgement =
          let same : n ≡ number = some_one n number names in
          in_column primary (numbered version number) refl (key_form P strings x w there (Column table primary n) (ap found is)).0.1.values
          (ap (λ (m : ℕ). is_column_pair version newest P primary (x, w) (numbered version m)) (sym same) ∙ judgement)
      by (Ok (Index n values)) is names judgement =
          let same : n ≡ number = some_one n number names in
          in_index values (numbered version number) refl (key_form P strings x w there (Index n values) (ap found is)).0.1.values
          (ap (λ (m : ℕ). is_index_pair version newest P values (x, w) (numbered version m)) (sym same) ∙ judgement)

  -- ---- elements

  module _ (number : ℕ) (some : 1 ≤ number) (e : ElementDef) (at : element_at version number ≡ Some e) where
    abbrev pub m : Meaning
    m = kind_meaning number (source_in version e.kind)

    pub own_is : (primary : List Value) → own_pair version e (stored_row newest P e.table primary) ≡ pair_by m (e.table, primary) (stored_cells newest P (e.table, primary))
    own_is primary =
        ap (λ (n : ℕ). pair_by (kind_meaning n (source_in version e.kind)) (e.table, primary) (cells_of (stored_row newest P e.table primary))) (sound.elements number e at).own
        ∙ ap (pair_by m (e.table, primary)) (row_cells newest sound_newest P (e.table, primary))

    scratch : (x w : Bytes) (primary : List Value) → AreValues primary → is_given version newest P primary (x, w) e ≡ true → IsFromScratch (within e.table m) S x w
    scratch x w primary values given =
        let here = is_row P e.table primary in
        let same = is_same_pair (own_pair version e (stored_row newest P e.table primary)) (x, w) in
        let below : e.table < 2 ^ 32 = (small version sound e.table (sound.elements number e at).placed.0 (sound.elements number e at).placed.1).0 in
        let row : HasExistsPair P (e.table, primary) = row_says P strings e.table primary below values (left_true here same given) in
        let form = key_form P strings row.key row.value row.there (Exists e.table primary) row.names in
        let p = pair_says m (e.table, primary) (stored_cells newest P (e.table, primary)) x w (sym (own_is primary) ∙ same_says (own_pair version e (stored_row newest P e.table primary)) x w (right_true here same given)) in
        record {
          key = (e.table, primary);
          cells = stored_cells newest P (e.table, primary);
          there = row_there (e.table, primary) row.value form.0 (ap (map.get P) (sym form.1) ∙ row.there);
          key_is = p.0;
          value_is = ap (λ b. cond b (m.pair_value (e.table, primary) (stored_cells newest P (e.table, primary))) None) (eq-eqb e.table e.table refl) ∙ p.1;
        }

    subset : Subset (within e.table m) P S
    subset x w own there =
        let g : Given number x w = given_of number some x w (own ∙ ap Some (kind_numbered number (source_in version e.kind))) there in
        scratch x w g.primary g.values (ap (is_given version newest P g.primary (x, w)) (some_one e g.element (sym at ∙ g.at)) ∙ g.given)

    -- the pair of a row is there if the look-up finds it
    pub there_if : (k : RowKey) (r : Cells) (v : Bytes) → IsStoredRow k r → (within e.table m).pair_value k r ≡ Some v → (k.0 ≡ e.table → is_absent P (own_pair version e (stored_row newest P k.0 k.1)) ≡ false) → map.get P (m.pair_key k r) ≡ Some v
    there_if k r v s val present =
        let inside = some_in (eqb k.0 e.table) (m.pair_value k r) v val in
        let home : k.0 ≡ e.table = eqb-true k.0 e.table inside.0 in
        let pair : own_pair version e (stored_row newest P k.0 k.1) ≡ Some (m.pair_key k r, v) =
        ap (λ (t : ℕ). own_pair version e (stored_row newest P t k.1)) home
        ∙ own_is k.1
        ∙ ap (λ (t : ℕ). pair_by m (t, k.1) (stored_cells newest P (t, k.1))) (sym home)
        ∙ ap (pair_by m k) (sym s.cells)
        ∙ ap (option_map {U = Pair} (λ (v : Bytes). (m.pair_key k r, v))) inside.1 in
        present_says P (m.pair_key k r) v (sym (ap (is_absent P) pair) ∙ present home)

    covered : e.state ≡ Public → (k : RowKey) → CoveredAt (within e.table m) P S k
    covered public k r v there val =
        let s : IsStoredRow k r = row_is k r there in
        there_if k r v s val (λ home.
        let tested : ((e.table == k.0) && is_public e.state) ≡ true = both_true (e.table == k.0) (is_public e.state) (eq-eqb e.table k.0 (sym home)) (ap is_public public) in
        sym (ap (λ b. b && is_absent P (own_pair version e (stored_row newest P k.0 k.1))) tested) ∙ lacks_none k r s number e at)

    demand : (state : ElementState) → e.state ≡ state → Demand (within e.table m) state P S
    demand Absent is = absurd ((sound.elements number e at).live is)
    demand DeleteOnly is = subset
    demand WriteOnly is = subset
    demand Public is = record { subset = subset; covered = covered is }

  elements : (number : ℕ) → 1 ≤ number → DemandOf version number (element_at version number) P S
  elements number some = by (element_at version number) refl
    where
      no_pair : element_at version number ≡ None → (x : Bytes) → owner x ≡ Some number → (o : Option Bytes) → map.get P x ≡ o → map.get P x ≡ None
      no_pair none x own None is = is
      no_pair none x own (Some w) is = let g : Given number x w = given_of number some x w own is in absurd (none_some g.element (sym none ∙ g.at))

      by : (o : Option ElementDef) → element_at version number ≡ o → DemandOf version number o P S
      by None none = λ x own. no_pair none x own (map.get P x) refl
      by (Some e) at = demand number some e at e.state refl

  -- ---- the `exists` pairs

  exists_subset : Subset exists_meaning P S
  exists_subset x w own there = by (key_at x) refl own (pair_good x w there).1
    where
      by : (r : Result KeyOf KeyFault) → key_at x ≡ r → owner_read r ≡ Some 0 → judged_by version newest P (x, w) (found r) ≡ true → IsFromScratch exists_meaning S x w
      by (Err fault) is names judgement = absurd (true≢false (sym judgement))
      by (Ok (Column table primary n)) is names judgement =
          absurd (omega (arith, some_one n 0 names, (key_form P strings x w there (Column table primary n) (ap found is)).0.2))
      by (Ok (Index n values)) is names judgement = none (numbered version n) refl judgement
        where
          none : (o : Option ElementDef) → numbered version n ≡ o → is_index_pair version newest P values (x, w) o ≡ true → IsFromScratch exists_meaning S x w
          none None at given = absurd (true≢false (sym given))
          none (Some e) at given = absurd (omega (arith, some_one n 0 names, (sound.elements n e (numbered_says n e at)).first))
      by (Ok (Exists table primary)) is names judgement =
          let form = key_form P strings x w there (Exists table primary) (ap found is) in
          let here : map.get S (table, primary) ≡ Some (stored_cells newest P (table, primary)) = row_there (table, primary) w form.0 (ap (map.get P) (sym form.1) ∙ there) in
          let s : IsStoredRow (table, primary) (stored_cells newest P (table, primary)) = row_is (table, primary) (stored_cells newest P (table, primary)) here in
          record {
            key = (table, primary);
            cells = stored_cells newest P (table, primary);
            there = here;
            key_is = sym form.1;
            value_is = ap Some (sym (some_one w s.value (sym there ∙ ap (map.get P) form.1 ∙ s.there) ∙ empty (table, primary) (stored_cells newest P (table, primary)) s));
          }

  exists : Exact exists_meaning P S
  exists = record {
    subset = exists_subset;
    covered = λ k r v at val. let s : IsStoredRow k r = row_is k r at in s.there ∙ ap Some (empty k r s) ∙ val;
  }

  -- ---- values

  record IsStoredValue (k : RowKey) (n : ℕ) (value : Value) : Type 0 where
    element : ElementDef
    at : element_at newest n ≡ Some element
    type : ColumnType
    kind : type_of_kind element.kind ≡ Some type
    bytes : Bytes
    encoding : IsTypedEncoding type bytes value

  value_is : (k : RowKey) (n : ℕ) (value : Value) → map.get (stored_cells newest P k) n ≡ Some value → IsStoredValue k n value
  value_is k n value has = by (element_at newest n) refl (sym (stored_get newest P k n) ∙ has)
    where
      at_bytes : (d : ElementDef) → element_at newest n ≡ Some d → (type : ColumnType) → type_of_kind d.kind ≡ Some type → (o : Option Bytes) → map.get P (column_pair n k) ≡ o → value_of_pair type o ≡ Some value → IsStoredValue k n value
      at_bytes d at type kind None is e = absurd (none_some value e)
      at_bytes d at type kind (Some bytes) is e = record {
        element = d;
        at = at;
        type = type;
        kind = kind;
        bytes = bytes;
        encoding = (typed_is type bytes (bytes_of bytes (strings (column_pair n k) bytes is).1) value).0 e;
      }

      at_type : (d : ElementDef) → element_at newest n ≡ Some d → (o : Option ColumnType) → stored_type k.0 d ≡ o → stored_by P k n o ≡ Some value → IsStoredValue k n value
      at_type d at None is e = absurd (none_some value e)
      at_type d at (Some type) is e = at_bytes d at type (chosen ((d.table == k.0) && is_stored d) (type_of_kind d.kind) type is) (map.get P (column_pair n k)) refl e

      by : (o : Option ElementDef) → element_at newest n ≡ o → stored_in P k n o ≡ Some value → IsStoredValue k n value
      by None at e = absurd (none_some value e)
      by (Some d) at e = at_type d at (stored_type k.0 d) refl e

  lawful : AreLawfulRows version S
  lawful k r at = by (table_at version k.0) refl (keyed k r s)
    where
      s : IsStoredRow k r
      s = row_is k r at

      value_in : (n : ℕ) (value : Value) → map.get r n ≡ Some value → IsStoredValue k n value
      value_in n value has = value_is k n value (ap (λ (y : Cells). map.get y n) (sym s.cells) ∙ has)

      by : (o : Option Table) → table_at version k.0 ≡ o → is_key_for (option_map (λ (t : Table). t.key) o) k.1 ≡ true → IsLawfulRow version k r
      by None none is = absurd (true≢false (sym is))
      by (Some table) known is = record {
        table = table;
        known = known;
        primary = (is, storables k.1 s.form.1.values s.form.1.short);
        types = λ n element type value there kind has.
            let v : IsStoredValue k n value = value_in n value has in
            let same : v.type ≡ type = some_one v.type type (sym v.kind ∙ ap type_of_kind (sym (same_kinds n element v.element there v.at)) ∙ kind) in
            subst (λ t. IsTrue (has_type t value)) same v.encoding.typed;
        values = λ n value has.
            let v : IsStoredValue k n value = value_in n value has in
            (v.encoding.storable, λ null. true≢false (sym v.encoding.typed ∙ ap (has_type v.type) null));
      }

  pub consistent : IsConsistent version S P
  consistent = record { elements = elements; exists = exists; forms = forms; lawful = lawful }
