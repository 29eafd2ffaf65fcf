-- Where the pairs agree with a version and the rows that they store, each pair is one that the version allows.
use Rattle.std.specs.Prelude.{◌≡◌, not, ℕ, zero, suc, ◌<◌, ◌≤◌, ◌^◌, ◌==◌, ◌&&◌, Bool, true, false, cond, eqb, List, [], ◌++◌, length, drop, Option, Some, None, option_map, bytes_eq, refl}
use Rattle.std.specs.Cmp.{nat_cmp_total}
use Rattle.std.specs.FinMap as map
use Rattle.std.specs.FinMap.{nat_cmp-IsAntisymmetric}
use Rattle.std.specs.Ordering.{nat_cmp}
use Rattle.std.proofs.Common.{sym, ap, subst, ◌∙◌, arith, eqb-true, eq-eqb, true≢false}
use Rattle.keycode.specs.declared.value.Value.{Value}
use Rattle.keycode.specs.Order.{bytes_cmp}
use Rattle.keycode.proofs.Orders.{bytes_cmp-IsAntisymmetric}
use Rattle.row_map.specs.declared.key.KeyOf.{KeyOf}
use Rattle.row_map.specs.declared.key.KeyOf.TheVariants.{Exists, Column, Index}
use Rattle.row_map.specs.Keys.{IsKey, key_code}
use Rattle.row_map.specs.Rows.{Bytes, RowKey, Cells, Rows, Pairs}
use Rattle.row_map.proofs.Entries.{each_entry}
use Rattle.row_map.proofs.KeyLaws.{key_again}
use Rattle.schema_version.specs.declared.element.ElementState.{ElementState}
use Rattle.schema_version.specs.declared.element.ElementState.TheVariants.{Absent, DeleteOnly, WriteOnly, Public}
use Rattle.schema_version.specs.declared.element.ElementDef.{ElementDef}
use Rattle.schema_version.specs.Sound.{IsSoundVersion}
use Rattle.schema_version.specs.Version.{Version, Table, element_at, live, is_public, indexed_columns}
use Rattle.schema_version.proofs.Live.{IsLeast, first_is_least, element_at-lookup}
use Rattle.element_state.specs.Consistent.{IsConsistent, DemandOf, IsLawfulRow}
use Rattle.element_state.specs.Elements.{Meaning, IsFromScratch, Subset, CoveredAt, Demand, owner}
use Rattle.element_state.specs.Exists.{exists_meaning, row_key}
use Rattle.element_state.specs.Kinds.{kind_meaning, kind_numbered}
use Rattle.element_state.specs.Operations.{cells_of}
use Rattle.element_state.specs.Sources.{source_in}
use Rattle.element_state.specs.Tables.{within, some_in}
use Rattle.element_state.specs.lemmas.Apart.{none_some, some_one}
use Rattle.element_state.specs.lemmas.Clears.{both_true, left_true, right_true}
use Rattle.audit.specs.Audit.{Pair, is_absent, differs, is_same_pair, numbered}
use Rattle.audit.specs.Encoded.{found, key_read, is_row}
use Rattle.audit.specs.Meaning.{AreByteStrings}
use Rattle.checkpoint.specs.Stored.{stored_cells, stored_rows}
use Rattle.checkpoint.proofs.Rows.{row_at, key_in}
use Rattle.checkpoint_check.specs.inner.Judged.{stored_row, pair_by, own_pair, lacks, is_key_for, key_columns, count_lacking, is_good_row, is_given, is_column_pair, is_index_pair, judged_by, judged, IsGood, AreGood}
use Rattle.std.proofs.lemmas.List.{drop_at, length-map}
use Rattle.byte_map.proofs.Order.{bytes_cmp_total}
use Rattle.row_map.specs.Rows.{IsStorableRow}
use Rattle.row_map.proofs.KeyLaws.{same_key}
use Rattle.schema_version.specs.declared.element.Kind.{Kind}
use Rattle.schema_version.specs.declared.element.Kind.TheVariants.{Index as IndexKind, Optional, Required}
use Rattle.schema_version.proofs.Live.{none_passes}
use Rattle.element_state.specs.Elements.{owner_named}
use Rattle.element_state.specs.Index.{indexed}
use Rattle.element_state.specs.lemmas.IndexLaws.{index_is_key, indexed_length}
use Rattle.element_state.specs.Sources.{default_value_at}
use Rattle.audit.specs.Meaning.{with_default_values}
use Rattle.audit.proofs.Exists.{row_from}
use Rattle.audit.proofs.Reasons.{lawful_index, same_bytes}
use Rattle.audit.proofs.Zero.{all_values, count_zero}
use Rattle.checkpoint_check.proofs.Consistency.{row_cells, pair_says}

equal_none : (n : ℕ) → n ≡ 0 → (n == 0) ≡ true
equal_none n e = eq-eqb n 0 e

-- what a key of a row's pair names
abbrev table_in : KeyOf → ℕ
table_in (Exists table primary) = table
table_in (Column table primary column) = table
table_in (Index number values) = 0

abbrev values_in : KeyOf → List Value
values_in (Exists table primary) = primary
values_in (Column table primary column) = primary
values_in (Index number values) = values

abbrev is_index_key : KeyOf → Bool
is_index_key (Exists table primary) = false
is_index_key (Column table primary column) = false
is_index_key (Index number values) = true

same_pair : (x w : Bytes) → is_same_pair (Some (x, w)) (x, w) ≡ true
same_pair x w = both_true (bytes_eq x x) (bytes_eq w w) (same_bytes x) (same_bytes w)

pub not_absent : (P : Pairs) (o : Option Pair) → ((x v : Bytes) → o ≡ Some (x, v) → map.get P x ≡ Some v) → is_absent P o ≡ false
not_absent P None there = refl
not_absent P (Some pair) there =
    ap (λ (o : Option Bytes). differs o pair.1) (there pair.0 pair.1 refl) ∙ ap not (same_bytes pair.1)

module _ (version newest : Version) (sound : IsSoundVersion version) (sound_newest : IsSoundVersion newest) (P : Pairs) (strings : AreByteStrings P) (agree : IsConsistent version (stored_rows newest P) P) where
  abbrev S : Rows
  S = stored_rows newest P

  -- ---- rows

  record IsStoredAt (k : RowKey) (r : Cells) : Type 0 where
    form : IsKey (Exists k.0 k.1)
    there : map.get P (row_key k) ≡ Some []
    cells : r ≡ stored_cells newest P k

  stored_at : (k : RowKey) (r : Cells) → map.get S k ≡ Some r → IsStoredAt k r
  stored_at k r at =
      let form : IsKey (Exists k.0 k.1) = key_in newest P agree.forms k r at in
      let there : map.get P (row_key k) ≡ Some [] = agree.exists.covered k r [] at refl in
      record {
        form = form;
        there = there;
        cells = some_one r (stored_cells newest P k) (sym at ∙ row_at newest P agree.forms k form ∙ ap (option_map (λ _. stored_cells newest P k)) there);
      }

  held : (k : RowKey) (r : Cells) → map.get S k ≡ Some r → IsStorableRow k r
  held k r at =
      let s : IsStoredAt k r = stored_at k r at in
      record { table = s.form.0; primary = s.form.1; values = λ n v has. ((agree.lawful k r at).values n v has).0 }

  is_row_there : (k : RowKey) (r : Cells) → map.get S k ≡ Some r → is_row P k.0 k.1 ≡ true
  is_row_there k r at =
      let s : IsStoredAt k r = stored_at k r at in
      row_from P strings k.0 k.1 (record { key = row_key k; value = []; there = s.there; names = ap found (key_again (Exists k.0 k.1) s.form) })

  -- ---- elements

  numbered_is : (number : ℕ) (e : ElementDef) → element_at version number ≡ Some e → numbered version number ≡ Some e
  numbered_is number e at = by (numbered version number) refl
    where
      by : (o : Option ElementDef) → numbered version number ≡ o → numbered version number ≡ Some e
      by None none = absurd (none_passes (λ (element : ElementDef). element.number == number) (map.entries version.elements) number e none (sym (element_at-lookup version number) ∙ at) (eq-eqb e.number number (sound.elements number e at).own))
      by (Some d) is =
          let least : IsLeast (λ (element : ElementDef). element.number == number) (map.entries version.elements) d = first_is_least (λ (element : ElementDef). element.number == number) (map.entries version.elements) d (map.entries_sorted version.elements) is in
          let here : element_at version least.number ≡ Some d = element_at-lookup version least.number ∙ least.found in
          let same : least.number ≡ number = sym (sound.elements least.number d here).own ∙ eqb-true d.number number least.passes in
          is ∙ sym here ∙ ap (element_at version) same ∙ at

  module _ (number : ℕ) (e : ElementDef) (at : element_at version number ≡ Some e) where
    abbrev m : Meaning
    m = kind_meaning number (source_in version e.kind)

    own_is : (primary : List Value) → own_pair version e (stored_row newest P e.table primary) ≡ pair_by m (e.table, primary) (stored_cells newest P (e.table, primary))
    own_is primary =
        ap (λ (n : ℕ). pair_by (kind_meaning n (source_in version e.kind)) (e.table, primary) (cells_of (stored_row newest P e.table primary))) (sound.elements number e at).own
        ∙ ap (pair_by m (e.table, primary)) (row_cells newest sound_newest P (e.table, primary))

    some : 1 ≤ number
    some = (sound.elements number e at).first

    demand : Demand (within e.table m) e.state P S
    demand = subst (λ o. DemandOf version number o P S) at (agree.elements number some)

    subset : Subset (within e.table m) P S
    subset = by e.state refl demand
      where
        by : (q : ElementState) → e.state ≡ q → Demand (within e.table m) q P S → Subset (within e.table m) P S
        by Absent is d = absurd ((sound.elements number e at).live is)
        by DeleteOnly is d = d
        by WriteOnly is d = d
        by Public is d = d.subset

    covered : e.state ≡ Public → (k : RowKey) → CoveredAt (within e.table m) P S k
    covered public k = (subst (λ (q : ElementState). Demand (within e.table m) q P S) public demand).covered k

    given_by : (x w : Bytes) (f : IsFromScratch (within e.table m) S x w) → is_given version newest P f.key.1 (x, w) e ≡ true
    given_by x w f =
        let s : IsStoredAt f.key f.cells = stored_at f.key f.cells f.there in
        let inside = some_in (eqb f.key.0 e.table) (m.pair_value f.key f.cells) w f.value_is in
        let home : f.key.0 ≡ e.table = eqb-true f.key.0 e.table inside.0 in
        let pair : own_pair version e (stored_row newest P e.table f.key.1) ≡ Some (x, w) =
        own_is f.key.1
        ∙ ap (λ (t : ℕ). pair_by m (t, f.key.1) (stored_cells newest P (t, f.key.1))) (sym home)
        ∙ ap (pair_by m f.key) (sym s.cells)
        ∙ ap (option_map {U = Pair} (λ (v : Bytes). (m.pair_key f.key f.cells, v))) inside.1
        ∙ ap (λ (y : Bytes). Some (y, w)) f.key_is in
        both_true (is_row P e.table f.key.1) (is_same_pair (own_pair version e (stored_row newest P e.table f.key.1)) (x, w))
        (ap (λ (t : ℕ). is_row P t f.key.1) (sym home) ∙ is_row_there f.key f.cells f.there)
        (ap (λ o. is_same_pair o (x, w)) pair ∙ same_pair x w)

    below : number < 2 ^ 24
    below = omega (arith, (sound.elements number e at).given, sound.few_elements)

    -- the key of the pair that an element gives a row
    abbrev named_by : RowKey → Cells → Kind → KeyOf
    named_by k r (IndexKind columns) = Index number (indexed (with_default_values version columns) r ++ k.1)
    named_by k r (Optional type) = Column k.0 k.1 number
    named_by k r (Required type fallback) = Column k.0 k.1 number

    named_form : (k : RowKey) (r : Cells) → map.get S k ≡ Some r → (kind : Kind) → e.kind ≡ kind → IsKey (named_by k r kind)
    named_form k r there (IndexKind columns) is = index_is_key number (with_default_values version columns) (lawful_index version sound P strings number e columns at is) k r (held k r there)
    named_form k r there (Optional type) is = ((held k r there).table, (held k r there).primary, omega (arith, some), below)
    named_form k r there (Required type fallback) is = ((held k r there).table, (held k r there).primary, omega (arith, some), below)

    named_code : (k : RowKey) (r : Cells) (kind : Kind) → (kind_meaning number (source_in version kind)).pair_key k r ≡ key_code (named_by k r kind)
    named_code k r (IndexKind columns) = refl
    named_code k r (Optional type) = refl
    named_code k r (Required type fallback) = refl

    named_is : (x w : Bytes) (f : IsFromScratch (within e.table m) S x w) (key : KeyOf) → IsKey key → x ≡ key_code key → (kind : Kind) → e.kind ≡ kind → named_by f.key f.cells kind ≡ key
    named_is x w f key form encoded kind is =
        same_key (named_by f.key f.cells kind) key (named_form f.key f.cells f.there kind is) form
        (sym (named_code f.key f.cells kind) ∙ ap (λ (k : Kind). (kind_meaning number (source_in version k)).pair_key f.key f.cells) (sym is) ∙ f.key_is ∙ encoded)

    column_given : (x w : Bytes) (f : IsFromScratch (within e.table m) S x w) (table : ℕ) (primary : List Value) → IsKey (Column table primary number) → x ≡ key_code (Column table primary number) → is_given version newest P primary (x, w) e ≡ true
    column_given x w f table primary form encoded = by e.kind refl
      where
        given_at : f.key.1 ≡ primary → is_given version newest P primary (x, w) e ≡ true
        given_at same = ap (λ (p : List Value). is_given version newest P p (x, w) e) (sym same) ∙ given_by x w f

        by : (kind : Kind) → e.kind ≡ kind → is_given version newest P primary (x, w) e ≡ true
        by (IndexKind columns) is = absurd (true≢false (ap is_index_key (named_is x w f (Column table primary number) form encoded (IndexKind columns) is)))
        by (Optional type) is = given_at (ap values_in (named_is x w f (Column table primary number) form encoded (Optional type) is))
        by (Required type fallback) is = given_at (ap values_in (named_is x w f (Column table primary number) form encoded (Required type fallback) is))

    index_given : (x w : Bytes) (f : IsFromScratch (within e.table m) S x w) (values : List Value) → IsKey (Index number values) → x ≡ key_code (Index number values) → is_given version newest P (drop (length (indexed_columns e.kind)) values) (x, w) e ≡ true
    index_given x w f values form encoded = by e.kind refl
      where
        by : (kind : Kind) → e.kind ≡ kind → is_given version newest P (drop (length (indexed_columns e.kind)) values) (x, w) e ≡ true
        by (IndexKind columns) is =
            let all : indexed (with_default_values version columns) f.cells ++ f.key.1 ≡ values = ap values_in (named_is x w f (Index number values) form encoded (IndexKind columns) is) in
            let rest : drop (length (indexed_columns e.kind)) values ≡ f.key.1 =
            ap (λ (k : Kind). drop (length (indexed_columns k)) values) is
            ∙ ap (drop (length columns)) (sym all)
            ∙ drop_at (indexed (with_default_values version columns) f.cells) f.key.1 (length columns) (indexed_length (with_default_values version columns) f.cells ∙ length-map columns (λ (column : ℕ). (column, default_value_at version column))) in
            ap (λ (p : List Value). is_given version newest P p (x, w) e) rest ∙ given_by x w f
        by (Optional type) is = absurd (true≢false (sym (ap is_index_key (named_is x w f (Index number values) form encoded (Optional type) is))))
        by (Required type fallback) is = absurd (true≢false (sym (ap is_index_key (named_is x w f (Index number values) form encoded (Required type fallback) is))))

  -- ---- an element's pair

  from_scratch : (number : ℕ) → 1 ≤ number → (x w : Bytes) → owner x ≡ Some number → map.get P x ≡ Some w → (A : Type 0) → ((e : ElementDef) (at : element_at version number ≡ Some e) → IsFromScratch (within e.table (kind_meaning number (source_in version e.kind))) S x w → A) → A
  from_scratch number some x w own there A then = by (element_at version number) refl
    where
      by : (o : Option ElementDef) → element_at version number ≡ o → A
      by None none = absurd (none_some w (sym (subst (λ o. DemandOf version number o P S) none (agree.elements number some) x own) ∙ there))
      by (Some e) at = then e at (subset number e at x w (own ∙ ap Some (sym (kind_numbered number (source_in version e.kind)))) there)

  -- ---- an `exists` pair

  module _ (k : RowKey) (r : Cells) (at : map.get S k ≡ Some r) where
    s : IsStoredAt k r
    s = stored_at k r at

    lacks_not : (n : ℕ) (e : ElementDef) → element_at version n ≡ Some e → lacks version P k.0 (stored_row newest P k.0 k.1) e ≡ false
    lacks_not n e known = by ((e.table == k.0) && is_public e.state) refl
      where
        public_is : (q : ElementState) → is_public q ≡ true → q ≡ Public
        public_is Absent is = absurd cc
        public_is DeleteOnly is = absurd cc
        public_is WriteOnly is = absurd cc
        public_is Public is = refl

        there : e.table ≡ k.0 → e.state ≡ Public → (x v : Bytes) → own_pair version e (stored_row newest P k.0 k.1) ≡ Some (x, v) → map.get P x ≡ Some v
        there home public x v pair =
            let m = kind_meaning n (source_in version e.kind) in
            let own : pair_by m k r ≡ Some (x, v) =
            ap (pair_by m k) s.cells
            ∙ ap (λ (t : ℕ). pair_by m (t, k.1) (stored_cells newest P (t, k.1))) (sym home)
            ∙ sym (own_is n e known k.1)
            ∙ ap (λ (t : ℕ). own_pair version e (stored_row newest P t k.1)) home
            ∙ pair in
            let p = pair_says m k r x v own in
            ap (map.get P) (sym p.0) ∙ covered n e known public k r v at (ap (λ b. cond b (m.pair_value k r) None) (eq-eqb k.0 e.table (sym home)) ∙ p.1)

        by : (b : Bool) → ((e.table == k.0) && is_public e.state) ≡ b → (b && is_absent P (own_pair version e (stored_row newest P k.0 k.1))) ≡ false
        by false is = refl
        by true is = not_absent P (own_pair version e (stored_row newest P k.0 k.1)) (there (eqb-true e.table k.0 (left_true (e.table == k.0) (is_public e.state) is)) (public_is e.state (right_true (e.table == k.0) (is_public e.state) is)))

    none_lacking : count_lacking version newest P k.0 k.1 ≡ 0
    none_lacking =
        count_zero (lacks version P k.0 (stored_row newest P k.0 k.1)) (live version)
        (all_values (λ (e : ElementDef). lacks version P k.0 (stored_row newest P k.0 k.1) e ≡ false) (map.entries version.elements)
        (each_entry nat_cmp nat_cmp_total nat_cmp-IsAntisymmetric (λ (n : ℕ) (e : ElementDef). lacks version P k.0 (stored_row newest P k.0 k.1) e ≡ false) version.elements lacks_not))

    keyed : is_key_for (key_columns version k.0) k.1 ≡ true
    keyed =
        let row : IsLawfulRow version k r = agree.lawful k r at in
        ap (λ (o : Option Table). is_key_for (option_map (λ (t : Table). t.key) o) k.1) row.known ∙ row.primary.0

    good_row : is_good_row version newest P k.0 k.1 [] ≡ true
    good_row = both_true (is_key_for (key_columns version k.0) k.1) (count_lacking version newest P k.0 k.1 == 0) keyed (equal_none (count_lacking version newest P k.0 k.1) none_lacking)

  exists_good : (x w : Bytes) (table : ℕ) (primary : List Value) → IsKey (Exists table primary) → x ≡ key_code (Exists table primary) → map.get P x ≡ Some w → is_good_row version newest P table primary w ≡ true
  exists_good x w table primary form encoded there =
      let own : owner x ≡ Some 0 = owner_named 0 x (record { key = Exists table primary; form = form; encoded = encoded; names = refl }) in
      let f : IsFromScratch exists_meaning S x w = agree.exists.subset x w own there in
      let s : IsStoredAt f.key f.cells = stored_at f.key f.cells f.there in
      let same : Exists f.key.0 f.key.1 ≡ Exists table primary = same_key (Exists f.key.0 f.key.1) (Exists table primary) s.form form (f.key_is ∙ encoded) in
      ap (λ (key : KeyOf). is_good_row version newest P (table_in key) (values_in key) w) (sym same)
      ∙ ap (is_good_row version newest P f.key.0 f.key.1) (sym (some_one [] w f.value_is))
      ∙ good_row f.key f.cells f.there

  -- ---- any pair

  judged_good : (x w : Bytes) → map.get P x ≡ Some w → judged version newest P (x, w) ≡ true
  judged_good x w there = by (agree.forms x w there).key (agree.forms x w there).form (agree.forms x w there).encoded
    where
      by : (key : KeyOf) → IsKey key → x ≡ key_code key → judged version newest P (x, w) ≡ true
      by (Exists table primary) form encoded =
          ap (judged_by version newest P (x, w)) (ap key_read encoded ∙ ap found (key_again (Exists table primary) form))
          ∙ exists_good x w table primary form encoded there
      by (Column table primary n) form encoded =
          ap (judged_by version newest P (x, w)) (ap key_read encoded ∙ ap found (key_again (Column table primary n) form))
          ∙ from_scratch n (omega (arith, form.2)) x w (owner_named n x (record { key = Column table primary n; form = form; encoded = encoded; names = refl })) there (is_column_pair version newest P primary (x, w) (numbered version n) ≡ true)
          (λ e at f. ap (is_column_pair version newest P primary (x, w)) (numbered_is n e at) ∙ column_given n e at x w f table primary form encoded)
      by (Index n values) form encoded =
          ap (judged_by version newest P (x, w)) (ap key_read encoded ∙ ap found (key_again (Index n values) form))
          ∙ index_good n refl
        where
          index_good : (k : ℕ) → n ≡ k → is_index_pair version newest P values (x, w) (numbered version n) ≡ true
          index_good zero is =
              let own : owner x ≡ Some 0 = owner_named 0 x (record { key = Index n values; form = form; encoded = encoded; names = is }) in
              let f : IsFromScratch exists_meaning S x w = agree.exists.subset x w own there in
              let same : Exists f.key.0 f.key.1 ≡ Index n values = same_key (Exists f.key.0 f.key.1) (Index n values) (stored_at f.key f.cells f.there).form form (f.key_is ∙ encoded) in
              absurd (true≢false (sym (ap is_index_key same)))
          index_good (suc k) is =
              from_scratch n (omega (arith, is)) x w (owner_named n x (record { key = Index n values; form = form; encoded = encoded; names = refl })) there (is_index_pair version newest P values (x, w) (numbered version n) ≡ true)
              (λ e at f. ap (is_index_pair version newest P values (x, w)) (numbered_is n e at) ∙ index_given n e at x w f values form encoded)

  pub all_good : AreGood version newest P (map.entries P)
  all_good = each_entry bytes_cmp bytes_cmp_total bytes_cmp-IsAntisymmetric (λ (x w : Bytes). IsGood version newest P (x, w)) P (λ x w there. (strings x w there, judged_good x w there))
