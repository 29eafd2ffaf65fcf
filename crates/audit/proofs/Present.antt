-- Nothing is missing where each public index and required column has its pair of each row that the
-- pairs encode.
use Rattle.std.proofs.Common.{◌≡◌, ℕ, ◌==◌, ◌&&◌, not, Bool, true, false, List, [], ◌++◌, Option, Some, None, refl, sym, ap, subst, ◌∙◌, eqb-true, eq-eqb, true≢false}
use Rattle.schema_version.specs.declared.element.ElementState.TheVariants.{Public}
use Rattle.std.specs.Prelude.{bytes_eq, sum_by, count_by, unwrap_or}
use Rattle.std.specs.Cmp.{nat_cmp_total}
use Rattle.std.specs.FinMap as map
use Rattle.std.specs.FinMap.{nat_cmp-IsAntisymmetric}
use Rattle.std.specs.Ordering.{nat_cmp}
use Rattle.std.proofs.lemmas.Slice.Eq.{bytes_eq-Decides}
use Rattle.keycode.specs.declared.value.Value.{Value}
use Rattle.keycode.specs.Code.{code}
use Rattle.keycode.specs.Order.{bytes_cmp}
use Rattle.keycode.proofs.Orders.{bytes_cmp_total, bytes_cmp-IsAntisymmetric}
use Rattle.row_map.specs.declared.key.KeyOf.{KeyOf}
use Rattle.row_map.specs.declared.key.KeyOf.TheVariants.{Exists, Column, Index as IndexKey}
use Rattle.row_map.specs.declared.shape.ColumnType.{ColumnType}
use Rattle.row_map.specs.Keys.{row_code, index_code}
use Rattle.row_map.specs.Rows.{Bytes, Cells, Pairs}
use Rattle.row_map.proofs.Entries.{each_entry}
use Rattle.schema_version.specs.declared.element.Kind.{Kind}
use Rattle.schema_version.specs.declared.element.Kind.TheVariants.{Index, Optional, Required}
use Rattle.schema_version.specs.declared.element.ElementDef.{ElementDef}
use Rattle.schema_version.specs.Sound.{IsSoundVersion}
use Rattle.schema_version.specs.Version.{Version, element_at, live, is_public}
use Rattle.element_state.specs.lemmas.Clears.{both_true, left_true, right_true}
use Rattle.element_state.specs.Index.{index_pair}
use Rattle.element_state.specs.Kinds.{kind_meaning}
use Rattle.element_state.specs.Operations.{cells_of, fill_pair}
use Rattle.element_state.specs.Sources.{source_in}
use Rattle.audit.specs.Audit.{given, differs, is_absent, lacks, missing_by, missing_beside}
use Rattle.audit.specs.Meaning.{HasExistsPair, IsEncoded, with_default_values, HasIndexPairs, HasRequiredPairs, NothingIsMissingWhen}
use Rattle.audit.specs.Encoded.{key_read, row_at}
use Rattle.audit.proofs.RowsRead.{public_is, read_cells, read_is_encoded, same_value, same_indexed}
use Rattle.audit.proofs.Zero.{sum_zero, zero_sum, count_zero, zero_count, all_values, values_all, all_found}

same_where_not : (b : Bool) → not b ≡ false → b ≡ true
same_where_not true e = refl
same_where_not false e = absurd (true≢false e)

-- a pair that is not absent is there with just its value
found_there : (o : Option Bytes) (w : Bytes) → differs o w ≡ false → o ≡ Some w
found_there None w e = absurd (true≢false e)
found_there (Some found) w e = ap Some ((bytes_eq-Decides found w).0 (same_where_not (bytes_eq found w) e))

there_found : (o : Option Bytes) (w : Bytes) → o ≡ Some w → differs o w ≡ false
there_found o w e = ap (λ (p : Option Bytes). differs p w) e ∙ ap not ((bytes_eq-Decides w w).1 refl)

-- the code of what a row has in a column, or of the default
abbrev pub code_or : Value → Cells → ℕ → Bytes
code_or fallback cells number = code (unwrap_or (map.get cells number) fallback)

module _ (version : Version) (pairs : Pairs) (sound : IsSoundVersion version) where
  given_by : (element : ElementDef) (kind : Kind) → element.kind ≡ kind → (primary : List Value)
      → given version element (row_at version pairs element.table primary) ≡ fill_pair (kind_meaning element.number (source_in version kind)) (element.table, primary) (cells_of (row_at version pairs element.table primary))
  given_by element kind is primary = ap (λ (k : Kind). fill_pair (kind_meaning element.number (source_in version k)) (element.table, primary) (cells_of (row_at version pairs element.table primary))) is

  -- the pair that an index gives a row
  pub given_by_index : (element : ElementDef) (columns : List ℕ) → element.kind ≡ Index columns → (primary : List Value)
      → given version element (row_at version pairs element.table primary) ≡ Some (index_pair element.number (with_default_values version columns) (element.table, primary) (cells_of (row_at version pairs element.table primary)), [])
  given_by_index element columns kind primary = given_by element (Index columns) kind primary

  -- an optional column gives it none
  pub given_by_optional : (element : ElementDef) (type : ColumnType) → element.kind ≡ Optional type → (primary : List Value) → given version element (row_at version pairs element.table primary) ≡ None
  given_by_optional element type kind primary = given_by element (Optional type) kind primary

  -- and a required column that of its own value or of the default
  pub given_by_required : (element : ElementDef) (type : ColumnType) (fallback : Value) → element.kind ≡ Required type fallback → (primary : List Value)
      → given version element (row_at version pairs element.table primary) ≡ Some (row_code element.table primary element.number, code_or fallback (cells_of (row_at version pairs element.table primary)) element.number)
  given_by_required element type fallback kind primary = given_by element (Required type fallback) kind primary

  -- the index's key of a row, as the audit reads it and as it is encoded
  pub same_pair_key : (number : ℕ) (element : ElementDef) (columns : List ℕ) → element_at version number ≡ Some element → (primary : List Value) (cells : Cells) → IsEncoded version pairs (element.table, primary) cells
      → index_pair element.number (with_default_values version columns) (element.table, primary) (cells_of (row_at version pairs element.table primary)) ≡ index_pair number (with_default_values version columns) (element.table, primary) cells
  same_pair_key number element columns at primary cells encoded =
      ap (λ (n : ℕ). index_pair n (with_default_values version columns) (element.table, primary) (cells_of (row_at version pairs element.table primary))) (sound.elements number element at).own
      ∙ ap (λ (vs : List Value). index_code number (vs ++ primary)) (same_indexed version pairs element.table primary sound (with_default_values version columns) cells encoded)

  -- and what a required column's pair of it holds
  same_pair_value : (number : ℕ) (table : ℕ) (primary : List Value) (cells : Cells) (fallback : Value) → IsEncoded version pairs (table, primary) cells → code_or fallback (read_cells version pairs table primary sound) number ≡ code_or fallback cells number
  same_pair_value number table primary cells fallback encoded =
      ap (λ (o : Option Value). code (unwrap_or o fallback))
      (same_value version pairs table primary sound number cells encoded (map.get cells number) (map.get (read_cells version pairs table primary sound) number) refl refl)

  -- ---- where nothing is missing, the pairs are there

  none_lacks : (table : ℕ) (primary : List Value) (number : ℕ) (element : ElementDef) → sum_by (missing_beside version pairs) (map.entries pairs) ≡ 0 → HasExistsPair pairs (table, primary) → element_at version number ≡ Some element
      → lacks version pairs table (row_at version pairs table primary) element ≡ false
  none_lacks table primary number element none exists at =
      let beside : missing_beside version pairs (exists.key, exists.value) ≡ 0 =
      all_found bytes_cmp-IsAntisymmetric (λ x w. missing_beside version pairs (x, w) ≡ 0) pairs (zero_sum (missing_beside version pairs) (map.entries pairs) none) exists.key exists.value exists.there in
      let none_counted : count_by (lacks version pairs table (row_at version pairs table primary)) (live version) ≡ 0 = sym (ap (missing_by version pairs) exists.names) ∙ beside in
      all_found nat_cmp-IsAntisymmetric (λ n e. lacks version pairs table (row_at version pairs table primary) e ≡ false) version.elements
      (values_all (λ e. lacks version pairs table (row_at version pairs table primary) e ≡ false) (map.entries version.elements) (zero_count (lacks version pairs table (row_at version pairs table primary)) (live version) none_counted))
      number element at

  module _ (none : sum_by (missing_beside version pairs) (map.entries pairs) ≡ 0) where
    not_absent : (number : ℕ) (element : ElementDef) → element_at version number ≡ Some element → element.state ≡ Public → (primary : List Value) → HasExistsPair pairs (element.table, primary)
        → is_absent pairs (given version element (row_at version pairs element.table primary)) ≡ false
    not_absent number element at public primary exists =
        let row = row_at version pairs element.table primary in
        let own : ((element.table == element.table) && is_public element.state) ≡ true = both_true _ _ (eq-eqb element.table element.table refl) (ap is_public public) in
        sym (ap (λ (b : Bool). b && is_absent pairs (given version element row)) own) ∙ none_lacks element.table primary number element none exists at

    has_index_pairs : HasIndexPairs version pairs
    has_index_pairs number element columns at kind public primary cells encoded =
        sym (ap (map.get pairs) (same_pair_key number element columns at primary cells encoded))
        ∙ found_there _ [] (sym (ap (is_absent pairs) (given_by_index element columns kind primary)) ∙ not_absent number element at public primary encoded.exists)

    has_required_pairs : HasRequiredPairs version pairs
    has_required_pairs number element type fallback at kind public primary cells encoded =
        let read = read_cells version pairs element.table primary sound in
        let own : element.number ≡ number = (sound.elements number element at).own in
        sym (ap (λ (n : ℕ). map.get pairs (row_code element.table primary n)) own)
        ∙ found_there _ (code_or fallback read element.number) (sym (ap (is_absent pairs) (given_by_required element type fallback kind primary)) ∙ not_absent number element at public primary encoded.exists)
        ∙ ap (λ (n : ℕ). Some (code_or fallback read n)) own
        ∙ ap Some (same_pair_value number element.table primary cells fallback encoded)

  -- ---- where the pairs are there, nothing is missing

  module _ (has : HasIndexPairs version pairs × HasRequiredPairs version pairs) where
    present : (number : ℕ) (element : ElementDef) → element_at version number ≡ Some element → is_public element.state ≡ true → (primary : List Value) → HasExistsPair pairs (element.table, primary)
        → is_absent pairs (given version element (row_at version pairs element.table primary)) ≡ false
    present number element at public primary exists = by element.kind refl
      where
        by : (k : Kind) → element.kind ≡ k → is_absent pairs (given version element (row_at version pairs element.table primary)) ≡ false
        by (Index columns) kind =
            let encoded = read_is_encoded version pairs element.table primary sound exists in
            ap (is_absent pairs) (given_by_index element columns kind primary)
            ∙ ap (λ (x : Bytes). differs (map.get pairs x) []) (same_pair_key number element columns at primary (read_cells version pairs element.table primary sound) encoded)
            ∙ there_found _ [] (has.0 number element columns at kind (public_is element.state public) primary (read_cells version pairs element.table primary sound) encoded)
        by (Optional type) kind = ap (is_absent pairs) (given_by_optional element type kind primary)
        by (Required type fallback) kind =
            let read = read_cells version pairs element.table primary sound in
            let encoded = read_is_encoded version pairs element.table primary sound exists in
            ap (is_absent pairs) (given_by_required element type fallback kind primary)
            ∙ ap (λ (n : ℕ). differs (map.get pairs (row_code element.table primary n)) (code_or fallback read n)) (sound.elements number element at).own
            ∙ there_found _ (code_or fallback read number) (has.1 number element type fallback at kind (public_is element.state public) primary read encoded)

    not_lacking : (table : ℕ) (primary : List Value) → HasExistsPair pairs (table, primary) → (number : ℕ) (element : ElementDef) → element_at version number ≡ Some element → lacks version pairs table (row_at version pairs table primary) element ≡ false
    not_lacking table primary exists number element at =
        elim ((element.table == table) && is_public element.state) as (λ b. ((element.table == table) && is_public element.state) ≡ b → (b && is_absent pairs (given version element (row_at version pairs table primary))) ≡ false) [
          | true ↦ λ own.
              subst (λ (t : ℕ). HasExistsPair pairs (t, primary) → is_absent pairs (given version element (row_at version pairs t primary)) ≡ false)
              (eqb-true element.table table (left_true (element.table == table) (is_public element.state) own))
              (present number element at (right_true (element.table == table) (is_public element.state) own) primary) exists
          | false ↦ λ other. refl
        ] refl

    none_beside : (x w : Bytes) → map.get pairs x ≡ Some w → missing_beside version pairs (x, w) ≡ 0
    none_beside x w there = by (key_read x) refl
      where
        by : (o : Option KeyOf) → key_read x ≡ o → missing_by version pairs o ≡ 0
        by None names = refl
        by (Some (Column table primary number)) names = refl
        by (Some (IndexKey number values)) names = refl
        by (Some (Exists table primary)) names =
            count_zero (lacks version pairs table (row_at version pairs table primary)) (live version)
            (all_values (λ e. lacks version pairs table (row_at version pairs table primary) e ≡ false) (map.entries version.elements)
            (each_entry nat_cmp nat_cmp_total nat_cmp-IsAntisymmetric (λ n e. lacks version pairs table (row_at version pairs table primary) e ≡ false) version.elements
            (not_lacking table primary (record { key = x; value = w; there = there; names = names }))))

    none_missing : sum_by (missing_beside version pairs) (map.entries pairs) ≡ 0
    none_missing = sum_zero (missing_beside version pairs) (map.entries pairs) (each_entry bytes_cmp bytes_cmp_total bytes_cmp-IsAntisymmetric (λ x w. missing_beside version pairs (x, w) ≡ 0) pairs none_beside)

pub nothing_missing : NothingIsMissingWhen
nothing_missing version pairs report sound audit = (
  λ none. (has_index_pairs version pairs sound (sym audit.missing ∙ none), has_required_pairs version pairs sound (sym audit.missing ∙ none)),
  λ has. audit.missing ∙ none_missing version pairs sound has,
)
