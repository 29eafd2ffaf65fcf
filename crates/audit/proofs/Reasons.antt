-- Nothing is extra where each pair belongs to a row that the pairs encode.
use Rattle.std.proofs.Common.{◌≡◌, ℕ, ◌-◌, ◌<◌, ◌≤◌, ◌^◌, ◌==◌, ◌&&◌, not, Bool, true, false, cond, List, [], ◌++◌, length, drop, Option, Some, None, refl, sym, ap, subst, ◌∙◌, eqb-true, eq-eqb, arith, true≢false}
use Rattle.std.specs.Prelude.{bytes_eq, count_by, slice_get}
use Rattle.std.specs.FinMap as map
use Rattle.std.specs.List.{find}
use Rattle.std.proofs.lemmas.List.{drop_at, length-map}
use Rattle.std.proofs.lemmas.Option.{slice_get_within}
use Rattle.std.proofs.lemmas.Slice.Eq.{bytes_eq-Decides}
use Rattle.keycode.specs.declared.value.Value.{Value}
use Rattle.keycode.specs.Order.{bytes_cmp}
use Rattle.keycode.specs.Valid.{AreValues}
use Rattle.keycode.proofs.Orders.{bytes_cmp_total, bytes_cmp-IsAntisymmetric}
use Rattle.row_map.specs.declared.key.KeyOf.{KeyOf}
use Rattle.row_map.specs.declared.key.KeyOf.TheVariants.{Exists, Column, Index as IndexKey}
use Rattle.row_map.specs.declared.shape.ColumnType.{ColumnType}
use Rattle.row_map.specs.Keys.{IsKey, row_code}
use Rattle.row_map.specs.Rows.{Bytes, Cells, Pairs}
use Rattle.row_map.proofs.Entries.{each_entry}
use Rattle.row_map.proofs.KeyLaws.{key_again}
use Rattle.schema_version.specs.declared.element.Kind.{Kind}
use Rattle.schema_version.specs.declared.element.Kind.TheVariants.{Index, Optional, Required}
use Rattle.schema_version.specs.declared.element.ElementDef.{ElementDef}
use Rattle.schema_version.specs.Moves.{IsFairKind}
use Rattle.schema_version.specs.Sound.{IsSoundVersion}
use Rattle.schema_version.specs.Version.{Version, Table, table_at, element_at, live, indexed_columns, is_column, type_of_kind, IsLiveColumn}
use Rattle.schema_version.proofs.Live.{IsLeast, first_is_least, none_passes, element_at-lookup}
use Rattle.element_state.specs.lemmas.Apart.{none_some}
use Rattle.element_state.specs.lemmas.Clears.{both_true, left_true, right_true}
use Rattle.element_state.specs.Index.{indexed, index_pair, IsLawfulIndex}
use Rattle.element_state.specs.lemmas.IndexLaws.{index_is_key, indexed_length}
use Rattle.element_state.specs.Sources.{default_value_at}
use Rattle.element_state.proofs.Sources.{lawful_source}
use Rattle.audit.specs.Audit.{Pair, given, numbered, is_column_of_row, is_same_pair, is_given, is_index_pair, reason_by, has_reason}
use Rattle.audit.specs.Encoded.{found, key_read, is_row, row_at}
use Rattle.audit.specs.Meaning.{HasExistsPair, IsEncoded, AreByteStrings, with_default_values, Belongs, EachPairBelongs, NothingIsExtraWhen}
use Rattle.audit.specs.Meaning.Belongs.{ExistsPair, ColumnPair, IndexPair}
use Rattle.audit.proofs.RowsRead.{read_cells, read_is_encoded}
use Rattle.audit.proofs.Exists.{key_form, row_from, row_says, encoded_storable}
use Rattle.audit.proofs.Present.{given_by_index, given_by_optional, given_by_required, code_or, same_pair_key}
use Rattle.audit.proofs.LastMet.{values_behind}
use Rattle.audit.proofs.Zero.{count_zero, zero_count, all_found}

true_of_not : (b : Bool) → not b ≡ false → b ≡ true
true_of_not true e = refl
true_of_not false e = absurd (true≢false e)

column_kind : (k : Kind) → is_column k ≡ true → (type : ColumnType) × (type_of_kind k ≡ Some type)
column_kind (Index columns) e = absurd (true≢false (sym e))
column_kind (Optional type) e = (type, refl)
column_kind (Required type fallback) e = (type, refl)

column_typed : (k : Kind) (type : ColumnType) → type_of_kind k ≡ Some type → is_column k ≡ true
column_typed (Index columns) type e = absurd (none_some type e)
column_typed (Optional t) type e = refl
column_typed (Required t fallback) type e = refl

-- what tells the key of an index's pair from others
abbrev pub is_index_key : Option KeyOf → Bool
is_index_key (Some (IndexKey number values)) = true
is_index_key _ = false

table_within : (version : Version) (number : ℕ) (table : Table) → table_at version number ≡ Some table → number ≤ length version.tables
table_within version number table e =
    elim (number == 0) as (λ b. (number == 0) ≡ b → cond b None (slice_get version.tables (number - 1)) ≡ Some table → number ≤ length version.tables) [
      | true ↦ λ z is. absurd (none_some table is)
      | false ↦ λ z is. (let within : number - 1 < length version.tables = slice_get_within version.tables (number - 1) table is in omega (arith, within))
    ] refl e

pub same_bytes : (x : Bytes) → bytes_eq x x ≡ true
same_bytes x = (bytes_eq-Decides x x).1 refl

module _ (version : Version) (sound : IsSoundVersion version) (pairs : Pairs) (strings : AreByteStrings pairs) where
  abbrev has_number : ℕ → ElementDef → Bool
  has_number number element = element.number == number

  -- the audit finds an element as the version does
  numbered_is : (number : ℕ) → numbered version number ≡ element_at version number
  numbered_is number = by (find (has_number number) (live version)) refl
    where
      absent : find (has_number number) (live version) ≡ None → (p : Option ElementDef) → element_at version number ≡ p → None ≡ p
      absent none None at = refl
      absent none (Some element) at =
          absurd (none_passes (has_number number) (map.entries version.elements) number element none (sym (element_at-lookup version number) ∙ at) (eq-eqb element.number number (sound.elements number element at).own))

      by : (o : Option ElementDef) → find (has_number number) (live version) ≡ o → o ≡ element_at version number
      by None e = absent e (element_at version number) refl
      by (Some element) e =
          let least : IsLeast (has_number number) (map.entries version.elements) element = first_is_least (has_number number) (map.entries version.elements) element (map.entries_sorted version.elements) e in
          let at : element_at version least.number ≡ Some element = element_at-lookup version least.number ∙ least.found in
          sym (ap (element_at version) (sym (eqb-true element.number number least.passes) ∙ (sound.elements least.number element at).own) ∙ at)

  table_below : (number : ℕ) (element : ElementDef) → element_at version number ≡ Some element → element.table < 2 ^ 32
  table_below number element at =
      let placed = (sound.elements number element at).placed in
      let within : element.table ≤ length version.tables = table_within version element.table placed.0 placed.1 in
      omega (arith, within, sound.few_tables)

  pub lawful_index : (number : ℕ) (element : ElementDef) (columns : List ℕ) → element_at version number ≡ Some element → element.kind ≡ Index columns → IsLawfulIndex number (with_default_values version columns)
  lawful_index number element columns at kind =
      let e = sound.elements number element at in
      lawful_source version (λ n d is. (sound.elements n d is).fair) number e.first (omega (arith, e.given, sound.few_elements)) (Index columns) (subst IsFairKind kind e.fair)

  -- ---- a pair with a reason belongs

  column_says : (table : ℕ) (primary : List Value) (number : ℕ) → IsKey (Column table primary number) → is_column_of_row pairs table primary (numbered version number) ≡ true
      → IsLiveColumn version table number × HasExistsPair pairs (table, primary)
  column_says table primary number form e = by (element_at version number) refl (ap (is_column_of_row pairs table primary) (sym (numbered_is number)) ∙ e)
    where
      by : (o : Option ElementDef) → element_at version number ≡ o → is_column_of_row pairs table primary o ≡ true → IsLiveColumn version table number × HasExistsPair pairs (table, primary)
      by None at is = absurd (true≢false (sym is))
      by (Some element) at is =
          let own = left_true ((element.table == table) && is_column element.kind) (is_row pairs table primary) is in
          let kind = column_kind element.kind (right_true (element.table == table) (is_column element.kind) own) in (
            (element, kind.0, at, eqb-true element.table table (left_true (element.table == table) (is_column element.kind) own), kind.1),
            row_says pairs strings table primary form.0 form.1.values (right_true ((element.table == table) && is_column element.kind) (is_row pairs table primary) is),
          )

  -- a key can name a live element beside a row that is there
  column_key : (number : ℕ) (element : ElementDef) → element_at version number ≡ Some element → (primary : List Value) → HasExistsPair pairs (element.table, primary) → IsKey (Column element.table primary element.number)
  column_key number element at primary exists =
      let e = sound.elements number element at in
      let form = (key_form pairs strings exists.key exists.value exists.there (Exists element.table primary) exists.names).0 in
      (form.0, form.1, omega (arith, e.own, e.first), omega (arith, e.own, e.given, sound.few_elements))

  pub index_says : (number : ℕ) (values : List Value) (x w : Bytes) → key_read x ≡ Some (IndexKey number values) → AreValues values → is_index_pair version pairs values (x, w) (numbered version number) ≡ true → Belongs version pairs x w
  index_says number values x w names are e = by (element_at version number) refl (ap (is_index_pair version pairs values (x, w)) (sym (numbered_is number)) ∙ e)
    where
      at_kind : (element : ElementDef) → element_at version number ≡ Some element → (primary : List Value) → HasExistsPair pairs (element.table, primary) → (k : Kind) → element.kind ≡ k
          → is_same_pair (given version element (row_at version pairs element.table primary)) (x, w) ≡ true → Belongs version pairs x w
      at_kind element at primary exists (Optional type) kind is =
          absurd (true≢false (sym is ∙ ap (λ (o : Option Pair). is_same_pair o (x, w)) (given_by_optional version pairs sound element type kind primary)))
      at_kind element at primary exists (Required type fallback) kind is =
          let own : Bytes = row_code element.table primary element.number in
          let held : Bytes = code_or fallback (read_cells version pairs element.table primary sound) element.number in
          let same : (bytes_eq own x && bytes_eq held w) ≡ true = ap (λ (o : Option Pair). is_same_pair o (x, w)) (sym (given_by_required version pairs sound element type fallback kind primary)) ∙ is in
          let read : key_read own ≡ Some (Column element.table primary element.number) = ap found (key_again (Column element.table primary element.number) (column_key number element at primary exists)) in
          absurd (true≢false (sym (ap is_index_key names) ∙ ap (λ (y : Bytes). is_index_key (key_read y)) (sym ((bytes_eq-Decides own x).0 (left_true (bytes_eq own x) (bytes_eq held w) same))) ∙ ap is_index_key read))
      at_kind element at primary exists (Index columns) kind is =
          let encoded = read_is_encoded version pairs element.table primary sound exists in
          let own : Bytes = index_pair element.number (with_default_values version columns) (element.table, primary) (read_cells version pairs element.table primary sound) in
          let same : (bytes_eq own x && bytes_eq [] w) ≡ true = ap (λ (o : Option Pair). is_same_pair o (x, w)) (sym (given_by_index version pairs sound element columns kind primary)) ∙ is in
          IndexPair number element columns at kind primary (read_cells version pairs element.table primary sound) encoded
          (sym ((bytes_eq-Decides own x).0 (left_true (bytes_eq own x) (bytes_eq [] w) same)) ∙ same_pair_key version pairs sound number element columns at primary (read_cells version pairs element.table primary sound) encoded)
          (sym ((bytes_eq-Decides [] w).0 (right_true (bytes_eq own x) (bytes_eq [] w) same)))

      by : (o : Option ElementDef) → element_at version number ≡ o → is_index_pair version pairs values (x, w) o ≡ true → Belongs version pairs x w
      by None at is = absurd (true≢false (sym is))
      by (Some element) at is =
          let primary : List Value = drop (length (indexed_columns element.kind)) values in
          let row = is_row pairs element.table primary in
          let same = is_same_pair (given version element (row_at version pairs element.table primary)) (x, w) in
          at_kind element at primary
          (row_says pairs strings element.table primary (table_below number element at) (values_behind (length (indexed_columns element.kind)) values are) (left_true row same is))
          element.kind refl (right_true row same is)

  reason_says : (x w : Bytes) → map.get pairs x ≡ Some w → has_reason version pairs (x, w) ≡ true → Belongs version pairs x w
  reason_says x w there e = by (key_read x) refl e
    where
      by : (o : Option KeyOf) → key_read x ≡ o → reason_by version pairs (x, w) o ≡ true → Belongs version pairs x w
      by None names is = absurd (true≢false (sym is))
      by (Some (Exists table primary)) names is = ExistsPair (table, primary) names
      by (Some (Column table primary number)) names is =
          let own = column_says table primary number (key_form pairs strings x w there (Column table primary number) names).0 is in
          ColumnPair (table, primary) number names own.0 own.1
      by (Some (IndexKey number values)) names is = index_says number values x w names (key_form pairs strings x w there (IndexKey number values) names).0.1.values is

  -- ---- a pair that belongs has a reason

  column_from : (table : ℕ) (primary : List Value) (number : ℕ) → IsLiveColumn version table number → HasExistsPair pairs (table, primary) → is_column_of_row pairs table primary (numbered version number) ≡ true
  column_from table primary number column exists =
      ap (is_column_of_row pairs table primary) (numbered_is number ∙ column.2)
      ∙ both_true ((column.0.table == table) && is_column column.0.kind) (is_row pairs table primary)
      (both_true (column.0.table == table) (is_column column.0.kind) (eq-eqb column.0.table table column.3) (column_typed column.0.kind column.1 column.4))
      (row_from pairs strings table primary exists)

  index_from : (number : ℕ) (element : ElementDef) (columns : List ℕ) → element_at version number ≡ Some element → element.kind ≡ Index columns → (primary : List Value) (cells : Cells) → IsEncoded version pairs (element.table, primary) cells
      → is_given version pairs (indexed (with_default_values version columns) cells ++ primary) (index_pair number (with_default_values version columns) (element.table, primary) cells, []) element ≡ true
  index_from number element columns at kind primary cells encoded =
      let x : Bytes = index_pair number (with_default_values version columns) (element.table, primary) cells in
      ap (λ (p : List Value). is_row pairs element.table p && is_same_pair (given version element (row_at version pairs element.table p)) (x, [])) behind
      ∙ both_true (is_row pairs element.table primary) (is_same_pair (given version element (row_at version pairs element.table primary)) (x, []))
      (row_from pairs strings element.table primary encoded.exists)
      (ap (λ (o : Option Pair). is_same_pair o (x, [])) (given_by_index version pairs sound element columns kind primary)
      ∙ ap (λ (y : Bytes). bytes_eq y x && bytes_eq [] []) (same_pair_key version pairs sound number element columns at primary cells encoded)
      ∙ both_true (bytes_eq x x) (bytes_eq [] []) (same_bytes x) (same_bytes []))
    where
      behind : drop (length (indexed_columns element.kind)) (indexed (with_default_values version columns) cells ++ primary) ≡ primary
      behind =
          ap (λ (k : Kind). drop (length (indexed_columns k)) (indexed (with_default_values version columns) cells ++ primary)) kind
          ∙ drop_at (indexed (with_default_values version columns) cells) primary (length columns) (indexed_length (with_default_values version columns) cells ∙ length-map columns (λ (column : ℕ). (column, default_value_at version column)))

  pub reason_from : (x w : Bytes) → Belongs version pairs x w → has_reason version pairs (x, w) ≡ true
  reason_from x w (ExistsPair row names) = ap (reason_by version pairs (x, w)) names
  reason_from x w (ColumnPair row column names live exists) = ap (reason_by version pairs (x, w)) names ∙ column_from row.0 row.1 column live exists
  reason_from x w (IndexPair number element columns at kind primary cells encoded key_is empty) =
      let values : List Value = indexed (with_default_values version columns) cells ++ primary in
      let form : IsKey (IndexKey number values) = index_is_key number (with_default_values version columns) (lawful_index number element columns at kind) (element.table, primary) cells (encoded_storable pairs strings version (element.table, primary) cells encoded) in
      let names : key_read x ≡ Some (IndexKey number values) = ap key_read key_is ∙ ap found (key_again (IndexKey number values) form) in
      ap (reason_by version pairs (x, w)) names
      ∙ ap (is_index_pair version pairs values (x, w)) (numbered_is number ∙ at)
      ∙ ap (λ (y : Bytes). is_given version pairs values (y, w) element) key_is
      ∙ ap (λ (v : Bytes). is_given version pairs values (index_pair number (with_default_values version columns) (element.table, primary) cells, v) element) empty
      ∙ index_from number element columns at kind primary cells encoded

  -- ---- all pairs

  belong : count_by (λ pair. not (has_reason version pairs pair)) (map.entries pairs) ≡ 0 → EachPairBelongs version pairs
  belong none x w there =
      reason_says x w there (true_of_not (has_reason version pairs (x, w))
      (all_found bytes_cmp-IsAntisymmetric (λ x w. not (has_reason version pairs (x, w)) ≡ false) pairs (zero_count (λ pair. not (has_reason version pairs pair)) (map.entries pairs) none) x w there))

  none_extra : EachPairBelongs version pairs → count_by (λ pair. not (has_reason version pairs pair)) (map.entries pairs) ≡ 0
  none_extra all =
      count_zero (λ pair. not (has_reason version pairs pair)) (map.entries pairs)
      (each_entry bytes_cmp bytes_cmp_total bytes_cmp-IsAntisymmetric (λ x w. not (has_reason version pairs (x, w)) ≡ false) pairs
      (λ x w there. ap not (reason_from x w (all x w there))))

pub nothing_extra : NothingIsExtraWhen
nothing_extra version pairs report sound strings audit = (
  λ none. belong version sound pairs strings (sym audit.extra ∙ none),
  λ all. audit.extra ∙ none_extra version sound pairs strings all,
)
