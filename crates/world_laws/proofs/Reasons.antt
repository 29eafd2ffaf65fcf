-- Each pair has a reason.
use Rattle.std.proofs.Common.{◌≡◌, ℕ, zero, suc, ◌≤◌, ◌==◌, ◌&&◌, not, Bool, true, false, eqb, List, [], ◌++◌, length, drop, Option, Some, None, is_some, refl, sym, ap, subst, ◌∙◌, eqb-true, eq-eqb, true≢false, arith}
use Rattle.row_query.proofs.Premise.{Reads}
use Rattle.schema_version.specs.Moves.{IsFairKind}
use Rattle.element_state.proofs.Sources.{lawful_source}
use Rattle.element_state.specs.Required.{required_meaning}
use Rattle.element_state.specs.Sources.{source_in, default_value_at}
use Rattle.audit.specs.Meaning.{with_default_values}
use Rattle.std.specs.Prelude.{count_by, bytes_eq}
use Rattle.std.specs.FinMap as map
use Rattle.std.specs.List.{find}
use Rattle.std.proofs.lemmas.List.{drop_at, length-map}
use Rattle.std.proofs.lemmas.Slice.Eq.{bytes_eq-Decides}
use Rattle.audit.specs.Audit.{Pair, given, numbered, is_column_of_row, is_same_pair, is_given, is_index_pair, reason_by, has_reason}
use Rattle.audit.specs.Encoded.{key_read, is_exists, is_row, row_at}
use Rattle.keycode.specs.declared.value.Value.{Value}
use Rattle.keycode.specs.Order.{bytes_cmp}
use Rattle.keycode.proofs.Orders.{bytes_cmp_total, bytes_cmp-IsAntisymmetric}
use Rattle.row_map.specs.declared.key.KeyOf.{KeyOf}
use Rattle.row_map.specs.declared.key.KeyOf.TheVariants.{Exists, Column, Index as IndexKey}
use Rattle.row_map.specs.Keys.{IsKey, key_code, row_code, index_code}
use Rattle.row_map.specs.Rows.{Bytes, RowKey, Cells, Rows, Pairs, IsStorableRow}
use Rattle.row_map.proofs.Entries.{each_entry}
use Rattle.row_map.proofs.KeyLaws.{same_key}
use Rattle.schema_version.specs.declared.element.ElementState.{ElementState}
use Rattle.schema_version.specs.declared.element.ElementState.TheVariants.{Absent, DeleteOnly, WriteOnly, Public}
use Rattle.schema_version.specs.declared.element.Kind.{Kind}
use Rattle.schema_version.specs.declared.element.Kind.TheVariants.{Index, Optional, Required}
use Rattle.schema_version.specs.declared.element.ElementDef.{ElementDef}
use Rattle.schema_version.specs.Sound.{IsSoundVersion}
use Rattle.schema_version.specs.Version.{Version, element_at, live, indexed_columns, is_column}
use Rattle.schema_version.proofs.Live.{none_passes, element_at-lookup}
use Rattle.element_state.specs.lemmas.Apart.{not_none, some_one}
use Rattle.element_state.specs.Column.{column_meaning, IsLawfulColumn}
use Rattle.element_state.specs.lemmas.ColumnLaws.{column_is_key}
use Rattle.element_state.specs.Consistent.{IsConsistent, DemandOf}
use Rattle.element_state.specs.Elements.{Meaning, Demand, IsFromScratch, owner, owner_named}
use Rattle.element_state.specs.Exists.{exists_meaning}
use Rattle.element_state.specs.Index.{indexed, index_meaning, IsLawfulIndex}
use Rattle.element_state.specs.lemmas.IndexLaws.{index_is_key, indexed_length}
use Rattle.element_state.specs.Kinds.{kind_meaning, kind_numbered, IsLawfulKind}
use Rattle.element_state.specs.Tables.{within, some_in}
use Rattle.row_query.proofs.Columns.{find_says, found_at, and_true}
use Rattle.world_laws.proofs.ArcValue.{read_again}
use Rattle.world_laws.proofs.Encoded.{given_pair}
use Rattle.world_laws.proofs.Sums.{count_none}

-- ---- keys of two kinds differ

abbrev is_index_key : KeyOf → Bool
is_index_key (Exists table primary) = false
is_index_key (Column table primary number) = false
is_index_key (IndexKey number values) = true

index_or_row : {A : Type 0} (k l : KeyOf) → is_index_key k ≡ true → is_index_key l ≡ false → k ≡ l → A
index_or_row k l p q e = absurd (true≢false (sym p ∙ ap is_index_key e ∙ q))

abbrev table_in : KeyOf → ℕ
table_in (Exists table primary) = table
table_in (Column table primary number) = table
table_in (IndexKey number values) = 0

abbrev values_in : KeyOf → List Value
values_in (Exists table primary) = primary
values_in (Column table primary number) = primary
values_in (IndexKey number values) = values

same_bytes : (x : Bytes) → bytes_eq x x ≡ true
same_bytes x = (bytes_eq-Decides x x).1 refl

module _ (version : Version) (sound : IsSoundVersion version) (rows : Rows) (pairs : Pairs) (agree : IsConsistent version rows pairs) (reads : Reads version rows pairs) where
  -- ---- what is known of rows and elements

  held : (key : RowKey) (cells : Cells) → map.get rows key ≡ Some cells → IsStorableRow key cells
  held key cells here =
      let form = reads.keys key.0 key.1 cells here in
      record { table = form.0; primary = form.1; values = λ column value is. reads.values key.0 key.1 cells column value here is }

  lawful_kind : (n : ℕ) (element : ElementDef) (k : Kind) → element_at version n ≡ Some element → element.kind ≡ k → IsLawfulKind n (source_in version k)
  lawful_kind n element k at kind =
      let e = sound.elements n element at in
      lawful_source version (λ m d is. (sound.elements m d is).fair) n e.first (omega (arith, e.given, sound.few_elements)) k (subst IsFairKind kind e.fair)

  abbrev has_number : ℕ → ElementDef → Bool
  has_number n other = other.number == n

  numbered_is : (n : ℕ) (element : ElementDef) → element_at version n ≡ Some element → numbered version n ≡ Some element
  numbered_is n element at = by (find (has_number n) (live version)) refl
    where
      by : (o : Option ElementDef) → find (has_number n) (live version) ≡ o → o ≡ Some element
      by None e = absurd (none_passes (has_number n) (map.entries version.elements) n element e (sym (element_at-lookup version n) ∙ at) (eq-eqb element.number n (sound.elements n element at).own))
      by (Some other) e =
          let s = find_says (has_number n) (live version) other e in
          sym (ap (element_at version) (sym (eqb-true other.number n s.1)) ∙ found_at version sound other s.0) ∙ at

  row_there : (table : ℕ) (primary : List Value) (cells : Cells) → map.get rows (table, primary) ≡ Some cells → is_row pairs table primary ≡ true
  row_there table primary cells here =
      and_true (is_exists (key_read (row_code table primary 0))) (is_some (map.get pairs (row_code table primary 0)))
      (ap is_exists (read_again (row_code table primary 0) (Exists table primary) (reads.keys table primary cells here) refl))
      (ap is_some (reads.each_row table primary cells here))

  -- ---- a pair is one that a row gives its element

  scratch_of : (m : Meaning) (state : ElementState) (x w : Bytes) → owner x ≡ Some m.number → map.get pairs x ≡ Some w → Demand m state pairs rows → IsFromScratch m rows x w
  scratch_of m Absent x w own there demand = absurd (not_none w (map.get pairs x) there (demand x own))
  scratch_of m DeleteOnly x w own there demand = demand x w own there
  scratch_of m WriteOnly x w own there demand = demand x w own there
  scratch_of m Public x w own there demand = demand.subset x w own there

  -- the row, and the element as the version has it
  record Given (number : ℕ) (x w : Bytes) : Type 0 where
    element : ElementDef
    at : element_at version number ≡ Some element
    scratch : IsFromScratch (within element.table (kind_meaning number (source_in version element.kind))) rows x w

  given_by : (number : ℕ) (x w : Bytes) → 1 ≤ number → owner x ≡ Some number → map.get pairs x ≡ Some w → Given number x w
  given_by number x w above own there = by (element_at version number) refl (agree.elements number above)
    where
      by : (o : Option ElementDef) → element_at version number ≡ o → DemandOf version number o pairs rows → Given number x w
      by None at demand = absurd (not_none w (map.get pairs x) there (demand x own))
      by (Some element) at demand = record {
        element = element;
        at = at;
        scratch = scratch_of (within element.table (kind_meaning number (source_in version element.kind))) element.state x w (own ∙ ap Some (sym (kind_numbered number (source_in version element.kind)))) there demand;
      }

  -- the same, where the element is of this kind
  scratch_by : (number : ℕ) (element : ElementDef) (x w : Bytes) → IsFromScratch (within element.table (kind_meaning number (source_in version element.kind))) rows x w → (k : Kind) → element.kind ≡ k
      → IsFromScratch (within element.table (kind_meaning number (source_in version k))) rows x w
  scratch_by number element x w s k kind = subst (λ (q : Kind). IsFromScratch (within element.table (kind_meaning number (source_in version q))) rows x w) kind s

  -- ---- the pair of a column

  -- a live column of either kind has the key beside its row's `exists` pair
  beside_row : (table : ℕ) (primary : List Value) (number : ℕ) (x : Bytes) → IsKey (Column table primary number) → x ≡ row_code table primary number
      → (element : ElementDef) (key : RowKey) (cells : Cells) → map.get rows key ≡ Some cells → IsLawfulColumn number → is_column element.kind ≡ true → eqb key.0 element.table ≡ true → row_code key.0 key.1 number ≡ x
      → is_column_of_row pairs table primary (Some element) ≡ true
  beside_row table primary number x form encoded element key cells there column kind own key_is =
      let same : Column key.0 key.1 number ≡ Column table primary number =
      same_key (Column key.0 key.1 number) (Column table primary number) (column_is_key number column key cells (held key cells there)) form (key_is ∙ encoded) in
      let home : key.0 ≡ element.table = eqb-true key.0 element.table own in
      let here : map.get rows (table, primary) ≡ Some cells = ap (λ (k : KeyOf). map.get rows (table_in k, values_in k)) (sym same) ∙ there in
      and_true ((element.table == table) && is_column element.kind) (is_row pairs table primary)
      (and_true (element.table == table) (is_column element.kind) (eq-eqb element.table table (sym home ∙ ap table_in same)) kind)
      (row_there table primary cells here)

  column_reason : (table : ℕ) (primary : List Value) (number : ℕ) (x w : Bytes) → IsKey (Column table primary number) → x ≡ row_code table primary number → map.get pairs x ≡ Some w
      → is_column_of_row pairs table primary (numbered version number) ≡ true
  column_reason table primary number x w form encoded there =
      let own : owner x ≡ Some number = owner_named number x (record { key = Column table primary number; form = form; encoded = encoded; names = refl }) in
      let g : Given number x w = given_by number x w form.2 own there in
      ap (is_column_of_row pairs table primary) (numbered_is number g.element g.at) ∙ by g.element g.at g.scratch g.element.kind refl
    where
      by : (element : ElementDef) → element_at version number ≡ Some element → IsFromScratch (within element.table (kind_meaning number (source_in version element.kind))) rows x w → (k : Kind) → element.kind ≡ k → is_column_of_row pairs table primary (Some element) ≡ true
      by element at s (Index columns) kind =
          let sources = with_default_values version columns in
          let t : IsFromScratch (within element.table (index_meaning number sources)) rows x w = scratch_by number element x w s (Index columns) kind in
          let lists : IsLawfulIndex number sources = lawful_kind number element (Index columns) at kind in
          index_or_row (IndexKey number (indexed sources t.cells ++ t.key.1)) (Column table primary number) refl refl
          (same_key (IndexKey number (indexed sources t.cells ++ t.key.1)) (Column table primary number) (index_is_key number sources lists t.key t.cells (held t.key t.cells t.there)) form (t.key_is ∙ encoded))
      by element at s (Optional type) kind =
          let t : IsFromScratch (within element.table (column_meaning number)) rows x w = scratch_by number element x w s (Optional type) kind in
          beside_row table primary number x form encoded element t.key t.cells t.there (lawful_kind number element (Optional type) at kind) (ap is_column kind) (some_in (eqb t.key.0 element.table) _ w t.value_is).0 t.key_is
      by element at s (Required type fallback) kind =
          let t : IsFromScratch (within element.table (required_meaning number fallback)) rows x w = scratch_by number element x w s (Required type fallback) kind in
          beside_row table primary number x form encoded element t.key t.cells t.there (lawful_kind number element (Required type fallback) at kind) (ap is_column kind) (some_in (eqb t.key.0 element.table) _ w t.value_is).0 t.key_is

  -- ---- the pair of an index

  -- the index gives it the row whose key stands after the indexed values
  given_so : (element : ElementDef) (columns : List ℕ) (number : ℕ) (values : List Value) (x w : Bytes) → element_at version number ≡ Some element → element.kind ≡ Index columns → (primary : List Value) (cells : Cells)
      → map.get rows (element.table, primary) ≡ Some cells → values ≡ indexed (with_default_values version columns) cells ++ primary → index_code number (indexed (with_default_values version columns) cells ++ primary) ≡ x → [] ≡ w
      → is_given version pairs values (x, w) element ≡ true
  given_so element columns number values x w at kind primary cells here values_are key_is empty =
      ap (λ (p : List Value). is_row pairs element.table p && is_same_pair (given version element (row_at version pairs element.table p)) (x, w)) behind
      ∙ and_true (is_row pairs element.table primary) (is_same_pair (given version element (row_at version pairs element.table primary)) (x, w))
      (row_there element.table primary cells here)
      (ap (λ (o : Option Pair). is_same_pair o (x, w)) (given_pair version sound rows pairs agree reads number element columns at kind primary cells here ∙ ap Some pair_is)
      ∙ and_true (bytes_eq x x) (bytes_eq w w) (same_bytes x) (same_bytes w))
    where
      behind : drop (length (indexed_columns element.kind)) values ≡ primary
      behind =
          ap (λ (k : Kind). drop (length (indexed_columns k)) values) kind ∙ ap (drop (length columns)) values_are
          ∙ drop_at (indexed (with_default_values version columns) cells) primary (length columns) (indexed_length (with_default_values version columns) cells ∙ length-map columns (λ (c : ℕ). (c, default_value_at version c)))

      pair_is : ◌≡◌ {A = Pair} (index_code number (indexed (with_default_values version columns) cells ++ primary), []) (x, w)
      pair_is = ap (λ (b : Bytes). (b, [])) key_is ∙ ap (λ (v : Bytes). (x, v)) empty

  -- and no column has the key of an index
  no_column : {A : Type 0} (number : ℕ) (values : List Value) (x : Bytes) → IsKey (IndexKey number values) → x ≡ index_code number values → (key : RowKey) (cells : Cells) → map.get rows key ≡ Some cells → IsLawfulColumn number → row_code key.0 key.1 number ≡ x → A
  no_column number values x form encoded key cells there column key_is =
      index_or_row (IndexKey number values) (Column key.0 key.1 number) refl refl
      (same_key (IndexKey number values) (Column key.0 key.1 number) form (column_is_key number column key cells (held key cells there)) (sym encoded ∙ sym key_is))

  index_reason : (number : ℕ) (values : List Value) (x w : Bytes) → 1 ≤ number → IsKey (IndexKey number values) → x ≡ index_code number values → map.get pairs x ≡ Some w → is_index_pair version pairs values (x, w) (numbered version number) ≡ true
  index_reason number values x w above form encoded there =
      let own : owner x ≡ Some number = owner_named number x (record { key = IndexKey number values; form = form; encoded = encoded; names = refl }) in
      let g : Given number x w = given_by number x w above own there in
      ap (is_index_pair version pairs values (x, w)) (numbered_is number g.element g.at) ∙ by g.element g.at g.scratch g.element.kind refl
    where
      by : (element : ElementDef) → element_at version number ≡ Some element → IsFromScratch (within element.table (kind_meaning number (source_in version element.kind))) rows x w → (k : Kind) → element.kind ≡ k → is_given version pairs values (x, w) element ≡ true
      by element at s (Optional type) kind =
          let t : IsFromScratch (within element.table (column_meaning number)) rows x w = scratch_by number element x w s (Optional type) kind in
          no_column number values x form encoded t.key t.cells t.there (lawful_kind number element (Optional type) at kind) t.key_is
      by element at s (Required type fallback) kind =
          let t : IsFromScratch (within element.table (required_meaning number fallback)) rows x w = scratch_by number element x w s (Required type fallback) kind in
          no_column number values x form encoded t.key t.cells t.there (lawful_kind number element (Required type fallback) at kind) t.key_is
      by element at s (Index columns) kind =
          let sources = with_default_values version columns in
          let t : IsFromScratch (within element.table (index_meaning number sources)) rows x w = scratch_by number element x w s (Index columns) kind in
          let lists : IsLawfulIndex number sources = lawful_kind number element (Index columns) at kind in
          let same : IndexKey number (indexed sources t.cells ++ t.key.1) ≡ IndexKey number values =
          same_key (IndexKey number (indexed sources t.cells ++ t.key.1)) (IndexKey number values) (index_is_key number sources lists t.key t.cells (held t.key t.cells t.there)) form (t.key_is ∙ encoded) in
          let value = some_in (eqb t.key.0 element.table) (Some []) w t.value_is in
          let here : map.get rows (element.table, t.key.1) ≡ Some t.cells = ap (λ (n : ℕ). map.get rows (n, t.key.1)) (sym (eqb-true t.key.0 element.table value.0)) ∙ t.there in
          given_so element columns number values x w at kind t.key.1 t.cells here (sym (ap values_in same)) t.key_is (some_one [] w value.1)

  -- no index has the number of the `exists` pairs
  index_above : (number : ℕ) (values : List Value) (x w : Bytes) → IsKey (IndexKey number values) → x ≡ index_code number values → map.get pairs x ≡ Some w → 1 ≤ number
  index_above zero values x w form encoded there =
      let own : owner x ≡ Some 0 = owner_named 0 x (record { key = IndexKey 0 values; form = form; encoded = encoded; names = refl }) in
      let s : IsFromScratch exists_meaning rows x w = agree.exists.subset x w own there in
      let row = held s.key s.cells s.there in
      index_or_row (IndexKey 0 values) (Exists s.key.0 s.key.1) refl refl (same_key (IndexKey 0 values) (Exists s.key.0 s.key.1) form (row.table, row.primary) (sym encoded ∙ sym s.key_is))
  index_above (suc n) values x w form encoded there = omega arith

  -- ---- any pair

  reason : (x w : Bytes) → map.get pairs x ≡ Some w → not (has_reason version pairs (x, w)) ≡ false
  reason x w there =
      let form = agree.forms x w there in
      ap (λ (o : Option KeyOf). not (reason_by version pairs (x, w) o)) (read_again x form.key form.form form.encoded) ∙ ap not (by form.key form.form form.encoded)
    where
      by : (k : KeyOf) → IsKey k → x ≡ key_code k → reason_by version pairs (x, w) (Some k) ≡ true
      by (Exists table primary) form encoded = refl
      by (Column table primary number) form encoded = column_reason table primary number x w form encoded there
      by (IndexKey number values) form encoded = index_reason number values x w (index_above number values x w form encoded there) form encoded there

  pub none_extra : count_by (λ pair. not (has_reason version pairs pair)) (map.entries pairs) ≡ 0
  none_extra =
      count_none (λ pair. not (has_reason version pairs pair)) (map.entries pairs)
      (each_entry bytes_cmp bytes_cmp_total bytes_cmp-IsAntisymmetric (λ x w. not (has_reason version pairs (x, w)) ≡ false) pairs reason)
