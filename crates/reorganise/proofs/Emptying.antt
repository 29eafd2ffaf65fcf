-- In a store that agrees with a version, a pair of a scan range is an item's exactly when its value
-- is empty.
use Rattle.std.proofs.Common.{◌≡◌, ◌≢◌, ℕ, zero, suc, ◌+◌, ◌<◌, ◌≤◌, ◌^◌, ◌==◌, Bool, true, false, cond, if◌then◌else◌, eqb, List, [], ◌∷◌, ◌++◌, length, Option, Some, None, Ok, refl, sym, ap, subst, ◌∙◌, arith, eq-eqb}
use Rattle.std.specs.List.{AllByRecursion}
use Rattle.std.specs.FinMap as map
use Rattle.std.specs.Option.{option_map}
use Rattle.std.specs.declared.cmp.Ordering.TheVariants.{Less}
use Rattle.byte_map.proofs.Order.{bytes_cmp_total, bytes_cmp-IsAntisymmetric}
use Rattle.keycode.specs.declared.value.Value.{Value}
use Rattle.keycode.specs.Code.{code}
use Rattle.keycode.specs.Order.{bytes_cmp}
use Rattle.keycode.proofs.Fields.{code_some}
use Rattle.row_map.specs.declared.key.KeyOf.{KeyOf}
use Rattle.row_map.specs.declared.key.KeyOf.TheVariants.{Exists, Column, Index as IndexKey}
use Rattle.row_map.specs.Keys.{key_code, row_code, index_code, IsKey}
use Rattle.row_map.specs.Rows.{Bytes, RowKey, Cells, Rows, Pairs}
use Rattle.row_map.specs.Ranges.{is_within, table_prefix, index_prefix}
use Rattle.row_map.specs.Walk.{is_empty, empty_key, empties, key_range}
use Rattle.row_map.proofs.KeyLaws.{key_again}
use Rattle.row_map.proofs.Entries.{each_found}
use Rattle.row_map.proofs.Ranges.{row_number, index_number, row_no_index, index_no_row, row_not_index}
use Rattle.row_map.proofs.KeyRanges.{find_key_range, key_range_sorted}
use Rattle.schema_version.specs.declared.element.ElementDef.{ElementDef}
use Rattle.schema_version.specs.declared.element.ElementState.{ElementState}
use Rattle.schema_version.specs.declared.element.ElementState.TheVariants.{Absent, DeleteOnly, WriteOnly, Public}
use Rattle.schema_version.specs.declared.element.Kind.{Kind}
use Rattle.schema_version.specs.declared.element.Kind.TheVariants.{Index, Optional, Required}
use Rattle.schema_version.specs.declared.element.Work.{Work}
use Rattle.schema_version.specs.declared.element.Work.TheVariants.{Fill, Clear}
use Rattle.schema_version.specs.Version.{Version, element_at}
use Rattle.element_state.specs.lemmas.Clears.{between_test}
use Rattle.element_state.specs.Column.{column_pair}
use Rattle.element_state.specs.Consistent.{IsConsistent, DemandOf}
use Rattle.element_state.specs.Elements.{Meaning, HasForm, Subset, Demand, IsFromScratch, owner, owner_read, element_of}
use Rattle.element_state.specs.Index.{index_pair}
use Rattle.element_state.specs.Items.{HasRange, Between}
use Rattle.element_state.specs.Kinds.{kind_meaning, kind_numbered}
use Rattle.element_state.specs.Sources.{Source, IndexOn, OptionalIn, RequiredIn, source_in}
use Rattle.element_state.specs.Tables.{within, some_in}
use Rattle.reorganise.specs.declared.scan_range.ScanRange.{ScanRange}
use Rattle.reorganise.specs.declared.scan_range.ScanRange.TheVariants.{Rows as RowsOf, Entries}
use Rattle.reorganise.specs.Laws.{ItemsEmpty}
use Rattle.reorganise.specs.ScanRanges.{scan_range_of, cleared, start, end, prefix, prefix_end, is_item, is_item_read, item_key, item_keys, items, ItemsAreEmpty}
use Rattle.reorganise.proofs.Bounds.{end_is}
use Rattle.reorganise.proofs.Items.{Pair}

same_some : {A : Type 0} (v w : A) → Some v ≡ Some w → v ≡ w
same_some v w e = cc

some_none : {A B : Type 0} (v : A) (o : Option A) → o ≡ Some v → o ≡ None → B
some_none v o e f = absurd cc

-- ---- what the value of a pair is, by the form of its key

-- the pairs of an index have an empty value, those of a column have not
abbrev SaysValue : KeyOf → Bytes → Type 0
SaysValue (Exists table key) v = is_empty v ≡ true
SaysValue (Column table key element) v = is_empty v ≡ false
SaysValue (IndexKey element values) v = is_empty v ≡ true

some_code : (v : Value) (bytes : Bytes) → bytes ≡ code v → is_empty bytes ≡ false
some_code v [] e = absurd (omega (arith, code_some v, ap length e))
some_code v (b ∷ bytes) e = refl

cell_code : (o : Option Value) (v : Bytes) → option_map code o ≡ Some v → is_empty v ≡ false
cell_code None v e = absurd cc
cell_code (Some w) v e = some_code w v (sym (same_some (code w) v e))

-- a key of an index is none of a row
index_says : (k : KeyOf) (n : ℕ) (values : List Value) (v : Bytes) → index_code n values ≡ key_code k → v ≡ [] → SaysValue k v
index_says (Exists t key) n values v same none = absurd (row_not_index t key 0 n values (sym same))
index_says (Column t key e) n values v same none = absurd (row_not_index t key e n values (sym same))
index_says (IndexKey e vs) n values v same none = ap is_empty none

column_says : (k : KeyOf) (n : ℕ) (r : RowKey) (v : Bytes) → 0 < element_of k → row_code r.0 r.1 n ≡ key_code k → is_empty v ≡ false → SaysValue k v
column_says (Exists t key) n r v some same full = absurd (omega (arith, some))
column_says (Column t key e) n r v some same full = full
column_says (IndexKey e vs) n r v some same full = absurd (row_not_index r.0 r.1 n e vs same)

module _ (R : Rows) (k : KeyOf) (v : Bytes) (some : 0 < element_of k) (n table : ℕ) where
  source_says : (source : Source) → IsFromScratch (within table (kind_meaning n source)) R (key_code k) v → SaysValue k v
  source_says (IndexOn columns) from =
      index_says k n _ v from.key_is (sym (same_some [] v (some_in (eqb from.key.0 table) (Some []) v from.value_is).1))
  source_says (OptionalIn type) from =
      column_says k n from.key v some from.key_is (cell_code (map.get from.cells n) v (some_in (eqb from.key.0 table) (option_map code (map.get from.cells n)) v from.value_is).1)
  source_says (RequiredIn type fallback) from =
      column_says k n from.key v some from.key_is (some_code _ v (sym (same_some _ v (some_in (eqb from.key.0 table) _ v from.value_is).1)))

  state_says : (source : Source) (q : ElementState) (P : Pairs) → owner (key_code k) ≡ Some n → map.get P (key_code k) ≡ Some v → Demand (within table (kind_meaning n source)) q P R → SaysValue k v
  state_says source Absent P owned at demand = some_none v (map.get P (key_code k)) at (demand (key_code k) (owned ∙ ap Some (sym (kind_numbered n source))))
  state_says source DeleteOnly P owned at demand = source_says source (demand (key_code k) v (owned ∙ ap Some (sym (kind_numbered n source))) at)
  state_says source WriteOnly P owned at demand = source_says source (demand (key_code k) v (owned ∙ ap Some (sym (kind_numbered n source))) at)
  state_says source Public P owned at demand = source_says source (demand.subset (key_code k) v (owned ∙ ap Some (sym (kind_numbered n source))) at)

element_says : (version : Version) (P : Pairs) (R : Rows) (k : KeyOf) (v : Bytes) (o : Option ElementDef) → 0 < element_of k → owner (key_code k) ≡ Some (element_of k) → map.get P (key_code k) ≡ Some v
    → DemandOf version (element_of k) o P R → SaysValue k v
element_says version P R k v None some owned at demand = some_none v (map.get P (key_code k)) at (demand (key_code k) owned)
element_says version P R k v (Some e) some owned at demand = state_says R k v some (element_of k) e.table (source_in version e.kind) e.state P owned at demand

module _ (version : Version) (P : Pairs) (R : Rows) (c : IsConsistent version R P) where
  owned_by : (k : KeyOf) → IsKey k → owner (key_code k) ≡ Some (element_of k)
  owned_by k form = ap owner_read (key_again k form)

  exists_says : (k : KeyOf) (v : Bytes) → IsKey k → element_of k ≡ 0 → map.get P (key_code k) ≡ Some v → is_empty v ≡ true
  exists_says k v form none at =
      let from = c.exists.subset (key_code k) v (owned_by k form ∙ ap Some none) at in
      ap is_empty (sym (same_some [] v from.value_is))

  key_says : (k : KeyOf) (v : Bytes) → IsKey k → map.get P (key_code k) ≡ Some v → SaysValue k v
  key_says (Exists t key) v form at = exists_says (Exists t key) v form refl at
  key_says (Column t key e) v form at = element_says version P R (Column t key e) v (element_at version e) form.2 (owned_by (Column t key e) form) at (c.elements e (omega (arith, form.2)))
  key_says (IndexKey zero vs) v form at = exists_says (IndexKey 0 vs) v form refl at
  key_says (IndexKey (suc e) vs) v form at = element_says version P R (IndexKey (suc e) vs) v (element_at version (suc e)) (omega arith) (owned_by (IndexKey (suc e) vs) form) at (c.elements (suc e) (omega arith))

-- ---- which keys are in the range

abbrev IsWide : ScanRange → Type 0
IsWide (RowsOf table) = table + 1 < 2 ^ 32
IsWide (Entries number) = number + 1 < 2 ^ 32

abbrev next : ScanRange → Bytes
next (RowsOf table) = table_prefix (table + 1)
next (Entries number) = index_prefix (number + 1)

end_of : (scan_range : ScanRange) → IsWide scan_range → end scan_range ≡ next scan_range
end_of (RowsOf table) wide = end_is 82 table wide
end_of (Entries number) wide = end_is 88 number wide

says_both : (a b : Bool) → a ≡ true → b ≡ true → a ≡ b
says_both a b e f = e ∙ sym f

says_neither : (a b : Bool) → a ≡ false → b ≡ false → a ≡ b
says_neither a b e f = e ∙ sym f

key_item : (scan_range : ScanRange) (k : KeyOf) (v : Bytes) → IsWide scan_range → IsKey k → Between (start scan_range) (next scan_range) (key_code k) → SaysValue k v → is_item_read scan_range (Ok k) ≡ is_empty v
key_item (RowsOf table) (Exists t key) v wide form inside says = says_both (t == table) (is_empty v) (eq-eqb t table (row_number t table key 0 form.0 wide inside.0 inside.1)) says
key_item (RowsOf table) (Column t key e) v wide form inside says = sym says
key_item (RowsOf table) (IndexKey e vs) v wide form inside says = absurd (index_no_row e vs (table + 1) inside.1)
key_item (Entries number) (Exists t key) v wide form inside says = absurd (inside.0 (row_no_index t key 0 number))
key_item (Entries number) (Column t key e) v wide form inside says = sym says
key_item (Entries number) (IndexKey e vs) v wide form inside says = says_both (e == number) (is_empty v) (eq-eqb e number (index_number e number vs form.0 wide inside.0 inside.1)) says

wide_scan_range : (element : ElementDef) (kind : Work) → HasRange element.table element.number → IsWide (scan_range_of element kind)
wide_scan_range element Fill range = range.table_below
wide_scan_range element Clear range = by_kind element.kind
  where
    by_kind : (k : Kind) → IsWide (cleared k element)
    by_kind (Index columns) = range.number_below
    by_kind (Optional type) = range.table_below
    by_kind (Required type fallback) = range.table_below

pub items_empty : ItemsEmpty
items_empty version element kind P R range c x v at inside =
    let scan_range = scan_range_of element kind in
    let wide = wide_scan_range element kind range in
    let f : HasForm x = c.forms x v at in
    let at_key : map.get P (key_code f.key) ≡ Some v = ap (map.get P) (sym f.encoded) ∙ at in
    let between : Between (start scan_range) (next scan_range) (key_code f.key)
    = subst (Between (start scan_range) (next scan_range)) f.encoded (subst (λ (high : Bytes). Between (start scan_range) high x) (end_of scan_range wide) (between_test (start scan_range) (end scan_range) x inside)) in
    ap (is_item scan_range) f.encoded ∙ ap (is_item_read scan_range) (key_again f.key f.form) ∙ key_item scan_range f.key v wide f.form between (key_says version P R c f.key v f.form at_key)
