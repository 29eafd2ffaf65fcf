-- A piece of a clear removes each item between its cursors.
use Rattle.std.proofs.Common.{◌≡◌, ℕ, ◌+◌, ◌<◌, ◌^◌, ◌==◌, Bool, true, false, ◌&&◌, cond, eqb, eqb-true, eq-eqb, List, [], ◌∷◌, ◌++◌, filter, Option, Some, None, Ok, refl, sym, ap, subst, ◌∙◌}
use Rattle.std.specs.List.{AllByRecursion, flat_map}
use mathlib.Core.List.{map as each}
use Rattle.std.specs.FinMap as map
use Rattle.std.specs.FinMap.Entries.{where_key}
use Rattle.byte_map.proofs.Order.{bytes_cmp_total, bytes_cmp-IsAntisymmetric}
use Rattle.byte_map.proofs.Written.{laid-noted}
use Rattle.keycode.specs.declared.value.Value.{Value}
use Rattle.keycode.specs.Order.{bytes_cmp}
use Rattle.row_map.specs.declared.key.KeyOf.{KeyOf}
use Rattle.row_map.specs.declared.key.KeyOf.TheVariants.{Exists, Column, Index as IndexKey}
use Rattle.row_map.specs.Keys.{key_code, IsKey, row_code, index_code}
use Rattle.row_map.specs.Rows.{Bytes, RowKey, Cells, Rows, Pairs, AreStorable}
use Rattle.row_map.specs.Writes.{Writes, written_all}
use Rattle.row_map.specs.Ranges.{is_within, index_prefix}
use Rattle.row_map.proofs.KeyLaws.{key_again}
use Rattle.row_map.proofs.Entries.{each_entry}
use Rattle.row_map.proofs.Ranges.{index_not_before, index_before_next, index_number, row_no_index}
use Rattle.schema_version.specs.declared.element.Kind.{Kind}
use Rattle.schema_version.specs.declared.element.Kind.TheVariants.{Index, Optional, Required}
use Rattle.schema_version.specs.declared.element.ElementDef.{ElementDef}
use Rattle.element_state.specs.Elements.{HasForm, AreFormed, Exact}
use Rattle.element_state.specs.Exists.{exists_meaning}
use Rattle.element_state.specs.Kinds.{kind_clear}
use Rattle.element_state.specs.Sources.{source_alone}
use Rattle.element_state.specs.Index.{index_items}
use Rattle.element_state.specs.Column.{column_pair, column_items}
use Rattle.element_state.specs.Items.{clear_writes, row_items}
use Rattle.element_state.specs.lemmas.Clears.{test_between, between_test}
use Rattle.schema_version.specs.declared.element.Work.TheVariants.{Clear}
use Rattle.reorganise.specs.declared.scan_range.ScanRange.TheVariants.{Entries}
use Rattle.reorganise.specs.ScanRanges.{row_at, is_item_read, is_item}
use Rattle.reorganise.specs.Pieces.{part}
use Rattle.reorganise.specs.Batches.{cell_removed, removed_of, piece_writes}
use Rattle.reorganise.specs.Laws.{ClearLays}
use Rattle.reorganise.proofs.Items.{Pair}
use Rattle.reorganise.proofs.Order.{entries-part}
use Rattle.reorganise.proofs.SameKeys.{AllGive}
use Rattle.reorganise.proofs.Expectations.{part_is}
use Rattle.reorganise.proofs.Rowwise.{rows_same}

-- ---- an index

-- the removal of one key
abbrev taken : Bytes → Writes
taken x = (x, None) ∷ []

-- the writes for the pairs whose keys pass a test
picked : (p : Bytes → Bool) (f : Bytes → Writes) (es : List Pair) → flat_map (λ (e : Pair). f e.0) (where_key bytes_cmp p es) ≡ flat_map (λ (e : Pair). cond (p e.0) (f e.0) []) es
picked p f [] = refl
picked p f (e ∷ es) =
    let rest = picked p f es in
    elim (p e.0) as (λ b. flat_map (λ (d : Pair). f d.0) (cond b (e ∷ where_key bytes_cmp p es) (where_key bytes_cmp p es)) ≡ cond b (f e.0) [] ++ flat_map (λ (d : Pair). cond (p d.0) (f d.0) []) es) [
      | true ↦ ap (λ (ws : Writes). f e.0 ++ ws) rest
      | false ↦ rest
    ]

-- the same of a clear's items
picked_clear : (p : Bytes → Bool) (es : List Pair) → clear_writes (filter p (each (λ (e : Pair). e.0) es)) ≡ flat_map (λ (e : Pair). cond (p e.0) (taken e.0) []) es
picked_clear p [] = refl
picked_clear p (e ∷ es) =
    let rest = picked_clear p es in
    elim (p e.0) as (λ b. clear_writes (cond b (e.0 ∷ filter p (each (λ (d : Pair). d.0) es)) (filter p (each (λ (d : Pair). d.0) es))) ≡ cond b (taken e.0) [] ++ flat_map (λ (d : Pair). cond (p d.0) (taken d.0) []) es) [
      | true ↦ ap (λ (ws : Writes). taken e.0 ++ ws) rest
      | false ↦ rest
    ]

-- writes that are the same for each formed key
same_each : (f g : Bytes → Writes) → ((x : Bytes) → HasForm x → f x ≡ g x) → (es : List Pair) → AllByRecursion (λ (e : Pair). HasForm e.0) es → flat_map (λ (e : Pair). f e.0) es ≡ flat_map (λ (e : Pair). g e.0) es
same_each f g same [] all = refl
same_each f g same (e ∷ es) all = λ i. same e.0 all.0 i ++ same_each f g same es all.1 i

-- two tests that hold together
same_test : (a b : Bool) → (a ≡ true → b ≡ true) → (b ≡ true → a ≡ true) → a ≡ b
same_test true b p q = sym (p refl)
same_test false true p q = q refl
same_test false false p q = refl

-- a formed key is the index's exactly when it lies in the index's range
module _ (n : ℕ) (fits : n + 1 < 2 ^ 32) where
  no_row : {A : Type 0} (table : ℕ) (key : List Value) (element : ℕ) → is_within (index_prefix n) (index_prefix (n + 1)) (row_code table key element) ≡ true → A
  no_row table key element w = absurd ((between_test (index_prefix n) (index_prefix (n + 1)) (row_code table key element) w).0 (row_no_index table key element n))

  in_range : (k : KeyOf) → IsKey k → is_item_read (Entries n) (Ok k) ≡ is_within (index_prefix n) (index_prefix (n + 1)) (key_code k)
  in_range (Exists table key) f = same_test false (is_within (index_prefix n) (index_prefix (n + 1)) (row_code table key 0)) (λ e. cc) (no_row table key 0)
  in_range (Column table key element) f = same_test false (is_within (index_prefix n) (index_prefix (n + 1)) (row_code table key element)) (λ e. cc) (no_row table key element)
  in_range (IndexKey m values) f =
      same_test (m == n) (is_within (index_prefix n) (index_prefix (n + 1)) (index_code m values))
      (λ e. inside (eqb-true m n e))
      (λ w.
      let b = between_test (index_prefix n) (index_prefix (n + 1)) (index_code m values) w in
      eq-eqb m n (index_number m n values f.0 fits b.0 b.1))
    where
      inside : m ≡ n → is_within (index_prefix n) (index_prefix (n + 1)) (index_code m values) ≡ true
      inside e = test_between (index_prefix n) (index_prefix (n + 1)) (index_code m values) (
        λ less. index_not_before m values f.0 (ap (λ k. bytes_cmp (index_code m values) (index_prefix k)) e ∙ less),
        ap (λ k. bytes_cmp (index_code m values) (index_prefix (k + 1))) (sym e) ∙ index_before_next m values (subst (λ k. k + 1 < 2 ^ 32) (sym e) fits),
      )

  item_is : (x : Bytes) → HasForm x → is_item (Entries n) x ≡ is_within (index_prefix n) (index_prefix (n + 1)) x
  item_is x f =
      ap (is_item (Entries n)) f.encoded ∙ ap (is_item_read (Entries n)) (key_again f.key f.form) ∙ in_range f.key f.form ∙ ap (is_within (index_prefix n) (index_prefix (n + 1))) (sym f.encoded)

  one_removal : (a b c : Bool) (x : Bytes) → a ≡ b → cond c (cond a (taken x) []) [] ≡ cond (b && c) (taken x) []
  one_removal a true true x e = ap (λ t. cond t (taken x) []) e
  one_removal a true false x e = refl
  one_removal a false true x e = ap (λ t. cond t (taken x) []) e
  one_removal a false false x e = refl

  index_cleared : (R : Rows) (P : Pairs) (low high : Bytes) → AreFormed P → flat_map (λ (e : Pair). cond (is_item (Entries n) e.0) (taken e.0) []) (map.entries (part P low high)) ≡ clear_writes (index_items n R P low high)
  index_cleared R P low high formed =
      ap (flat_map (λ (e : Pair). cond (is_item (Entries n) e.0) (taken e.0) [])) (entries-part P low high)
      ∙ picked (is_within low high) (λ x. cond (is_item (Entries n) x) (taken x) []) (map.entries P)
      ∙ same_each (λ x. cond (is_within low high x) (cond (is_item (Entries n) x) (taken x) []) []) (λ x. cond (is_within (index_prefix n) (index_prefix (n + 1)) x && is_within low high x) (taken x) [])
      (λ x f. one_removal (is_item (Entries n) x) (is_within (index_prefix n) (index_prefix (n + 1)) x) (is_within low high x) x (item_is x f)) (map.entries P)
      (each_entry bytes_cmp bytes_cmp_total bytes_cmp-IsAntisymmetric (λ x v. HasForm x) P formed)
      ∙ sym (picked_clear (λ x. is_within (index_prefix n) (index_prefix (n + 1)) x && is_within low high x) (map.entries P))

-- ---- a column

removals_each : (n : ℕ) (items : List (RowKey × Cells)) → clear_writes (each (λ (e : RowKey × Cells). column_pair n e.0) items) ≡ flat_map (λ (i : RowKey × Cells). taken (column_pair n i.0)) items
removals_each n [] = refl
removals_each n (i ∷ items) = ap (λ (ws : Writes). (column_pair n i.0, None) ∷ ws) (removals_each n items)

cell_gives : (element : ElementDef) (key : Option (List Value)) → AllGive None (cell_removed element key)
cell_gives element None = tt
cell_gives element (Some key) = (refl, tt)

column_cleared : (element : ElementDef) (P : Pairs) (R : Rows) (low high : Bytes) → AreStorable R → AreFormed P → Exact exists_meaning P R
    → written_all P (flat_map (λ (e : Pair). cell_removed element (row_at element.table e.0)) (map.entries (part P low high))) ≡ written_all P (clear_writes (column_items element.table element.number R P low high))
column_cleared element P R low high held formed exact =
    rows_same P R low high element.table held formed exact (cell_removed element) (λ (i : RowKey × Cells). taken (column_pair element.number i.0)) None refl (λ key r. cell_gives element (Some key)) (λ key r. refl)
    ∙ ap (written_all P) (sym (removals_each element.number (row_items (λ t. eqb t element.table) R low high)))

-- ---- either

cleared_by : (kind : Kind) (element : ElementDef) (P : Pairs) (R : Rows) (low high : Bytes) → AreStorable R → AreFormed P → Exact exists_meaning P R → element.number + 1 < 2 ^ 32
    → written_all P (flat_map (λ (e : Pair). removed_of kind element e.0) (map.entries (part P low high))) ≡ written_all P (clear_writes ((kind_clear element.table element.number (source_alone kind)).items R P low high))
cleared_by (Index columns) element P R low high held formed exact fits = ap (written_all P) (index_cleared element.number fits R P low high formed)
cleared_by (Optional type) element P R low high held formed exact fits = column_cleared element P R low high held formed exact
cleared_by (Required type fallback) element P R low high held formed exact fits = column_cleared element P R low high held formed exact

pub clear_lays : ClearLays
clear_lays read P R r kind holds held formed exact range =
    let element = read.element in
    laid-noted bytes_cmp_total bytes_cmp-IsAntisymmetric (piece_writes read.key_range.pairs element read.kind) P
    ∙ ap (λ w. written_all P (piece_writes read.key_range.pairs element w)) kind
    ∙ ap (λ (pairs : Pairs). written_all P (piece_writes pairs element Clear)) (sym (part_is read P r holds))
    ∙ cleared_by element.kind element P R read.key_range.low read.key_range.high held formed exact range.number_below
