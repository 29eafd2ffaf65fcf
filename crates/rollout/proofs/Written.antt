-- A piece adds no item to the range of any fill or clear.
use Rattle.std.proofs.Common.{◌≡◌, ◌≢◌, ℕ, ◌+◌, ◌<◌, ◌^◌, Bool, true, false, cond, List, [], ◌∷◌, ◌++◌, Option, Some, None, ◌⊎◌, inl, inr, refl, sym, ap, subst, ◌∙◌, arith}
use Rattle.std.specs.List.{flat_map}
use Rattle.std.specs.FinMap as map
use Rattle.byte_map.proofs.Order.{bytes_cmp_total, bytes_cmp-IsAntisymmetric}
use Rattle.byte_map.proofs.Written.{same_or_apart, written_here, written_apart}
use Rattle.keycode.specs.declared.value.Value.{Value}
use Rattle.row_map.specs.declared.key.KeyOf.TheVariants.{Exists, Index as IndexKey}
use Rattle.row_map.specs.Keys.{key_code, index_code, IsKey}
use Rattle.row_map.specs.Rows.{Bytes, Pairs, Rows}
use Rattle.row_map.specs.ReadKey.{key_at}
use Rattle.row_map.specs.Ranges.{index_prefix}
use Rattle.keycode.specs.Order.{bytes_cmp}
use Rattle.row_map.specs.Writes.{Writes, written, written_all}
use Rattle.row_map.proofs.KeyLaws.{key_again}
use Rattle.row_map.proofs.Ranges.{index_number, index_not_before, index_before_next, row_not_index}
use Rattle.schema_version.specs.declared.element.Kind.{Kind}
use Rattle.schema_version.specs.declared.element.Kind.TheVariants.{Index, Optional, Required}
use Rattle.schema_version.specs.declared.element.ElementDef.{ElementDef}
use Rattle.schema_version.specs.declared.element.Work.{Work}
use Rattle.schema_version.specs.declared.element.Work.TheVariants.{Fill, Clear}
use Rattle.element_state.specs.Elements.{AreFormed, Exact, owner_read}
use Rattle.element_state.specs.Exists.{exists_meaning}
use Rattle.element_state.specs.Items.{put_pair}
use Rattle.element_state.specs.Operations.{fill_pair, cells_of}
use Rattle.element_state.specs.Kinds.{kind_meaning}
use Rattle.element_state.specs.Sources.{source_alone}
use Rattle.reorganise.specs.ScanRanges.{scan_range_of, cleared, is_item, IsItemKey, row_at}
use Rattle.reorganise.proofs.Bounds.{item_formed}
use Rattle.reorganise.specs.Batches.{row_in, row_put, cell_removed, removed_of, pair_writes, piece_writes}
use Rattle.rollout.proofs.Fewer.{HasItemsOf}

-- ---- writes that put nothing at a key

abbrev pub PutNone : Bytes → Writes → Type 0
PutNone x [] = Unit {0}
PutNone x (w ∷ ws) = (x ≡ w.0 → w.1 ≡ None) × PutNone x ws

puts-append : (x : Bytes) (ws us : Writes) → PutNone x ws → PutNone x us → PutNone x (ws ++ us)
puts-append x [] us p q = q
puts-append x (w ∷ ws) us p q = (p.0, puts-append x ws us p.1 q)

puts_all : {A : Type 0} (x : Bytes) (f : A → Writes) → ((a : A) → PutNone x (f a)) → (xs : List A) → PutNone x (flat_map f xs)
puts_all x f each [] = tt
puts_all x f each (a ∷ xs) = puts-append x (f a) (flat_map f xs) (each a) (puts_all x f each xs)

none_some : {A B : Type 0} {x : A} → None ≡ Some x → B
none_some e = absurd cc

-- what is there after such writes was there before
was_there : (x v : Bytes) (ws : Writes) (P : Pairs) → PutNone x ws → map.get (written_all P ws) x ≡ Some v → map.get P x ≡ Some v
was_there x v [] P none at = at
was_there x v (w ∷ ws) P none at = by (same_or_apart bytes_cmp_total bytes_cmp-IsAntisymmetric x w.0) (was_there x v ws (written P w.0 w.1) none.1 at)
  where
    by : (x ≡ w.0) ⊎ (x ≢ w.0) → map.get (written P w.0 w.1) x ≡ Some v → map.get P x ≡ Some v
    by (inl is) after = none_some (sym (none.0 is) ∙ sym (written_here bytes_cmp_total bytes_cmp-IsAntisymmetric P w.0 w.1) ∙ ap (map.get (written P w.0 w.1)) (sym is) ∙ after)
    by (inr ne) after = sym (written_apart bytes_cmp_total bytes_cmp-IsAntisymmetric P w.0 w.1 x ne) ∙ after

-- ---- what a clear writes

clear_none : (x : Bytes) (kind : Kind) (element : ElementDef) (name : Bytes) → PutNone x (removed_of kind element name)
clear_none x (Index columns) element name = by (is_item (scan_range_of (record element { kind = Index [] }) Clear) name)
  where
    by : (b : Bool) → PutNone x (cond b ((name, None) ∷ []) [])
    by true = (λ e. refl, tt)
    by false = tt
clear_none x (Optional type) element name = by (row_at element.table name)
  where
    by : (o : Option (List Value)) → PutNone x (cell_removed element o)
    by None = tt
    by (Some key) = (λ e. refl, tt)
clear_none x (Required type fallback) element name = by (row_at element.table name)
  where
    by : (o : Option (List Value)) → PutNone x (cell_removed element o)
    by None = tt
    by (Some key) = (λ e. refl, tt)

-- ---- what a fill writes: a key of its own element

-- two indexes have no key in common
index_apart : (m n : ℕ) (us vs : List Value) → m < 2 ^ 32 → n + 1 < 2 ^ 32 → index_code m us ≡ index_code n vs → m ≡ n
index_apart m n us vs fits wide same =
    index_number m n us fits wide (λ e. index_not_before n vs (omega (arith, wide)) (ap (λ (x : Bytes). bytes_cmp x (index_prefix n)) (sym same) ∙ e)) (ap (λ (x : Bytes). bytes_cmp x (index_prefix (n + 1))) same ∙ index_before_next n vs wide)

-- the key of an index of this number is not put
fill_none : (pairs : Pairs) (element : ElementDef) (n : ℕ) (values : List Value) → n < 2 ^ 32 → element.number + 1 < 2 ^ 32 → n ≢ element.number → (name : Bytes) → PutNone (index_code n values) (row_put pairs element (row_at element.table name))
fill_none pairs element n values fits wide ne name = by (row_at element.table name)
  where
    put : (key : List Value) (kind : Kind) → PutNone (index_code n values) (put_pair (fill_pair (kind_meaning element.number (source_alone kind)) (element.table, key) (cells_of (row_in pairs element key))))
    put key (Index columns) = (λ e. absurd (ne (index_apart n element.number values _ fits wide e)), tt)
    put key (Optional type) = tt
    put key (Required type fallback) = (λ e. absurd (row_not_index element.table key element.number n values (sym e)), tt)

    by : (o : Option (List Value)) → PutNone (index_code n values) (row_put pairs element o)
    by None = tt
    by (Some key) = put key element.kind

piece_none : (pairs : Pairs) (element : ElementDef) (work : Work) (n : ℕ) (values : List Value) → n < 2 ^ 32 → element.number + 1 < 2 ^ 32 → (work ≡ Clear) ⊎ (n ≢ element.number) → PutNone (index_code n values) (piece_writes pairs element work)
piece_none pairs element Clear n values fits wide apart = puts_all (index_code n values) (λ (e : Bytes × Bytes). pair_writes pairs element Clear e.0) (λ e. clear_none (index_code n values) element.kind element e.0) (map.entries pairs)
piece_none pairs element Fill n values fits wide (inl e) = absurd cc
piece_none pairs element Fill n values fits wide (inr ne) = puts_all (index_code n values) (λ (e : Bytes × Bytes). pair_writes pairs element Fill e.0) (λ e. fill_none pairs element n values fits wide ne e.0) (map.entries pairs)

-- ---- items

-- an item of the rows of a table is one of the pairs that the rows give, before the piece as after it
module _ (P Q : Pairs) (R : Rows) (formed : AreFormed Q) (before : Exact exists_meaning P R) (after : Exact exists_meaning Q R) where
  row_there : (x v : Bytes) (t : ℕ) (key : List Value) → IsKey (Exists t key) → x ≡ key_code (Exists t key) → map.get Q x ≡ Some v → (w : Bytes) × (map.get P x ≡ Some w)
  row_there x v t key form is at =
      let owned = ap owner_read (ap key_at is ∙ key_again (Exists t key) form) in
      let from = after.subset x v owned at in
      ([], ap (map.get P) (sym from.key_is) ∙ before.covered from.key from.cells [] from.there refl)

  module _ (element : ElementDef) (work : Work) (read : Pairs) (wide : element.number + 1 < 2 ^ 32) (written_so : Q ≡ written_all P (piece_writes read element work)) where
    entry_there : (x v : Bytes) (n : ℕ) (values : List Value) → IsKey (IndexKey n values) → x ≡ key_code (IndexKey n values) → (work ≡ Clear) ⊎ (n ≢ element.number) → map.get Q x ≡ Some v → (w : Bytes) × (map.get P x ≡ Some w)
    entry_there x v n values form is apart at =
        let none = subst (λ (y : Bytes). PutNone y (piece_writes read element work)) (sym is) (piece_none read element work n values form.0 wide apart) in
        (v, was_there x v (piece_writes read element work) P none (ap (λ (m : Pairs). map.get m x) (sym written_so) ∙ at))

    by_kind : (k : Kind) (e : ElementDef) (x v : Bytes) → (Clear ≡ work) ⊎ (e.number ≢ element.number) → IsItemKey (cleared k e) x → map.get Q x ≡ Some v → (w : Bytes) × (map.get P x ≡ Some w)
    by_kind (Index columns) e x v (inl same) key at = entry_there x v e.number key.0 key.1 key.2 (inl (sym same)) at
    by_kind (Index columns) e x v (inr apart) key at = entry_there x v e.number key.0 key.1 key.2 (inr apart) at
    by_kind (Optional type) e x v apart key at = row_there x v e.table key.0 key.1 key.2 at
    by_kind (Required type fallback) e x v apart key at = row_there x v e.table key.0 key.1 key.2 at

    -- the items after a piece were items before it: of its own work, and of any work of another element
    pub items_were : (e : ElementDef) (w : Work) → (w ≡ work) ⊎ (e.number ≢ element.number) → HasItemsOf e w P Q
    items_were e Fill apart x v item at = (let key = item_formed (scan_range_of e Fill) x (formed x v at) item in row_there x v e.table key.0 key.1 key.2 at)
    items_were e Clear apart x v item at = by_kind e.kind e x v apart (item_formed (scan_range_of e Clear) x (formed x v at) item) at
