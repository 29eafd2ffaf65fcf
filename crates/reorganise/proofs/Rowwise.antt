-- The rows whose `exists` pairs are among the pairs between two cursors are the rows between them.
use Rattle.std.proofs.Common.{◌≡◌, ℕ, ◌==◌, Bool, true, false, ◌&&◌, cond, eqb, eqb-true, eq-eqb, List, [], ◌∷◌, filter, Option, Some, None, Ok, refl, sym, ap, subst, ◌∙◌, inl, inr}
use Rattle.std.specs.List.{AllByRecursion, flat_map}
use Rattle.std.specs.FinMap as map
use Rattle.byte_map.proofs.Order.{bytes_cmp_total, bytes_cmp-IsAntisymmetric}
use Rattle.keycode.specs.declared.value.Value.{Value}
use Rattle.keycode.specs.Order.{bytes_cmp}
use Rattle.row_map.specs.declared.key.KeyOf.{KeyOf}
use Rattle.row_map.specs.declared.key.KeyOf.TheVariants.{Exists, Column, Index as IndexKey}
use Rattle.row_map.specs.Keys.{key_code, IsKey}
use Rattle.row_map.specs.ReadKey.{key_at}
use Rattle.row_map.specs.Rows.{Bytes, RowKey, Cells, Rows, Pairs, AreStorable, row_cmp}
use Rattle.row_map.specs.Writes.{Writes, written_all}
use Rattle.row_map.specs.Ranges.{is_within}
use Rattle.row_map.proofs.KeyLaws.{key_again}
use Rattle.row_map.proofs.Orders.{row_cmp_total, row_cmp-IsAntisymmetric}
use Rattle.row_map.proofs.Entries.{each_entry}
use Rattle.element_state.specs.Elements.{HasForm, AreFormed, Exact, IsFromScratch, owner, owner_named}
use Rattle.element_state.specs.Exists.{row_key, exists_meaning}
use Rattle.element_state.specs.lemmas.ExistsLaws.{one_key}
use Rattle.element_state.specs.Items.{row_items, AmongEntries}
use Rattle.element_state.specs.lemmas.Clears.{entry_kept, facts_kept}
use Rattle.reorganise.specs.ScanRanges.{row_read, row_at}
use Rattle.reorganise.specs.Pieces.{part}
use Rattle.reorganise.proofs.Items.{Pair}
use Rattle.reorganise.proofs.Order.{get-part, some_in, and_true}
use Rattle.reorganise.proofs.SameKeys.{Named, AllGive, all_give, From, named_from, Among, named_among, written_same}

pub same_some : {A : Type 0} (v w : A) → Some v ≡ Some w → v ≡ w
same_some v w e = cc

some_none : {A B : Type 0} (v : A) → Some v ≡ None → B
some_none v e = absurd cc

pub both_true : (a b : Bool) → a ≡ true → b ≡ true → (a && b) ≡ true
both_true true b p q = q
both_true false b p q = cc

-- ---- entries of a map

unfiltered : {A : Type 0} (es : List A) → filter (λ e. true) es ≡ es
unfiltered [] = refl
unfiltered (e ∷ es) = ap (λ (l : List _). e ∷ l) (unfiltered es)

among_facts : {K X : Type 0} (F G : K × X → Type 0) (k : K) (es : List (K × X)) → AmongEntries k es → AllByRecursion F es → ((e : K × X) → e.0 ≡ k → F e → G e) → Among G es
among_facts F G k [] at all h = absurd at
among_facts F G k (e ∷ es) at all h = elim at [
  | inl here ↦ inl (h e here all.0)
  | inr later ↦ inr (among_facts F G k es later all.1 h)
]

no_facts : {A : Type 0} (es : List A) → AllByRecursion (λ e. Unit {0}) es
no_facts [] = tt
no_facts (e ∷ es) = (tt, no_facts es)

-- a pair that is there is an entry
pair_among : (m : Pairs) (x v : Bytes) → map.get m x ≡ Some v → Among (λ (e : Pair). e.0 ≡ x) (map.entries m)
pair_among m x v at =
    among_facts (λ (e : Pair). Unit {0}) (λ (e : Pair). e.0 ≡ x) x (map.entries m)
    (subst (AmongEntries x) (unfiltered (map.entries m)) (entry_kept bytes_cmp_total bytes_cmp-IsAntisymmetric (λ (e : Pair). true) m x v at refl))
    (no_facts (map.entries m)) (λ e is _. is)

-- ---- rows

-- the key of a row's `exists` pair
row_form : (table : ℕ) (key : List Value) (k : KeyOf) → row_read table (Ok k) ≡ Some key → k ≡ Exists table key
row_form table key (Exists t k) e =
    let s = some_in (t == table) (Some k) key e in
    λ i. Exists (eqb-true t table s.0 i) (same_some k key s.1 i)
row_form table key (Column t k c) e = cc
row_form table key (IndexKey c values) e = cc

module _ (P : Pairs) (R : Rows) (low high : Bytes) (table : ℕ) (held : AreStorable R) (formed : AreFormed P) (exact : Exact exists_meaning P R) where
  -- a row of the table between the cursors
  pub record RowThere (key : List Value) : Type 0 where
    pub cells : Cells
    pub there : map.get R (table, key) ≡ Some cells
    pub inside : is_within low high (row_key (table, key)) ≡ true

  row_of_item : (x v : Bytes) (key : List Value) → map.get (part P low high) x ≡ Some v → row_at table x ≡ Some key → RowThere key
  row_of_item x v key at is =
      let w = some_in (is_within low high x) (map.get P x) v (sym (get-part P low high x) ∙ at) in
      let f : HasForm x = formed x v w.1 in
      let read : key_at x ≡ Ok f.key = ap key_at f.encoded ∙ key_again f.key f.form in
      let k_is : f.key ≡ Exists table key = row_form table key f.key (ap (row_read table) (sym read) ∙ is) in
      let form : IsKey (Exists table key) = subst IsKey k_is f.form in
      let x_is : x ≡ row_key (table, key) = f.encoded ∙ ap key_code k_is in
      let own : owner x ≡ Some 0 = owner_named 0 x (record { key = Exists table key; form = form; encoded = x_is; names = refl }) in
      let s : IsFromScratch exists_meaning R x v = exact.subset x v own w.1 in
      let row = held s.key s.cells s.there in
      let same : s.key ≡ (table, key) = one_key s.key (table, key) row.table row.primary form (s.key_is ∙ x_is) in
      record {
        cells = s.cells;
        there = ap (map.get R) (sym same) ∙ s.there;
        inside = ap (is_within low high) (sym x_is) ∙ w.0;
      }

  item_there : (k : RowKey) (cells : Cells) → map.get R k ≡ Some cells → is_within low high (row_key k) ≡ true → map.get (part P low high) (row_key k) ≡ Some []
  item_there k cells there w = get-part P low high (row_key k) ∙ ap (λ b. cond b (map.get P (row_key k)) None) w ∙ exact.covered k cells [] there refl

  item_of_row : (k : RowKey) (cells : Cells) → map.get R k ≡ Some cells → k.0 ≡ table → row_at table (row_key k) ≡ Some k.1
  item_of_row k cells there tables =
      let row = held k cells there in
      ap (row_read table) (key_again (Exists k.0 k.1) (row.table, row.primary)) ∙ ap (λ b. cond b (Some k.1) None) (eq-eqb k.0 table tables)

  -- what is written for each `exists` pair that was read is what is written for each row between the cursors
  pub rows_same : (g : Option (List Value) → Writes) (h : RowKey × Cells → Writes) (o : Option Bytes) → g None ≡ [] → ((key : List Value) (r : RowThere key) → AllGive o (g (Some key)))
      → ((key : List Value) (r : RowThere key) → g (Some key) ≡ h ((table, key), r.cells))
      → written_all P (flat_map (λ (e : Pair). g (row_at table e.0)) (map.entries (part P low high))) ≡ written_all P (flat_map h (row_items (λ t. eqb t table) R low high))
  rows_same g h o none give same =
      let f : Pair → Writes = λ (e : Pair). g (row_at table e.0) in
      let test : RowKey × Cells → Bool = λ (e : RowKey × Cells). eqb e.0.0 table && is_within low high (row_key e.0) in
      let pairs_there : AllByRecursion (λ (e : Pair). map.get (part P low high) e.0 ≡ Some e.1) (map.entries (part P low high)) =
      each_entry bytes_cmp bytes_cmp_total bytes_cmp-IsAntisymmetric (λ x v. map.get (part P low high) x ≡ Some v) (part P low high) (λ x v at. at) in
      let rows_there : AllByRecursion (λ (e : RowKey × Cells). (map.get R e.0 ≡ Some e.1) × (test e ≡ true)) (filter test (map.entries R)) =
      facts_kept row_cmp_total row_cmp-IsAntisymmetric test (λ (e : RowKey × Cells). map.get R e.0 ≡ Some e.1) (map.entries R)
      (each_entry row_cmp row_cmp_total row_cmp-IsAntisymmetric (λ k r. map.get R k ≡ Some r) R (λ k r at. at)) in
      written_same o (flat_map f (map.entries (part P low high))) (flat_map h (filter test (map.entries R))) (all_give o f (λ (e : Pair). map.get (part P low high) e.0 ≡ Some e.1) (λ e at. gives_at e.0 e.1 at (row_at table e.0) refl) (map.entries (part P low high)) pairs_there)
      (all_give o h (λ (e : RowKey × Cells). (map.get R e.0 ≡ Some e.1) × ((eqb e.0.0 table && is_within low high (row_key e.0)) ≡ true)) gives_row (filter test (map.entries R)) rows_there)
      (λ q at.
      let i = named_from q f (λ (e : Pair). map.get (part P low high) e.0 ≡ Some e.1) (map.entries (part P low high)) pairs_there at in
      by_row q i.item.0 i.item.1 i.fact (row_at table i.item.0) refl i.named)
      (λ q at. from q (named_from q h (λ (e : RowKey × Cells). (map.get R e.0 ≡ Some e.1) × ((eqb e.0.0 table && is_within low high (row_key e.0)) ≡ true)) (filter test (map.entries R)) rows_there at))
      P
    where
      gives_at : (x v : Bytes) → map.get (part P low high) x ≡ Some v → (k : Option (List Value)) → row_at table x ≡ k → AllGive o (g k)
      gives_at x v at None is = subst (AllGive o) (sym none) tt
      gives_at x v at (Some key) is = give key (row_of_item x v key at is)

      -- a row between the cursors, as one of the table
      at_row : (i : RowKey × Cells) → (map.get R i.0 ≡ Some i.1) × ((eqb i.0.0 table && is_within low high (row_key i.0)) ≡ true) → (r : RowThere i.0.1) × (g (Some i.0.1) ≡ h i)
      at_row i fact =
          let k : RowKey = i.0 in
          let t = and_true (eqb k.0 table) (is_within low high (row_key k)) fact.1 in
          let tables : k.0 ≡ table = eqb-true k.0 table t.0 in
          let k_is : k ≡ (table, k.1) = λ j. (tables j, k.1) in
          let r : RowThere k.1 = record { cells = i.1; there = ap (map.get R) (sym k_is) ∙ fact.0; inside = ap (λ (l : RowKey). is_within low high (row_key l)) (sym k_is) ∙ t.1 } in
          (r, same k.1 r ∙ ap (λ (l : RowKey). h (l, i.1)) (sym k_is))

      gives_row : (i : RowKey × Cells) → (map.get R i.0 ≡ Some i.1) × ((eqb i.0.0 table && is_within low high (row_key i.0)) ≡ true) → AllGive o (h i)
      gives_row i fact = let a = at_row i fact in subst (AllGive o) a.1 (give i.0.1 a.0)

      row_named : (q : Bytes) (key : List Value) (r : RowThere key) → Named q (g (Some key)) → Named q (flat_map h (row_items (λ t. eqb t table) R low high))
      row_named q key r n =
          let k : RowKey = (table, key) in
          named_among q h (λ (i : RowKey × Cells). i ≡ (k, r.cells)) (λ i is. subst (λ (j : RowKey × Cells). Named q (h j)) (sym is) (subst (Named q) (same key r) n)) (row_items (λ t. eqb t table) R low high)
          (among_facts (λ (e : RowKey × Cells). (map.get R e.0 ≡ Some e.1) × ((eqb e.0.0 table && is_within low high (row_key e.0)) ≡ true)) (λ (i : RowKey × Cells). i ≡ (k, r.cells)) k (row_items (λ t. eqb t table) R low high)
          (entry_kept row_cmp_total row_cmp-IsAntisymmetric (λ (e : RowKey × Cells). eqb e.0.0 table && is_within low high (row_key e.0)) R k r.cells r.there (both_true (eqb table table) (is_within low high (row_key k)) (eq-eqb table table refl) r.inside))
          (facts_kept row_cmp_total row_cmp-IsAntisymmetric (λ (e : RowKey × Cells). eqb e.0.0 table && is_within low high (row_key e.0)) (λ (e : RowKey × Cells). map.get R e.0 ≡ Some e.1) (map.entries R)
          (each_entry row_cmp row_cmp_total row_cmp-IsAntisymmetric (λ j c. map.get R j ≡ Some c) R (λ j c at. at)))
          (λ e is fact. λ i. (is i, same_some e.1 r.cells (sym fact.0 ∙ ap (map.get R) is ∙ r.there) i)))

      by_row : (q x v : Bytes) → map.get (part P low high) x ≡ Some v → (k : Option (List Value)) → row_at table x ≡ k → Named q (g k) → Named q (flat_map h (row_items (λ t. eqb t table) R low high))
      by_row q x v at None is n = absurd (subst (Named q) none n)
      by_row q x v at (Some key) is n = row_named q key (row_of_item x v key at is) n

      from : (q : Bytes) → From q h (λ (e : RowKey × Cells). (map.get R e.0 ≡ Some e.1) × ((eqb e.0.0 table && is_within low high (row_key e.0)) ≡ true)) → Named q (flat_map (λ (e : Pair). g (row_at table e.0)) (map.entries (part P low high)))
      from q i =
          let k : RowKey = i.item.0 in
          let t = and_true (eqb k.0 table) (is_within low high (row_key k)) i.fact.1 in
          let tables : k.0 ≡ table = eqb-true k.0 table t.0 in
          let n : Named q (g (Some k.1)) = subst (Named q) (sym (at_row i.item i.fact).1) i.named in
          named_among q (λ (e : Pair). g (row_at table e.0)) (λ (e : Pair). e.0 ≡ row_key k)
          (λ e is. subst (λ o. Named q (g o)) (sym (ap (row_at table) is ∙ item_of_row k i.item.1 i.fact.0 tables)) n)
          (map.entries (part P low high)) (pair_among (part P low high) (row_key k) [] (item_there k i.item.1 i.fact.0 t.1))
