-- Each item is of another row of the element's table.
use Rattle.std.proofs.Common.{◌≡◌, ◌≢◌, ℕ, suc, ◌+◌, ◌≤◌, ◌==◌, Bool, true, false, cond, List, [], ◌∷◌, length, Option, Some, None, ◌⊎◌, inl, inr, refl, sym, ap, subst, ◌∙◌, arith, eqb, eq-eqb, length-append}
use Rattle.std.specs.Prelude.{filter}
use Rattle.std.specs.List.{AllByRecursion}
use Rattle.std.specs.FinMap as map
use Rattle.std.specs.Ordering.{eq_by_cmp}
use Rattle.std.specs.FinMap.Entries.{find}
use Rattle.std.specs.declared.cmp.Ordering.TheVariants.{Less}
use Rattle.std.proofs.lemmas.List.Elements.{filter_map-append}
use Rattle.byte_map.proofs.Order.{bytes_cmp_total, bytes_cmp-IsAntisymmetric}
use Rattle.byte_map.proofs.Written.{same_or_apart, tied, apart}
use Rattle.keycode.specs.declared.value.Value.{Value}
use Rattle.keycode.specs.Order.{bytes_cmp}
use Rattle.row_map.specs.declared.key.KeyOf.TheVariants.{Exists, Index as IndexKey}
use Rattle.row_map.specs.Keys.{key_code, row_code, IsKey}
use Rattle.row_map.specs.Ranges.{table_prefix}
use Rattle.row_map.specs.ReadKey.{key_at}
use Rattle.row_map.specs.Rows.{Bytes, Cells, RowKey, Rows, row_cmp}
use Rattle.row_map.specs.Walk.{key_range}
use Rattle.row_map.proofs.KeyLaws.{key_again}
use Rattle.row_map.proofs.KeyRanges.{key_range_sorted}
use Rattle.row_map.proofs.Orders.{row_cmp_total, row_cmp-IsAntisymmetric}
use Rattle.row_map.proofs.Ranges.{row_before_next, row_not_before, row_number}
use Rattle.schema_version.specs.declared.element.ElementDef.{ElementDef}
use Rattle.schema_version.specs.declared.element.ElementState.{ElementState}
use Rattle.schema_version.specs.declared.element.ElementState.TheVariants.{Absent, DeleteOnly, WriteOnly, Public}
use Rattle.schema_version.specs.declared.element.Kind.{Kind}
use Rattle.schema_version.specs.declared.element.Kind.TheVariants.{Index, Optional, Required}
use Rattle.schema_version.specs.declared.element.Work.{Work}
use Rattle.schema_version.specs.declared.element.Work.TheVariants.{Fill, Clear}
use Rattle.schema_version.specs.Version.{element_at}
use Rattle.schema_version.proofs.Lists.{some_same}
use Rattle.element_state.specs.Consistent.{DemandOf, IsConsistent}
use Rattle.element_state.specs.Elements.{Demand, IsFromScratch, owner, owner_read}
use Rattle.element_state.specs.Exists.{row_key}
use Rattle.element_state.specs.Items.{IsIn}
use Rattle.element_state.specs.Kinds.{kind_meaning}
use Rattle.element_state.specs.Sources.{source_in}
use Rattle.element_state.specs.Tables.{within, some_in}
use Rattle.reorganise.specs.declared.work.Span.{Span}
use Rattle.reorganise.specs.declared.work.Progress.{Progress}
use Rattle.reorganise.specs.Left.{left_in}
use Rattle.reorganise.specs.Partition.{AreJoined}
use Rattle.reorganise.specs.ScanRanges.{scan_range_of, cleared, item_key, item_keys, items, start, end, IsItemKey}
use Rattle.reorganise.proofs.Bounds.{item_formed}
use Rattle.reorganise.proofs.Order.{le, join}
use Rattle.reorganise.proofs.Shares.{joined_le}
use Rattle.replay.specs.Kept.{IsBegun, IsInPiece, IsKept, IsReached}
use Rattle.replay.specs.Replay.{Facts, progress_of}
use Rattle.replay.proofs.Agree.{consistent}
use Rattle.replay.proofs.Begun.{found}
use Rattle.replay.proofs.Soundness.{lawful_entry, small}
use Rattle.rollout.specs.Pieces.{work_ahead, items_of, items_by, rows_in, ItemsAreRows}
use Rattle.rollout.proofs.Fewer.{AreStrict, item_there, keys_strict, not_itself}

none_some : {A B : Type 0} {x : A} → None ≡ Some x → B
none_some e = absurd cc

-- ---- keys that come from a list

-- the key is that of one of the list
abbrev ComesFrom : {A : Type 0} → (A → Bytes) → Bytes → List A → Type 0
ComesFrom f x [] = ⊥
ComesFrom f x (y ∷ ys) = (x ≡ f y) ⊎ ComesFrom f x ys

-- the keys but one
record Without (k : Bytes) (xs : List Bytes) : Type 0 where
  rest : List Bytes
  strict : AreStrict rest
  shorter : length xs ≤ suc (length rest)
  others : (z : Bytes) → IsIn z rest → IsIn z xs × (z ≢ k)

without : (k : Bytes) (xs : List Bytes) → AreStrict xs → Without k xs
without k [] s = record { rest = []; strict = tt; shorter = omega arith; others = λ z m. absurd m }
without k (x ∷ xs) s = by (same_or_apart bytes_cmp_total bytes_cmp-IsAntisymmetric k x) (without k xs s.1)
  where
    by : (k ≡ x) ⊎ (k ≢ x) → Without k xs → Without k (x ∷ xs)
    by (inl is) r = record { rest = xs; strict = s.1; shorter = omega arith; others = λ z m. (inr m, λ e. not_itself x (subst (λ (w : Bytes). bytes_cmp x w ≡ Less) (e ∙ is) (s.0 z m))) }
    by (inr ne) r =
        let fewer = r.shorter in
        record {
          rest = x ∷ r.rest;
          strict = (λ z m. s.0 z (r.others z m).0, r.strict);
          shorter = omega (arith, fewer);
          others = λ z m. elim m [ inl is ↦ (inl is, λ e. ne (sym e ∙ is)) | inr later ↦ (inr (r.others z later).0, (r.others z later).1) ];
        }

-- different keys that all come from a list are no more than it has
fit : {A : Type 0} (f : A → Bytes) (xs : List Bytes) (ys : List A) → AreStrict xs → ((z : Bytes) → IsIn z xs → ComesFrom f z ys) → length xs ≤ length ys
fit f [] [] s from = omega arith
fit f (x ∷ xs) [] s from = absurd (from x (inl refl))
fit f xs (y ∷ ys) s from =
    let w = without (f y) xs s in
    let fewer = w.shorter in
    let rest = fit f w.rest ys w.strict (λ z m. by z (from z (w.others z m).0) (w.others z m).1) in
    omega (arith, fewer, rest)
  where
    by : (z : Bytes) → (z ≡ f y) ⊎ ComesFrom f z ys → z ≢ f y → ComesFrom f z ys
    by z (inl is) ne = absurd (ne is)
    by z (inr later) ne = later

-- ---- keys that come from the rows of a table

module _ (f : RowKey × Cells → Bytes) (table : ℕ) where
  from_found : (es : List (RowKey × Cells)) (k : RowKey) (r : Cells) → find row_cmp k es ≡ Some r → eqb k.0 table ≡ true → ComesFrom f (f (k, r)) (filter (λ (e : RowKey × Cells). e.0.0 == table) es)
  from_found [] k r at its = none_some at
  from_found (e ∷ es) k r at its = elim (same_or_apart row_cmp_total row_cmp-IsAntisymmetric k e.0) [
    | inl is ↦ here is (some_same (sym (ap (λ (t : Bool). cond t (Some e.1) (find row_cmp k es)) (ap (λ (q : RowKey). eq_by_cmp row_cmp q e.0) is ∙ tied row_cmp_total row_cmp-IsAntisymmetric e.0)) ∙ at)) (eqb e.0.0 table) (ap (λ (q : RowKey). eqb q.0 table) (sym is) ∙ its)
    | inr ne ↦ later (eqb e.0.0 table) (from_found es k r (sym (ap (λ (t : Bool). cond t (Some e.1) (find row_cmp k es)) (apart row_cmp_total row_cmp-IsAntisymmetric k e.0 ne)) ∙ at) its)
  ]
    where
      here : k ≡ e.0 → e.1 ≡ r → (b : Bool) → b ≡ true → ComesFrom f (f (k, r)) (cond b (e ∷ filter (λ (e : RowKey × Cells). e.0.0 == table) es) (filter (λ (e : RowKey × Cells). e.0.0 == table) es))
      here is same true t = inl (λ i. f (is i, sym same i))
      here is same false t = absurd cc

      later : (b : Bool) → ComesFrom f (f (k, r)) (filter (λ (e : RowKey × Cells). e.0.0 == table) es) → ComesFrom f (f (k, r)) (cond b (e ∷ filter (λ (e : RowKey × Cells). e.0.0 == table) es) (filter (λ (e : RowKey × Cells). e.0.0 == table) es))
      later true m = inr m
      later false m = m

  from_row : (R : Rows) (k : RowKey) (r : Cells) → map.get R k ≡ Some r → eqb k.0 table ≡ true → (x : Bytes) → x ≡ f (k, r) → ComesFrom f x (filter (λ (e : RowKey × Cells). e.0.0 == table) (map.entries R))
  from_row R k r at its x is = subst (λ (y : Bytes). ComesFrom f y (filter (λ (e : RowKey × Cells). e.0.0 == table) (map.entries R))) (sym is) (from_found (map.entries R) k r (sym (map.get-entries R k) ∙ at) its)

-- ---- items

module _ (facts : Facts) (kept : IsKept facts) where
  consistent_so : IsConsistent facts.newest facts.rows facts.pairs
  consistent_so = consistent facts.newest facts.rows facts.pairs kept.core_kept.newest kept.core_kept.formed kept.rows

  module _ (e : ElementDef) (n : ℕ) (there : element_at facts.newest n ≡ Some e) where
    abbrev row_key_of : RowKey × Cells → Bytes
    row_key_of row = row_key row.0

    -- the key of a row's `exists` pair
    from_table : (x v : Bytes) (key : List Value) → IsKey (Exists e.table key) → x ≡ key_code (Exists e.table key) → map.get facts.pairs x ≡ Some v
        → ComesFrom row_key_of x (filter (λ (row : RowKey × Cells). row.0.0 == e.table) (map.entries facts.rows))
    from_table x v key form is at =
        let from = consistent_so.exists.subset x v (ap owner_read (ap key_at is ∙ key_again (Exists e.table key) form)) at in
        let fits = (small facts.newest kept.sound from.key.0 (kept.rows from.key from.cells from.there).table (kept.rows from.key from.cells from.there).known).0 in
        let wide = (lawful_entry facts.newest kept.sound n e there).range.table_below in
        let same : row_code from.key.0 from.key.1 0 ≡ row_code e.table key 0 = from.key_is ∙ is in
        let its : from.key.0 ≡ e.table =
        row_number from.key.0 e.table from.key.1 0 fits wide (λ less. row_not_before e.table key 0 form.0 (ap (λ (y : Bytes). bytes_cmp y (table_prefix e.table)) (sym same) ∙ less)) (ap (λ (y : Bytes). bytes_cmp y (table_prefix (e.table + 1))) same ∙ row_before_next e.table key 0 wide) in
        from_row row_key_of e.table facts.rows from.key from.cells from.there (eq-eqb from.key.0 e.table its) x (sym from.key_is)

    -- the key of an index's pair
    by_demand : (columns : _) (q : ElementState) (x v : Bytes) → Demand (within e.table (kind_meaning n (source_in facts.newest (Index columns)))) q facts.pairs facts.rows → owner x ≡ Some n → map.get facts.pairs x ≡ Some v
        → IsFromScratch (within e.table (kind_meaning n (source_in facts.newest (Index columns)))) facts.rows x v
    by_demand columns Absent x v demand owned at = none_some (sym (demand x owned) ∙ at)
    by_demand columns DeleteOnly x v demand owned at = demand x v owned at
    by_demand columns WriteOnly x v demand owned at = demand x v owned at
    by_demand columns Public x v demand owned at = demand.subset x v owned at

    from_index : (columns : List ℕ) → Demand (within e.table (kind_meaning n (source_in facts.newest (Index columns)))) e.state facts.pairs facts.rows → (x v : Bytes) → IsItemKey (cleared (Index columns) e) x → map.get facts.pairs x ≡ Some v
        → ComesFrom (λ row. (kind_meaning n (source_in facts.newest (Index columns))).pair_key row.0 row.1) x (filter (λ (row : RowKey × Cells). row.0.0 == e.table) (map.entries facts.rows))
    from_index columns demand x v key at =
        let own : e.number ≡ n = (kept.sound.elements n e there).own in
        let from = by_demand columns e.state x v demand (ap owner_read (ap key_at key.2 ∙ key_again (IndexKey e.number key.0) key.1) ∙ ap Some own) at in
        from_row (λ row. (kind_meaning n (source_in facts.newest (Index columns))).pair_key row.0 row.1) e.table facts.rows from.key from.cells from.there
        (some_in (eqb from.key.0 e.table) ((kind_meaning n (source_in facts.newest (Index columns))).pair_value from.key from.cells) v from.value_is).0 x (sym from.key_is)

    fit_rows : (w : Work) (f : RowKey × Cells → Bytes) → ((x v : Bytes) → IsItemKey (scan_range_of e w) x → map.get facts.pairs x ≡ Some v → ComesFrom f x (filter (λ (row : RowKey × Cells). row.0.0 == e.table) (map.entries facts.rows)))
        → length (items (scan_range_of e w) facts.pairs) ≤ rows_in e.table facts.rows
    fit_rows w f from =
        fit f (items (scan_range_of e w) facts.pairs) (filter (λ (row : RowKey × Cells). row.0.0 == e.table) (map.entries facts.rows))
        (keys_strict e w (key_range facts.pairs (start (scan_range_of e w)) (end (scan_range_of e w))) (key_range_sorted facts.pairs (start (scan_range_of e w)) (end (scan_range_of e w))))
        (λ z m.
        let t = item_there e w facts.pairs (start (scan_range_of e w)) (end (scan_range_of e w)) z m in
        from z t.2.0 (item_formed (scan_range_of e w) z (kept.core_kept.formed z t.2.0 t.2.1) t.0) t.2.1)

    fit_clear : (k : Kind) → e.kind ≡ k → Demand (within e.table (kind_meaning n (source_in facts.newest k))) e.state facts.pairs facts.rows → length (items (scan_range_of e Clear) facts.pairs) ≤ rows_in e.table facts.rows
    fit_clear (Index columns) is demand =
        fit_rows Clear (λ row. (kind_meaning n (source_in facts.newest (Index columns))).pair_key row.0 row.1) (λ x v key at. from_index columns demand x v (subst (λ (k : Kind). IsItemKey (cleared k e) x) is key) at)
    fit_clear (Optional type) is demand = fit_rows Clear row_key_of (λ x v key at. let its = subst (λ (k : Kind). IsItemKey (cleared k e) x) is key in from_table x v its.0 its.1 its.2 at)
    fit_clear (Required type fallback) is demand = fit_rows Clear row_key_of (λ x v key at. let its = subst (λ (k : Kind). IsItemKey (cleared k e) x) is key in from_table x v its.0 its.1 its.2 at)

    demand_so : Demand (within e.table (kind_meaning n (source_in facts.newest e.kind))) e.state facts.pairs facts.rows
    demand_so = subst (λ (o : Option ElementDef). DemandOf facts.newest n o facts.pairs facts.rows) there (consistent_so.elements n (kept.sound.elements n e there).first)

    items_fit : (w : Work) → length (items (scan_range_of e w) facts.pairs) ≤ rows_in e.table facts.rows
    items_fit Fill = fit_rows Fill row_key_of (λ x v key at. from_table x v key.0 key.1 key.2 at)
    items_fit Clear = fit_clear e.kind refl demand_so

    ahead_fit : (o : Option Work) → items_of facts.pairs (Some e) o ≤ rows_in e.table facts.rows
    ahead_fit None = omega arith
    ahead_fit (Some w) = items_fit w

  -- ---- what is left in pieces

  parts : (e : ElementDef) (w : Work) (a b c : Bytes) → le a b ≡ true → le b c ≡ true
      → length (item_keys (scan_range_of e w) (key_range facts.pairs a c)) ≡ length (item_keys (scan_range_of e w) (key_range facts.pairs a b)) + length (item_keys (scan_range_of e w) (key_range facts.pairs b c))
  parts e w a b c ab bc =
      ap (λ ps. length (item_keys (scan_range_of e w) ps)) (join facts.pairs a b c ab bc)
      ∙ ap length (filter_map-append (item_key (scan_range_of e w)) (key_range facts.pairs a b) (key_range facts.pairs b c))
      ∙ length-append (item_keys (scan_range_of e w) (key_range facts.pairs a b)) (item_keys (scan_range_of e w) (key_range facts.pairs b c))

  left_fit : (e : ElementDef) (w : Work) (low high : Bytes) (pieces : List Span) → AreJoined low high pieces → AllByRecursion IsReached pieces → AllByRecursion IsInPiece pieces
      → left_in (scan_range_of e w) facts.pairs pieces ≤ length (item_keys (scan_range_of e w) (key_range facts.pairs low high))
  left_fit e w low high [] joined reached inside = omega arith
  left_fit e w low high (s ∷ ss) joined reached inside =
      let from : le low s.high ≡ true = subst (λ (x : Bytes). le x s.high ≡ true) joined.0 joined.1 in
      let at : le low s.cursor ≡ true = subst (λ (x : Bytes). le x s.cursor ≡ true) joined.0 reached.0 in
      let all = parts e w low s.high high from (joined_le s.high high ss joined.2) in
      let one = parts e w low s.cursor s.high at inside.0 in
      let rest = left_fit e w s.high high ss joined.2 reached.1 inside.1 in
      omega (arith, all, one, rest)

  begun_fit : (n : ℕ) (e : ElementDef) → element_at facts.newest n ≡ Some e → (o : Option Progress) → progress_of facts.progress n ≡ o → items_by facts.pairs (Some e) o ≤ rows_in e.table facts.rows
  begun_fit n e there None is = ahead_fit e n there (work_ahead (Some e))
  begun_fit n e there (Some p) is =
      let b = found (IsBegun facts.newest) facts.progress n p kept.begun is in
      let its : element_at facts.newest n ≡ Some p.element = ap (element_at facts.newest) (sym b.1) ∙ b.0.element in
      let same : p.element ≡ e = some_same (sym its ∙ there) in
      let pieces = kept.in_pieces n p is in
      let left = left_fit p.element p.kind (start (scan_range_of p.element p.kind)) (end (scan_range_of p.element p.kind)) p.pieces b.0.joined pieces.reached pieces.cursors in
      let all = items_fit p.element n its p.kind in
      let table : rows_in p.element.table facts.rows ≡ rows_in e.table facts.rows = ap (λ (x : ElementDef). rows_in x.table facts.rows) same in
      omega (arith, left, all, table)

pub items_are_rows : ItemsAreRows
items_are_rows facts n e kept there =
    subst (λ (o : Option ElementDef). items_by facts.pairs o (progress_of facts.progress n) ≤ rows_in e.table facts.rows) (sym there) (begun_fit facts kept n e there (progress_of facts.progress n) refl)
