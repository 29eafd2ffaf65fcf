-- The row that is read is the row that the view encodes.
use Rattle.std.proofs.Common.{◌≡◌, ◌≢◌, ◌&&◌, ◌<◌, ◌+◌, ℕ, zero, suc, Bool, true, false, cond, T, List, [], ◌∷◌, length, get_or, take, Option, Some, None, option_map, inl, inr, refl, sym, ap, subst, ◌∙◌, arith, Contains}
use Rattle.std.specs.List.{AllByRecursion}
use Rattle.std.specs.declared.cmp.Ordering.{Ordering}
use Rattle.std.specs.declared.cmp.Ordering.TheVariants.{Less, Equal, Greater}
use Rattle.std.specs.Ordering.{nat_cmp, eq_by_cmp, is_lt, is_eq}
use Rattle.std.specs.Cmp.{nat_cmp_total}
use Rattle.std.specs.FinMap.{get, find, from_entries, get-from_entries, is_sorted, nat_cmp-IsAntisymmetric}
use Rattle.std.specs.FinMap.Entries.{below_all}
use Rattle.collections.proofs.Steps.{AllByRecursion-take_more}
use Rattle.byte_map.proofs.Written.{written_here, written_apart, same_or_apart, tied, apart}
use Rattle.keycode.specs.declared.value.Value.{Value}
use Rattle.keycode.specs.Code.{code}
use Rattle.row_map.specs.declared.shape.ColumnType.{ColumnType}
use Rattle.row_map.specs.Keys.{row_code}
use Rattle.row_map.specs.Rows.{Bytes, RowKey, Cells, Rows}
use Rattle.row_map.specs.Expect.{View}
use Rattle.row_map.specs.Writes.{written}
use Rattle.row_map.proofs.Orders.{row_cmp_total, row_cmp-IsAntisymmetric}
use Rattle.schema_version.specs.Version.{Version}
use Rattle.schema_version.specs.Shape.{column_types}
use Rattle.schema_version.proofs.Lists.{here, later, here_or_later, some_same}
use Rattle.row_write.specs.declared.op.RowOp.{RowOp}
use Rattle.row_write.specs.Plain.{table_of, row_of}
use Rattle.row_write.specs.Reads.{IsPublicColumn}
use Rattle.row_write.specs.Prepare.{IsEncodedCell, IsEncodedRow}
use Rattle.row_write.specs.inner.IndexedColumns.{IsServed}
use Rattle.row_write.specs.inner.View.{IsCell, with_prefix, AreCells, visible_at, IsVisible, cells_there}
use Rattle.row_write.proofs.Columns.{column_listed, listed_column, columns_rise}

second : (a b : Bool) → T (a && b) → T b
second true b h = h
second false b h = absurd h

first : (a b : Bool) → T (a && b) → T a
first true b h = tt
first false b h = absurd h

less_apart : (r : Ordering) → T (is_lt r) → is_eq r ≡ false
less_apart Less h = refl
less_apart Equal h = absurd h
less_apart Greater h = absurd h

no_some : {A B : Type 0} (v : A) → None ≡ Some v → B
no_some v e = absurd cc

some_no : {A B : Type 0} (v : A) → Some v ≡ None → B
some_no v e = absurd cc

-- ---- the cells of columns, by number

module _ (there : Bool) (visible : ℕ → Option (Option Bytes)) where
  none_found : (columns : List (ℕ × ColumnType)) (cells : List (ℕ × Value)) (q : ℕ) → AreCells there visible columns cells → T (below_all nat_cmp q columns) → find nat_cmp q cells ≡ None
  none_found [] cells q e below = ap (find nat_cmp q) e
  none_found (c ∷ columns) cells q (cell, rest, i, e, more) below =
      ap (find nat_cmp q) e ∙ past cell ∙ none_found columns rest q more (second _ _ below)
    where
      past : (o : Option Value) → find nat_cmp q (with_prefix c.0 o rest) ≡ find nat_cmp q rest
      past None = refl
      past (Some v) = ap (λ b. cond b (Some v) (find nat_cmp q rest)) (less_apart (nat_cmp q c.0) (first _ _ below))

  cell_of : (columns : List (ℕ × ColumnType)) (cells : List (ℕ × Value)) (n : ℕ) (type : ColumnType) → T (is_sorted nat_cmp columns) → AreCells there visible columns cells → Contains columns (n, type) → IsCell type there (visible n) (find nat_cmp n cells)
  cell_of [] cells n type sorted h (k, below, is) = absurd (omega (arith, below))
  cell_of (c ∷ columns) cells n type sorted (cell, rest, i, e, more) at = elim (here_or_later c (n, type) columns at) [
    | inl same ↦
        subst (λ (d : ℕ × ColumnType). IsCell d.1 there (visible d.0) (find nat_cmp d.0 cells)) same
        (subst (IsCell c.1 there (visible c.0)) (sym (ap (find nat_cmp c.0) e ∙ at_prefix cell)) i)
    | inr later_on ↦ subst (λ l. IsCell type there (visible n) (find nat_cmp n l)) (sym e)
        (subst (IsCell type there (visible n)) (sym (behind cell (above columns n type (first _ _ sorted) later_on))) (cell_of columns rest n type (second _ _ sorted) more later_on))
  ]
    where
      at_prefix : (o : Option Value) → find nat_cmp c.0 (with_prefix c.0 o rest) ≡ o
      at_prefix None = none_found columns rest c.0 more (first _ _ sorted)
      at_prefix (Some v) = ap (λ b. cond b (Some v) (find nat_cmp c.0 rest)) (tied nat_cmp_total nat_cmp-IsAntisymmetric c.0)

      above : (cs : List (ℕ × ColumnType)) (m : ℕ) (t : ColumnType) → T (below_all nat_cmp c.0 cs) → Contains cs (m, t) → m ≢ c.0
      above [] m t below (k, lt, is) = absurd (omega (arith, lt))
      above (d ∷ cs) m t below has = elim (here_or_later d (m, t) cs has) [
        | inl same ↦ λ eq.
            let less : T (is_lt (nat_cmp c.0 d.0)) = first _ _ below in
            let one : d.0 ≡ c.0 = (λ i. (same i).0) ∙ eq in
            let tie : is_eq (nat_cmp c.0 d.0) ≡ true = ap (λ x. eq_by_cmp nat_cmp c.0 x) one ∙ tied nat_cmp_total nat_cmp-IsAntisymmetric c.0 in
            let wrong : false ≡ true = sym (less_apart (nat_cmp c.0 d.0) less) ∙ tie in
            cc
        | inr more_on ↦ above cs m t (second _ _ below) more_on
      ]

      behind : (o : Option Value) → n ≢ c.0 → find nat_cmp n (with_prefix c.0 o rest) ≡ find nat_cmp n rest
      behind None ne = refl
      behind (Some v) ne = ap (λ b. cond b (Some v) (find nat_cmp n rest)) (apart nat_cmp_total nat_cmp-IsAntisymmetric n c.0 ne)

  cells_from : (columns : List (ℕ × ColumnType)) (cell : (n : ℕ) (type : ColumnType) → Contains columns (n, type) → Option Value)
      → ((n : ℕ) (type : ColumnType) (at : Contains columns (n, type)) → IsCell type there (visible n) (cell n type at)) → (cells : List (ℕ × Value)) × AreCells there visible columns cells
  cells_from [] cell h = ([], refl)
  cells_from (c ∷ columns) cell h =
      let r = cells_from columns (λ n type at. cell n type (later c (n, type) columns at)) (λ n type at. h n type (later c (n, type) columns at)) in
      let own = cell c.0 c.1 (here c columns) in
      (with_prefix c.0 own r.0, (own, r.0, h c.0 c.1 (here c columns), refl, r.1))

-- ---- the row of a key

-- as IsEncodedRow says it of a row of the rows
pub record IsEncodedAs (v : Version) (view : View) (key : RowKey) (row : Option Cells) : Type 0 where
  pub absent : row ≡ None → get view (row_code key.0 key.1 0) ≡ Some None
  pub present : (cells : Cells) → row ≡ Some cells → get view (row_code key.0 key.1 0) ≡ Some (Some [])
  pub no_columns : (number : ℕ) (type : ColumnType) → IsPublicColumn v key.0 number type → row ≡ None → get view (row_code key.0 key.1 number) ≡ Some None
  pub columns : (number : ℕ) (type : ColumnType) (cells : Cells) → IsPublicColumn v key.0 number type → row ≡ Some cells → IsEncodedCell v key.0 number type (get view (row_code key.0 key.1 number)) (get cells number)

to_row : (v : Version) (view : View) (rows : Rows) (op : RowOp) → IsEncodedAs v view (row_of op) (get rows (row_of op)) → IsEncodedRow v view rows op
to_row v view rows op s = record { absent = s.absent; present = s.present; no_columns = s.no_columns; columns = s.columns }

pub of_row : (v : Version) (view : View) (rows : Rows) (op : RowOp) → IsEncodedRow v view rows op → IsEncodedAs v view (row_of op) (get rows (row_of op))
of_row v view rows op s = record { absent = s.absent; present = s.present; no_columns = s.no_columns; columns = s.columns }

module _ (v : Version) (served : IsServed v) (view : View) where
  visible_encoded : (op : RowOp) (there : Bool) (cells : List (ℕ × Value)) → IsVisible view op (column_types v (table_of op)) there cells → IsEncodedAs v view (row_of op) (cells_there there cells)
  visible_encoded op true cells (exists, all) =
      let cell = λ (n : ℕ) (type : ColumnType) (p : IsPublicColumn v (table_of op) n type). cell_of true (visible_at view op) (column_types v (table_of op)) cells n type (columns_rise v served (table_of op)) all (column_listed v served (table_of op) n type p) in
      let read : (n : ℕ) (r : Cells) → cells_there true cells ≡ Some r → find nat_cmp n cells ≡ get r n = λ n r e. sym (get-from_entries nat_cmp_total cells n) ∙ ap (λ (m : Cells). get m n) (some_same e) in
      record {
        absent = λ e. some_no (from_entries {R = nat_cmp} cells) e;
        present = λ r e. exists;
        no_columns = λ n type p e. some_no (from_entries {R = nat_cmp} cells) e;
        columns = λ n type r p e. record {
          own = get r n;
          held = (cell n type p).visible_is ∙ ap (λ o. Some (option_map code o)) (read n r e);
          typed = λ value at. (cell n type p).typed value (read n r e ∙ at);
          same = refl;
        };
      }
  visible_encoded op false cells (exists, all) =
      let cell = λ (n : ℕ) (type : ColumnType) (p : IsPublicColumn v (table_of op) n type). cell_of false (visible_at view op) (column_types v (table_of op)) cells n type (columns_rise v served (table_of op)) all (column_listed v served (table_of op) n type p) in
      record {
        absent = λ e. exists;
        present = λ r e. no_some r e;
        no_columns = λ n type p e. (cell n type p).visible_is ∙ ap (λ o. Some (option_map code o)) ((cell n type p).absent refl);
        columns = λ n type r p e. no_some r e;
      }

  encoded_visible : (op : RowOp) (row : Option Cells) → IsEncodedAs v view (row_of op) row → (there : Bool) × (cells : List (ℕ × Value)) × IsVisible view op (column_types v (table_of op)) there cells
  encoded_visible op None s =
      let r = cells_from false (visible_at view op) (column_types v (table_of op)) (λ n type at. None) (λ n type at. record {
        visible_is = s.no_columns n type (listed_column v served (table_of op) n type at) refl;
        absent = λ _. refl;
        typed = λ value e. no_some value e;
      }) in
      (false, r.0, (s.absent refl, r.1))
  encoded_visible op (Some cells) s =
      let own = λ (n : ℕ) (type : ColumnType) (at : Contains (column_types v (table_of op)) (n, type)). s.columns n type cells (listed_column v served (table_of op) n type at) refl in
      let r = cells_from true (visible_at view op) (column_types v (table_of op)) (λ n type at. (own n type at).own) (λ n type at. record {
        visible_is = (own n type at).held;
        absent = λ (e : true ≡ false). absurd cc;
        typed = (own n type at).typed;
      }) in
      (true, r.0, (s.present cells refl, r.1))

  pub encoded_is_visible : (op : RowOp) (rows : Rows) → IsEncodedRow v view rows op → (there : Bool) × (cells : List (ℕ × Value)) × IsVisible view op (column_types v (table_of op)) there cells
  encoded_is_visible op rows s = encoded_visible op (get rows (row_of op)) (of_row v view rows op s)

  -- ---- one more row that was read

  still : (ops : List RowOp) (op : RowOp) (rows : Rows) (row : Option Cells) → IsEncodedAs v view (row_of op) row → AllByRecursion (IsEncodedRow v view rows) ops → AllByRecursion (IsEncodedRow v view (written rows (row_of op) row)) ops
  still [] op rows row s all = tt
  still (p ∷ ops) op rows row s all = (
    to_row v view (written rows (row_of op) row) p (elim (same_or_apart row_cmp_total row_cmp-IsAntisymmetric (row_of p) (row_of op)) [
      | inl same ↦
          let at : get (written rows (row_of op) row) (row_of p) ≡ row = ap (get (written rows (row_of op) row)) same ∙ written_here row_cmp_total row_cmp-IsAntisymmetric rows (row_of op) row in
          subst (IsEncodedAs v view (row_of p)) (sym at) (subst (λ (k : RowKey). IsEncodedAs v view k row) (sym same) s)
      | inr other ↦ subst (IsEncodedAs v view (row_of p)) (sym (written_apart row_cmp_total row_cmp-IsAntisymmetric rows (row_of op) row (row_of p) other)) (of_row v view rows p all.0)
    ]),
    still ops op rows row s all.1,
  )

  pub encoded_once : (op : RowOp) (rows next : Rows) (there : Bool) (cells : List (ℕ × Value)) → IsVisible view op (column_types v (table_of op)) there cells → next ≡ written rows (row_of op) (cells_there there cells) → IsEncodedRow v view next op
  encoded_once op rows next there cells visible made =
      let at : get next (row_of op) ≡ cells_there there cells = ap (λ (m : Rows). get m (row_of op)) made ∙ written_here row_cmp_total row_cmp-IsAntisymmetric rows (row_of op) (cells_there there cells) in
      to_row v view next op (subst (IsEncodedAs v view (row_of op)) (sym at) (visible_encoded op there cells visible))

  pub encoded_more : (ops : List RowOp) (i : ℕ) (op : RowOp) (rows next : Rows) (there : Bool) (cells : List (ℕ × Value)) → i < length ops → op ≡ get_or ops i op → IsVisible view op (column_types v (table_of op)) there cells
      → next ≡ written rows (row_of op) (cells_there there cells) → AllByRecursion (IsEncodedRow v view rows) (take i ops) → AllByRecursion (IsEncodedRow v view next) (take (i + 1) ops)
  encoded_more ops i op rows next there cells lt is visible made all =
      let s = visible_encoded op there cells visible in
      AllByRecursion-take_more (IsEncodedRow v view next) ops i op lt
      (subst (λ (m : Rows). AllByRecursion (IsEncodedRow v view m) (take i ops)) (sym made) (still (take i ops) op rows (cells_there there cells) s all))
      (subst (IsEncodedRow v view next) is (encoded_once op rows next there cells visible made))

pub all_at : {X : Type 0} (P : X → Type 0) (xs : List X) (i : ℕ) (d : X) → i < length xs → AllByRecursion P xs → P (get_or xs i d)
all_at P [] i d lt all = absurd (omega arith)
all_at P (x ∷ xs) zero d lt all = all.0
all_at P (x ∷ xs) (suc i) d lt all = all_at P xs i d (omega arith) all.1
