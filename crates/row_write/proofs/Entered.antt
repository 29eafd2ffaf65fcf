-- The entered keys are those that are read.
use Rattle.std.proofs.Common.{◌≡◌, ◌↔◌, ℕ, Result, Ok, Err, IfOk, List, [], ◌∷◌, Option, Some, None, option_map, ◌⊎◌, inl, inr, refl, sym, ap, subst, ◌∙◌, arith, Contains}
use Rattle.std.specs.FinMap.{get, insert, empty, get-empty}
use Rattle.keycode.specs.Order.{bytes_cmp}
use Rattle.keycode.proofs.Orders.{bytes_cmp_total, bytes_cmp-IsAntisymmetric}
use Rattle.byte_map.proofs.Written.{written_here, written_apart, same_or_apart}
use Rattle.row_map.specs.declared.shape.ColumnType.{ColumnType}
use Rattle.row_map.specs.declared.shape.TableShape.{TableShape}
use Rattle.row_map.specs.Keys.{row_code}
use Rattle.row_map.specs.Rows.{Bytes}
use Rattle.schema_version.specs.Version.{Version, Table, table_at}
use Rattle.schema_version.specs.Shape.{column_types, key_types, shape_of}
use Rattle.schema_version.proofs.Lists.{here, later, here_or_later}
use Rattle.row_write.specs.declared.op.RowOp.{RowOp}
use Rattle.row_write.specs.Plain.{table_of, key_of}
use Rattle.row_write.specs.Reads.{IsRowKey, IsRead}
use Rattle.row_write.specs.inner.IndexedColumns.{IsServed}
use Rattle.row_write.specs.inner.Enter.{KeySet, entered, column_keys, row_keys, keys_in, op_keys, entered_all}
use Rattle.row_write.proofs.Columns.{column_listed, listed_column}

insert_here : (m : KeySet) (q : Bytes) → get (insert m q tt) q ≡ Some tt
insert_here m q = written_here bytes_cmp_total bytes_cmp-IsAntisymmetric m q (Some tt)

entered_kept : (keys : List Bytes) (m : KeySet) (q : Bytes) → get m q ≡ Some tt → get (entered m keys) q ≡ Some tt
entered_kept [] m q e = e
entered_kept (k ∷ keys) m q e = entered_kept keys (insert m k tt) q (elim (same_or_apart bytes_cmp_total bytes_cmp-IsAntisymmetric q k) [
  | inl same ↦ subst (λ x. get (insert m k tt) x ≡ Some tt) (sym same) (insert_here m k)
  | inr other ↦ written_apart bytes_cmp_total bytes_cmp-IsAntisymmetric m k (Some tt) q other ∙ e
])

entered_has : (keys : List Bytes) (m : KeySet) (q : Bytes) → Contains keys q → get (entered m keys) q ≡ Some tt
entered_has [] m q (k, below, is) = absurd (omega (arith, below))
entered_has (k ∷ keys) m q there = elim (here_or_later k q keys there) [
  | inl same ↦ entered_kept keys (insert m k tt) q (subst (λ x. get (insert m k tt) x ≡ Some tt) same (insert_here m k))
  | inr more ↦ entered_has keys (insert m k tt) q more
]

entered_from : (keys : List Bytes) (m : KeySet) (q : Bytes) → get (entered m keys) q ≡ Some tt → Contains keys q ⊎ (get m q ≡ Some tt)
entered_from [] m q e = inr e
entered_from (k ∷ keys) m q e = elim (entered_from keys (insert m k tt) q e) [
  | inl more ↦ inl (later k q keys more)
  | inr now ↦ elim (same_or_apart bytes_cmp_total bytes_cmp-IsAntisymmetric q k) [
    | inl same ↦ inl (subst (Contains (k ∷ keys)) (sym same) (here k keys))
    | inr other ↦ inr (sym (written_apart bytes_cmp_total bytes_cmp-IsAntisymmetric m k (Some tt) q other) ∙ now)
  ]
]

-- ---- the keys of one row

column_key_has : (op : RowOp) (columns : List (ℕ × ColumnType)) (c : ℕ × ColumnType) → Contains columns c → Contains (column_keys op columns) (row_code (table_of op) (key_of op) c.0)
column_key_has op [] c (k, below, is) = absurd (omega (arith, below))
column_key_has op (d ∷ columns) c there = elim (here_or_later d c columns there) [
  | inl same ↦ subst (λ (x : ℕ × ColumnType). Contains (column_keys op (d ∷ columns)) (row_code (table_of op) (key_of op) x.0)) same (here (row_code (table_of op) (key_of op) d.0) (column_keys op columns))
  | inr more ↦ later (row_code (table_of op) (key_of op) d.0) (row_code (table_of op) (key_of op) c.0) (column_keys op columns) (column_key_has op columns c more)
]

column_key_from : (op : RowOp) (columns : List (ℕ × ColumnType)) (q : Bytes) → Contains (column_keys op columns) q → (c : ℕ × ColumnType) × Contains columns c × (q ≡ row_code (table_of op) (key_of op) c.0)
column_key_from op [] q (k, below, is) = absurd (omega (arith, below))
column_key_from op (d ∷ columns) q there = elim (here_or_later (row_code (table_of op) (key_of op) d.0) q (column_keys op columns) there) [
  | inl same ↦ (d, here d columns, sym same)
  | inr more ↦ let r = column_key_from op columns q more in (r.0, later d r.0 columns r.1, r.2)
]

module _ (v : Version) (served : IsServed v) where
  abbrev pub InTable : RowOp → Bytes → Type 0
  InTable op q = ((table : Table) × (table_at v (table_of op) ≡ Some table)) × IsRowKey v (table_of op) (key_of op) q

  abbrev shape_from : RowOp → Option Table → Option TableShape
  shape_from op o = option_map (λ (table : Table). record { number = table_of op; key = key_types table.key; columns = column_types v (table_of op) }) o

  pub op_keys_are : (op : RowOp) (table : Table) → table_at v (table_of op) ≡ Some table → op_keys v op ≡ row_keys op (column_types v (table_of op))
  op_keys_are op table at = ap (λ o. keys_in op (shape_from op o)) at

  pub op_key_has : (op : RowOp) (q : Bytes) → InTable op q → Contains (op_keys v op) q
  op_key_has op q ((table, at), is) =
      let shape : shape_of v (table_of op) ≡ shape_from op (Some table) = ap (shape_from op) at in
      subst (λ o. Contains (keys_in op o) q) (sym shape) (elim is [
        | inl same ↦ subst (Contains (row_code (table_of op) (key_of op) 0 ∷ column_keys op (column_types v (table_of op)))) (sym same) (here (row_code (table_of op) (key_of op) 0) (column_keys op (column_types v (table_of op))))
        | inr column ↦ later (row_code (table_of op) (key_of op) 0) q (column_keys op (column_types v (table_of op)))
            (subst (Contains (column_keys op (column_types v (table_of op)))) (sym column.3) (column_key_has op (column_types v (table_of op)) (column.0, column.1) (column_listed v served (table_of op) column.0 column.1 column.2)))
      ])

  pub op_key_from : (op : RowOp) (q : Bytes) → Contains (op_keys v op) q → InTable op q
  op_key_from op q there =
      elim (table_at v (table_of op)) as (λ o. table_at v (table_of op) ≡ o → Contains (keys_in op (shape_from op o)) q → InTable op q) [
        | None ↦ λ _ t. absurd (omega (arith, t.1))
        | Some table ↦ λ at t. (
          (table, at),
          elim (here_or_later (row_code (table_of op) (key_of op) 0) q (column_keys op (column_types v (table_of op))) t) [
            | inl same ↦ inl (sym same)
            | inr more ↦ (let r = column_key_from op (column_types v (table_of op)) q more in inr (r.0.0, r.0.1, listed_column v served (table_of op) r.0.0 r.0.1 r.1, r.2))
          ],
        )
      ] refl there

  all_kept : (ops : List RowOp) (m : KeySet) (q : Bytes) → get m q ≡ Some tt → get (entered_all v m ops) q ≡ Some tt
  all_kept [] m q e = e
  all_kept (op ∷ ops) m q e = all_kept ops (entered m (op_keys v op)) q (entered_kept (op_keys v op) m q e)

  all_has : (ops : List RowOp) (m : KeySet) (q : Bytes) → IsRead v ops q → get (entered_all v m ops) q ≡ Some tt
  all_has [] m q (op, (k, below, is), table, key) = absurd (omega (arith, below))
  all_has (p ∷ ops) m q (op, there, table, key) = elim (here_or_later p op ops there) [
    | inl same ↦ all_kept ops (entered m (op_keys v p)) q (entered_has (op_keys v p) m q (op_key_has p q (subst (λ o. InTable o q) (sym same) (table, key))))
    | inr more ↦ all_has ops (entered m (op_keys v p)) q (op, more, table, key)
  ]

  all_from : (ops : List RowOp) (m : KeySet) (q : Bytes) → get (entered_all v m ops) q ≡ Some tt → IsRead v ops q ⊎ (get m q ≡ Some tt)
  all_from [] m q e = inr e
  all_from (op ∷ ops) m q e = elim (all_from ops (entered m (op_keys v op)) q e) [
    | inl more ↦ inl (more.0, later op more.0 ops more.1, more.2, more.3)
    | inr now ↦ elim (entered_from (op_keys v op) m q now) [
      | inl there ↦ (let r = op_key_from op q there in inl (op, here op ops, r.0, r.1))
      | inr old ↦ inr old
    ]
  ]

  pub reads_are : (ops : List RowOp) (q : Bytes) → (get (entered_all v empty ops) q ≡ Some tt) ↔ IsRead v ops q
  reads_are ops q = (
    λ e. elim (all_from ops empty q e) [
      | inl read ↦ read
      | inr none ↦ absurd (let x : None ≡ Some tt = sym (get-empty bytes_cmp q) ∙ none in cc)
    ],
    all_has ops empty q,
  )

  pub reads_ok : {E : Type 0} (ops : List RowOp) (r : Result KeySet E) → IfOk r (λ set. set ≡ entered_all v empty ops) → IfOk r (λ set. (key : Bytes) → (get set key ≡ Some tt) ↔ IsRead v ops key)
  reads_ok ops (Ok set) is = λ key. subst (λ (s : KeySet). (get s key ≡ Some tt) ↔ IsRead v ops key) (sym is) (reads_are ops key)
  reads_ok ops (Err e) is = tt
