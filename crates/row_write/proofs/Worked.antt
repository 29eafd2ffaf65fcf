-- The row that the last mention leaves is the row of the map.
use Rattle.std.proofs.Common.{◌≡◌, ◌==◌, ◌++◌, ℕ, Bool, true, false, cond, List, [], ◌∷◌, Option, Some, None, option_map, refl, sym, ap, ◌∙◌, IfSome, eqb-true, eq-eqb}
use Rattle.std.specs.Ordering.{eq_by_cmp, is_eq}
use Rattle.std.specs.Cmp.{Equal-is}
use Rattle.std.specs.FinMap.{get, empty, get-empty, same_map}
use mathlib.Core.List.{map as each}
use Rattle.std.proofs.lemmas.List.{map-append}
use Rattle.keycode.specs.declared.value.Value.{Value}
use Rattle.keycode.specs.Order.{values_cmp}
use Rattle.keycode.proofs.Orders.{values_cmp-IsAntisymmetric, values_cmp_total}
use Rattle.byte_map.proofs.Written.{get-written, written_all-append, tied, apart}
use Rattle.row_map.specs.declared.shape.Row.{Row}
use Rattle.row_map.specs.Rows.{RowKey, Rows, row_cmp}
use Rattle.row_map.specs.Writes.{written, written_all}
use Rattle.row_map.proofs.Orders.{row_cmp_total, row_cmp-IsAntisymmetric}
use Rattle.element_state.specs.Operations.{cells_of}
use Rattle.schema_version.proofs.Lists.{some_same}
use Rattle.row_write.specs.declared.work_rows.RowVersion.{RowVersion}
use Rattle.row_write.specs.inner.WorkRows.{cells_if, row_version_write, rows_of, is_about, row_if, last_row}
use Rattle.row_write.proofs.Decides.{both_true, and_true}

abbrev row_at : ℕ → List Value → RowKey
row_at table key = (table, key)

about_says : (table : ℕ) (key : List Value) (m : RowVersion) → is_about table key m ≡ true → (row_at m.table m.row.key ≡ row_at table key) × (m.row.key ≡ key)
about_says table key m e =
    let b = both_true (m.table == table) (is_eq (values_cmp m.row.key key)) e in
    let one : m.table ≡ table = eqb-true m.table table b.0 in
    let two : m.row.key ≡ key = values_cmp-IsAntisymmetric m.row.key key ((Equal-is (values_cmp m.row.key key)).0 b.1) in
    ((λ i. (one i, two i)), two)

about_from : (table : ℕ) (key : List Value) (m : RowVersion) → is_about table key m ≡ false → eq_by_cmp row_cmp (table, key) (m.table, m.row.key) ≡ false
about_from table key m e = apart row_cmp_total row_cmp-IsAntisymmetric (table, key) (m.table, m.row.key) (λ same.
    let one : m.table ≡ table = λ i. (sym same i).0 in
    let two : m.row.key ≡ key = λ i. (sym same i).1 in
    let yes : is_about table key m ≡ true = and_true (m.table == table) (is_eq (values_cmp m.row.key key)) (eq-eqb m.table table one) (ap (λ k. eq_by_cmp values_cmp m.row.key k) (sym two) ∙ tied values_cmp_total values_cmp-IsAntisymmetric m.row.key) in
    let wrong : true ≡ false = sym yes ∙ e in
    cc)

row_if_cells : (b : Bool) (row : Row) → option_map cells_of (cond b (Some row) None) ≡ cells_if b row
row_if_cells true row = refl
row_if_cells false row = refl

pub last_cells : (table : ℕ) (key : List Value) (before : Option Row) (ms : List RowVersion) (m : Rows) → option_map cells_of before ≡ get m (table, key)
    → option_map cells_of (last_row table key before ms) ≡ get (written_all m (each row_version_write ms)) (table, key)
last_cells table key before [] m e = e
last_cells table key before (x ∷ ms) m e =
    elim (is_about table key x) as (λ b. is_about table key x ≡ b → option_map cells_of (last_row table key (cond b (row_if x) before) ms) ≡ get (written_all (written m (x.table, x.row.key) (cells_if x.there x.row)) (each row_version_write ms)) (table, key)) [
      | true ↦ λ p. last_cells table key (row_if x) ms (written m (x.table, x.row.key) (cells_if x.there x.row))
          (row_if_cells x.there x.row ∙ sym (get-written row_cmp_total row_cmp-IsAntisymmetric m (x.table, x.row.key) (cells_if x.there x.row) (table, key)
          ∙ ap (λ t. cond t (cells_if x.there x.row) (get m (table, key))) (ap (λ (k : RowKey). eq_by_cmp row_cmp (table, key) k) (about_says table key x p).0 ∙ tied row_cmp_total row_cmp-IsAntisymmetric (table, key))))
      | false ↦ λ p. last_cells table key before ms (written m (x.table, x.row.key) (cells_if x.there x.row))
          (e ∙ sym (get-written row_cmp_total row_cmp-IsAntisymmetric m (x.table, x.row.key) (cells_if x.there x.row) (table, key)
          ∙ ap (λ t. cond t (cells_if x.there x.row) (get m (table, key))) (about_from table key x p)))
    ] refl

row_if_key : (x : RowVersion) (r : Row) → row_if x ≡ Some r → r ≡ x.row
row_if_key x r e = elim x.there as (λ b. cond b (Some x.row) None ≡ Some r → r ≡ x.row) [
  | true ↦ λ p. sym (some_same p)
  | false ↦ λ p. absurd (let y : None ≡ Some r = p in cc)
] e

last_key : (table : ℕ) (key : List Value) (before : Option Row) (ms : List RowVersion) (r : Row) → (before ≡ Some r → r.key ≡ key) → last_row table key before ms ≡ Some r → r.key ≡ key
last_key table key before [] r h e = h e
last_key table key before (x ∷ ms) r h e =
    last_key table key (cond (is_about table key x) (row_if x) before) ms r
    (elim (is_about table key x) as (λ b. is_about table key x ≡ b → cond b (row_if x) before ≡ Some r → r.key ≡ key) [
      | true ↦ λ p q. ap (λ (y : Row). y.key) (row_if_key x r q) ∙ (about_says table key x p).1
      | false ↦ λ p q. h q
    ] refl) e

-- as `find` answers
module _ {B : Type 0} (now : B → Row) where
  pub found_cells : (o : Option B) (table : ℕ) (key : List Value) (visible ms : List RowVersion) (rows : Rows) → visible ≡ ms → option_map now o ≡ last_row table key None visible → rows_of ms ≡ rows
      → option_map (λ r. cells_of (now r)) o ≡ get rows (table, key)
  found_cells o table key visible ms rows same found is =
      through o ∙ ap (option_map cells_of) (found ∙ ap (last_row table key None) same) ∙ last_cells table key None ms empty (sym (get-empty row_cmp (table, key))) ∙ ap (λ (m : Rows). get m (table, key)) is
    where
      through : (p : Option B) → option_map (λ r. cells_of (now r)) p ≡ option_map cells_of (option_map now p)
      through None = refl
      through (Some b) = refl

  pub found_key : (o : Option B) (table : ℕ) (key : List Value) (visible : List RowVersion) → option_map now o ≡ last_row table key None visible → IfSome o (λ r. (now r).key ≡ key)
  found_key None table key visible found = tt
  found_key (Some b) table key visible found = last_key table key None visible (now b) (λ e. absurd (let y : None ≡ Some (now b) = e in cc)) (sym found)

pub put_rows : (old new : List RowVersion) (x : RowVersion) (rows : Rows) → new ≡ old ++ x ∷ [] → rows_of old ≡ rows → rows_of new ≡ written rows (x.table, x.row.key) (cells_if x.there x.row)
put_rows old new x rows made is =
    ap rows_of made
    ∙ ap (λ ws. written_all empty ws) (map-append row_version_write old (x ∷ []))
    ∙ written_all-append empty (each row_version_write old) (row_version_write x ∷ [])
    ∙ ap (λ (m : Rows). written m (x.table, x.row.key) (cells_if x.there x.row)) is

abbrev no_rows : Rows
no_rows = empty

-- to take a row away where there is none changes nothing
pub none_written : (key : RowKey) → written no_rows key None ≡ no_rows
none_written key = same_map row_cmp_total row_cmp-IsAntisymmetric (written no_rows key None) no_rows (λ q. get-written row_cmp_total row_cmp-IsAntisymmetric no_rows key None q ∙ none (eq_by_cmp row_cmp q key) q)
  where
    none : (b : Bool) (q : RowKey) → cond b None (get no_rows q) ≡ get no_rows q
    none true q = sym (get-empty row_cmp q)
    none false q = refl
