-- The test of a row passes just the rows of the table.
use Rattle.std.proofs.Common.{◌≡◌, ℕ, zero, suc, ◌+◌, ◌<◌, ◌≤◌, Bool, true, false, not, cond, ◌&&◌, ◌||◌, eqb, leb, List, [], ◌∷◌, length, get_or, Option, Some, None, Result, Ok, Err, refl, sym, ap, ◌∙◌, inl, inr, arith}
use Rattle.std.specs.Prelude.{◌≢◌, slice_get, All, AllPairs}
use Rattle.std.proofs.lemmas.Bool.{and_parts, and_from, or_parts, or_left, or_cases, leb-true, le-leb, eqb-true, eqb-false, eq-eqb, ne_eqb, both_ways}
use Rattle.std.proofs.lemmas.List.Elements.{All-nil, All-cons, All-head, All-tail, All-weaker, All-contains, Contains-get_or}
use Rattle.std.proofs.lemmas.List.Kept.{AllPairs-cons}
use Rattle.keycode.specs.declared.value.Value.{Value}
use Rattle.keycode.specs.declared.value.Value.TheVariants.{Null, Int, Text, Bool as Flag}
use Rattle.keycode.proofs.Fields.{chosen}
use Rattle.row_map.specs.declared.shape.ColumnType.{ColumnType}
use Rattle.row_map.specs.declared.shape.ColumnType.TheVariants as kind
use Rattle.row_map.specs.declared.shape.TableShape.{TableShape}
use Rattle.row_map.specs.declared.shape.Row.{Row}
use Rattle.row_map.specs.declared.shape.ShapeFault.{ShapeFault}
use Rattle.row_map.specs.declared.shape.ShapeFault.TheVariants.{WrongArity, WrongType, NullInKey}
use Rattle.row_map.specs.Shape.{is_null, has_type, is_key_value, are_key_values, has_null, type_of, fits_column, is_cell, are_cells, row_check}
use Rattle.row_map.specs.Encoded.{IsOfType, IsColumn, IsRowOf, RowsAreChecked}

-- ---- values

type_known : (k : ColumnType) (v : Value) → has_type k v ≡ true → IsOfType k v
type_known k Null e = absurd cc
type_known kind.Int (Int n) e = (n, refl)
type_known kind.Text (Int n) e = absurd cc
type_known kind.Bool (Int n) e = absurd cc
type_known kind.Int (Text t) e = absurd cc
type_known kind.Text (Text t) e = (t, refl, leb-true (length t) 1024 e)
type_known kind.Bool (Text t) e = absurd cc
type_known kind.Int (Flag b) e = absurd cc
type_known kind.Text (Flag b) e = absurd cc
type_known kind.Bool (Flag b) e = (b, refl)

pub type_passes : (k : ColumnType) (v : Value) → IsOfType k v → has_type k v ≡ true
type_passes kind.Int v h = ap (has_type kind.Int) h.1
type_passes kind.Text v h = ap (has_type kind.Text) h.1 ∙ le-leb (length h.0) 1024 h.2
type_passes kind.Bool v h = ap (has_type kind.Bool) h.1

pub no_null : (k : ColumnType) (v : Value) → IsOfType k v → is_null v ≡ false
no_null kind.Int v h = ap is_null h.1
no_null kind.Text v h = ap is_null h.1
no_null kind.Bool v h = ap is_null h.1

-- ---- columns

pub some_is : {A : Type 0} (x y : A) → Some x ≡ Some y → x ≡ y
some_is x y e = cc

column_known : (cs : List (ℕ × ColumnType)) (e : ℕ) (k : ColumnType) → type_of cs e ≡ Some k → IsColumn cs e k
column_known [] e k h = absurd cc
column_known (c ∷ cs) e k h =
    elim (chosen (eqb c.0 e) (Some c.1) (type_of cs e) (Some k) h) [
      | inl t ↦
          let n : c.0 ≡ e = eqb-true c.0 e t.0 in
          let m : c.1 ≡ k = some_is c.1 k t.1 in
          record { place = 0; here = ap (λ (x : ℕ × ColumnType). Some x) (λ i. (n i, m i)); first = λ before other lt. absurd (omega arith) }
      | inr f ↦
          let r = column_known cs e k f.1 in
          record { place = suc r.place; here = r.here; first = λ before other lt. later r before other lt f.0 }
    ]
  where
    later : (r : IsColumn cs e k) (before : ℕ) (other : ColumnType) → before < suc r.place → eqb c.0 e ≡ false → slice_get (c ∷ cs) before ≢ Some (e, other)
    later r zero other lt n = λ h. eqb-false c.0 e n (ap (λ (x : ℕ × ColumnType). x.0) (some_is c (e, other) h))
    later r (suc before) other lt n = r.first before other (omega arith)

column_passes : (cs : List (ℕ × ColumnType)) (e : ℕ) (k : ColumnType) (place : ℕ) → slice_get cs place ≡ Some (e, k)
    → ((before : ℕ) (other : ColumnType) → before < place → slice_get cs before ≢ Some (e, other)) → type_of cs e ≡ Some k
column_passes [] e k place here first = absurd cc
column_passes (c ∷ cs) e k zero here first =
    let is : c ≡ (e, k) = some_is c (e, k) here in
    ap (λ b. cond b (Some c.1) (type_of cs e)) (eq-eqb c.0 e (ap (λ (x : ℕ × ColumnType). x.0) is)) ∙ ap (λ (x : ℕ × ColumnType). Some x.1) is
column_passes (c ∷ cs) e k (suc place) here first =
    ap (λ b. cond b (Some c.1) (type_of cs e)) (ne_eqb c.0 e (λ (n : c.0 ≡ e). first 0 c.1 (omega arith) (ap (λ (x : ℕ × ColumnType). Some x) (λ i. (n i, c.1)))))
    ∙ column_passes cs e k place here (λ before other lt. first (suc before) other (omega arith))

-- ---- the key

key_known : (ks : List ColumnType) (vs : List Value) → are_key_values ks vs ≡ true → has_null vs ≡ false
    → (i : ℕ) (k : ColumnType) (v : Value) → slice_get ks i ≡ Some k → slice_get vs i ≡ Some v → IsOfType k v
key_known [] vs e n i k v h g = absurd cc
key_known (x ∷ ks) [] e n i k v h g = absurd cc
key_known (x ∷ ks) (y ∷ vs) e n zero k v h g =
    let t = and_parts (is_key_value x y) (are_key_values ks vs) e in
    let m = or_parts (is_null y) (has_null vs) n in
    let typed : has_type x y ≡ true = elim (or_cases (has_type x y) (is_null y) t.0) [ inl p ↦ p | inr p ↦ absurd (both_ways (is_null y) m.0 p) ] in
    let x_is : x ≡ k = some_is x k h in
    let y_is : y ≡ v = some_is y v g in
    type_known k v (ap (λ a. has_type a v) (sym x_is) ∙ ap (has_type x) (sym y_is) ∙ typed)
key_known (x ∷ ks) (y ∷ vs) e n (suc i) k v h g =
    key_known ks vs (and_parts (is_key_value x y) (are_key_values ks vs) e).1 (or_parts (is_null y) (has_null vs) n).1 i k v h g

pub key_passes : (ks : List ColumnType) (vs : List Value) → length vs ≡ length ks
    → ((i : ℕ) (k : ColumnType) (v : Value) → slice_get ks i ≡ Some k → slice_get vs i ≡ Some v → IsOfType k v) → (are_key_values ks vs ≡ true) × (has_null vs ≡ false)
key_passes [] [] len f = (refl, refl)
key_passes [] (y ∷ vs) len f = absurd (omega arith)
key_passes (x ∷ ks) [] len f = absurd (omega arith)
key_passes (x ∷ ks) (y ∷ vs) len f =
    let typed = f 0 x y refl refl in
    let r = key_passes ks vs (omega arith) (λ i. f (suc i)) in
    (and_from (is_key_value x y) (are_key_values ks vs) (or_left (has_type x y) (is_null y) (type_passes x y typed)) r.0, ap (λ b. b || has_null vs) (no_null x y typed) ∙ r.1)

-- ---- the cells

abbrev pub HasColumn : List (ℕ × ColumnType) → ℕ × Value → Type 0
HasColumn columns c = (k : ColumnType) × IsColumn columns c.0 k × IsOfType k c.1

abbrev pub Rises : ℕ × Value → ℕ × Value → Type 0
Rises a b = a.0 < b.0

cell_known : (columns : List (ℕ × ColumnType)) (e : ℕ) (v : Value) (o : Option ColumnType) → type_of columns e ≡ o → fits_column o v ≡ true → HasColumn columns (e, v)
cell_known columns e v None is h = absurd cc
cell_known columns e v (Some k) is h = (k, column_known columns e k is, type_known k v h)

cell_passes : (columns : List (ℕ × ColumnType)) (c : ℕ × Value) → HasColumn columns c → is_cell columns c.0 c.1 ≡ true
cell_passes columns c h = ap (λ o. fits_column o c.1) (column_passes columns c.0 h.0 h.1.place h.1.here h.1.first) ∙ type_passes h.0 c.1 h.2

-- from a number on
abbrev pub From : ℕ → ℕ × Value → Type 0
From low c = low ≤ c.0

cells_known : (columns : List (ℕ × ColumnType)) (low : ℕ) (cs : List (ℕ × Value)) → are_cells columns low cs ≡ true → All (From low) cs × All (HasColumn columns) cs × AllPairs Rises cs
cells_known columns low [] e = (All-nil (From low), All-nil (HasColumn columns), λ i j d lt within. absurd (omega arith))
cells_known columns low (c ∷ cs) e =
    let a = and_parts (leb low c.0 && is_cell columns c.0 c.1) (are_cells columns (c.0 + 1) cs) e in
    let b = and_parts (leb low c.0) (is_cell columns c.0 c.1) a.0 in
    let from : low ≤ c.0 = leb-true low c.0 b.0 in
    let r = cells_known columns (c.0 + 1) cs a.1 in (
      All-cons (From low) c cs from (All-weaker (From (c.0 + 1)) (From low) (λ x (le : c.0 + 1 ≤ x.0). omega arith) cs r.0),
      All-cons (HasColumn columns) c cs (cell_known columns c.0 c.1 (type_of columns c.0) refl b.1) r.1,
      AllPairs-cons Rises c cs (All-weaker (From (c.0 + 1)) (Rises c) (λ x (le : c.0 + 1 ≤ x.0). omega arith) cs r.0) r.2,
    )

pub rises_after : (c : ℕ × Value) (cs : List (ℕ × Value)) → AllPairs Rises (c ∷ cs) → All (From (c.0 + 1)) cs
rises_after c cs up = λ k d lt. let h : c.0 < (get_or cs k d).0 = up 0 (suc k) d (omega arith) (omega arith) in omega arith

pub rises_behind : (c : ℕ × Value) (cs : List (ℕ × Value)) → AllPairs Rises (c ∷ cs) → AllPairs Rises cs
rises_behind c cs up = λ i j d lt within. up (suc i) (suc j) d (omega arith) (omega arith)

cells_pass : (columns : List (ℕ × ColumnType)) (low : ℕ) (cs : List (ℕ × Value)) → All (From low) cs → All (HasColumn columns) cs → AllPairs Rises cs → are_cells columns low cs ≡ true
cells_pass columns low [] from has up = refl
cells_pass columns low (c ∷ cs) from has up =
    and_from (leb low c.0 && is_cell columns c.0 c.1) (are_cells columns (c.0 + 1) cs)
    (and_from (leb low c.0) (is_cell columns c.0 c.1) (le-leb low c.0 (All-head (From low) c cs from)) (cell_passes columns c (All-head (HasColumn columns) c cs has)))
    (cells_pass columns (c.0 + 1) cs (rises_after c cs up) (All-tail (HasColumn columns) c cs has) (rises_behind c cs up))

-- ---- the row

refused : {A : Type 0} (b : Bool) (f : ShapeFault) (r s : Result A ShapeFault) → (Err f ≡ s → ⊥) → cond (not b) (Err f) r ≡ s → (b ≡ true) × (r ≡ s)
refused true f r s n e = (refl, e)
refused false f r s n e = absurd (n e)

abbrev pub Answer : Type 0
Answer = Result (Unit {0}) ShapeFault

abbrev pub refusal : ShapeFault → Answer
refusal f = Err f

abbrev pub pass : Answer
pass = Ok tt

passed : (f : ShapeFault) → refusal f ≡ pass → ⊥
passed f e = cc

last_passed : (b : Bool) → cond b (refusal NullInKey) pass ≡ pass → b ≡ false
last_passed true e = absurd (passed NullInKey e)
last_passed false e = refl

row_known : (shape : TableShape) (row : Row) → row_check shape row ≡ Ok tt → IsRowOf shape row
row_known shape row e =
    let fits : Bool = are_key_values shape.key row.key && are_cells shape.columns 0 row.cells in
    let a = refused (eqb (length row.key) (length shape.key)) WrongArity (cond (not fits) (Err WrongType) (cond (has_null row.key) (Err NullInKey) (Ok tt))) (Ok tt) (passed WrongArity) e in
    let b = refused fits WrongType (cond (has_null row.key) (Err NullInKey) (Ok tt)) (Ok tt) (passed WrongType) a.1 in
    let parts = and_parts (are_key_values shape.key row.key) (are_cells shape.columns 0 row.cells) b.0 in
    let cells = cells_known shape.columns 0 row.cells parts.1 in
    record {
      arity = eqb-true (length row.key) (length shape.key) a.0;
      primary = key_known shape.key row.key parts.0 (last_passed (has_null row.key) b.1);
      cells = λ number value in_row. All-contains (HasColumn shape.columns) row.cells (number, value) cells.1 in_row;
      rising = cells.2;
    }

row_passes : (shape : TableShape) (row : Row) → IsRowOf shape row → row_check shape row ≡ Ok tt
row_passes shape row is =
    let arity : eqb (length row.key) (length shape.key) ≡ true = eq-eqb (length row.key) (length shape.key) is.arity in
    let primary = key_passes shape.key row.key is.arity is.primary in
    let has : All (HasColumn shape.columns) row.cells = λ k d lt. let c : ℕ × Value = get_or row.cells k d in is.cells c.0 c.1 (Contains-get_or row.cells k d lt) in
    let cells = cells_pass shape.columns 0 row.cells (λ k d lt. omega arith) has is.rising in
    rw (arity, primary.0, cells, primary.1) refl

pub rows_checked : RowsAreChecked
rows_checked shape row = (row_known shape row, row_passes shape row)
