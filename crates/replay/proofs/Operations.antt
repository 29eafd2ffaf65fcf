-- Each operation of a prepared transaction is one that the core may make, and it keeps rows lawful.
use Rattle.std.proofs.Common.{◌≡◌, ℕ, suc, ◌≤◌, List, [], ◌∷◌, length, Option, Some, None, Result, Ok, Err, refl, sym, ap, subst, ◌∙◌, inl, inr}
use Rattle.std.specs.Prelude.{◌≢◌, IsTrue}
use Rattle.std.specs.List.{AllByRecursion}
use Rattle.std.specs.Cmp.Lexicographic.{as_long}
use Rattle.std.specs.FinMap as map
use Rattle.std.specs.Ordering.{nat_cmp}
use mathlib.Core.List.{map as each}
use Rattle.keycode.specs.declared.value.Value.{Value}
use Rattle.keycode.specs.declared.value.Value.TheVariants.{Null, Int, Text, Bool as Flag}
use Rattle.keycode.specs.Valid.{IsValue, IsShort, IsStorable}
use Rattle.row_map.specs.declared.shape.ColumnType.{ColumnType}
use Rattle.row_map.specs.Keys.{AreKeyValues}
use Rattle.row_map.specs.Rows.{RowKey, Cells, Rows, IsStorableRow}
use Rattle.row_map.specs.Shape.{has_type}
use Rattle.schema_version.specs.declared.element.ElementState.TheVariants.{Public}
use Rattle.schema_version.specs.declared.element.ElementDef.{ElementDef}
use Rattle.schema_version.specs.Version.{Version, element_at, type_of_kind}
use Rattle.element_state.specs.lemmas.Effects.{row_here, row_apart, key_one}
use Rattle.element_state.specs.Elements.{Change, rows_after, cell}
use Rattle.element_state.specs.Schemas.{state_of}
use Rattle.element_state.specs.Core.{Runs}
use Rattle.element_state.specs.Whole.{RunsAll, rows_after_all}
use Rattle.element_state.specs.Versions.{the_kinds, schema_of}
use Rattle.row_write.specs.declared.op.RowOp.{RowOp}
use Rattle.row_write.specs.declared.op.RowOp.TheVariants.{Insert, Update, Delete}
use Rattle.row_write.specs.declared.fault.RowFault.{RowFault}
use Rattle.row_write.specs.Plain.{cell_of, with_cells, table_of, key_of, named_of, row_of, change_of, change}
use Rattle.row_write.specs.Reads.{IsPublicColumn}
use Rattle.element_state.specs.Consistent.{IsKeyFor}
use Rattle.row_write.specs.Prepare.{HasColumn, Suits}
use Rattle.row_write.specs.Made.{IsSound}
use Rattle.element_state.specs.Consistent.{IsLawfulRow, AreLawfulRows}
use Rattle.replay.specs.inner.Small.{AreTablesSmall}
use Rattle.replay.proofs.Changes.{changes, change_on, with_cells_all, with_cells_apart, all_map, public_state}

ok_one : {A E : Type 0} (a b : A) → (Ok a ≡ (let r : Result A E = Ok b in r)) → a ≡ b
ok_one a b e = cc

err_ok : {A E B : Type 0} (e : E) (a : A) → Err e ≡ Ok a → B
err_ok e a same = absurd cc

some_one : {A : Type 0} (v w : A) → Some v ≡ Some w → v ≡ w
some_one v w e = cc

none_some : {A B : Type 0} (v : A) → None ≡ Some v → B
none_some v e = absurd cc

length_each : {A B : Type 0} (f : A → B) (xs : List A) → length (each f xs) ≡ length xs
length_each f [] = refl
length_each f (x ∷ xs) = ap (λ (n : ℕ). suc n) (length_each f xs)

-- a key of a table's columns is one that keys can hold
pub key_values : (columns : List (List ℕ × ColumnType)) (key : List Value) → 1 ≤ length columns → length columns ≤ 4 → IsKeyFor columns key → AreKeyValues 1 4 key
key_values columns key low high k =
    let same : length columns ≡ length key = sym (length_each (λ (column : List ℕ × ColumnType). column.1) columns) ∙ as_long has_type (each (λ (column : List ℕ × ColumnType). column.1) columns) key k.0 in
    record {
      low_number = subst (λ (n : ℕ). 1 ≤ n) same low;
      high_number = subst (λ (n : ℕ). n ≤ 4) same high;
      values = all_map IsStorable IsValue (λ v s. s.0) key k.1;
      short = all_map IsStorable IsShort (λ v s. s.1) key k.1;
    }

-- ---- what is given to a cell

cell_is : (x v : Value) → cell_of x ≡ Some v → x ≡ v
cell_is Null v e = none_some v e
cell_is (Int n) v e = some_one (Int n) v e
cell_is (Text t) v e = some_one (Text t) v e
cell_is (Flag b) v e = some_one (Flag b) v e

cell_not_null : (x v : Value) → cell_of x ≡ Some v → v ≢ Null
cell_not_null Null v e = none_some v e
cell_not_null (Int n) v e = λ null. int_null (some_one (Int n) v e ∙ null)
  where
    int_null : Int n ≡ Null → ⊥
    int_null s = cc
cell_not_null (Text t) v e = λ null. text_null (some_one (Text t) v e ∙ null)
  where
    text_null : Text t ≡ Null → ⊥
    text_null s = cc
cell_not_null (Flag b) v e = λ null. flag_null (some_one (Flag b) v e ∙ null)
  where
    flag_null : Flag b ≡ Null → ⊥
    flag_null s = cc

-- a value that a column of the version may hold
pub record IsFine (version : Version) (column : ℕ) (value : Value) : Type 0 where
  pub storable : IsStorable value
  pub not_null : value ≢ Null
  pub typed : (element : ElementDef) (type : ColumnType) → element_at version column ≡ Some element → type_of_kind element.kind ≡ Some type → IsTrue (has_type type value)

-- what one named cell gives
given_one : (version : Version) (table : ℕ) (m : ℕ × Value) → HasColumn version table m.0 → ((type : ColumnType) → IsPublicColumn version table m.0 type → Suits type m.1) → (v : Value) → cell_of m.1 ≡ Some v → IsFine version m.0 v
given_one version table m has suits v is = elim (suits has.0 has.1) [
  | inl null ↦ none_some v (sym (ap cell_of null) ∙ is)
  | inr fits ↦
      let same : m.1 ≡ v = cell_is m.1 v is in
      record {
        storable = subst IsStorable same fits.1;
        not_null = cell_not_null m.1 v is;
        typed = λ element type at kind.
            let one : has.1.element ≡ element = some_one has.1.element element (sym has.1.known ∙ at) in
            let same_type : has.0 ≡ type = some_one has.0 type (sym (ap (λ (e : ElementDef). type_of_kind e.kind) (sym one) ∙ has.1.column) ∙ kind) in
            subst (λ (t : ColumnType). IsTrue (has_type t v)) same_type (subst (λ (w : Value). IsTrue (has_type has.0 w)) same fits.0);
      }
]

given_all : (version : Version) (table : ℕ) (named : List (ℕ × Value)) → AllByRecursion (λ (m : ℕ × Value). HasColumn version table m.0) named
    → AllByRecursion (λ (m : ℕ × Value). (type : ColumnType) → IsPublicColumn version table m.0 type → Suits type m.1) named
    → AllByRecursion (λ (m : ℕ × Value). (v : Value) → cell_of m.1 ≡ Some v → IsFine version m.0 v) named
given_all version table [] has suits = tt
given_all version table (m ∷ named) has suits = (given_one version table m has.0 suits.0, given_all version table named has.1 suits.1)

-- ---- the new row of an insert or an update

-- where the base of a new row holds fine values, the new row does
new_fine : (version : Version) (op : RowOp) (base : Cells) → IsSound version op → ((n : ℕ) (v : Value) → map.get base n ≡ Some v → IsFine version n v) → (n : ℕ) (v : Value) → map.get (with_cells base (named_of op)) n ≡ Some v → IsFine version n v
new_fine version op base sound old n v is =
    with_cells_all (IsFine version) (named_of op) base old (given_all version (table_of op) (named_of op) sound.public sound.typed.values) n v is

-- and a column that isn't public keeps what the base has
new_hidden : (version : Version) (op : RowOp) (base : Cells) → IsSound version op → (n : ℕ) → state_of (map.get (schema_of version) n) ≢ Public → map.get (with_cells base (named_of op)) n ≡ map.get base n
new_hidden version op base sound n hidden =
    with_cells_apart n (named_of op) base
    (all_map (λ (m : ℕ × Value). HasColumn version (table_of op) m.0) (λ (m : ℕ × Value). n ≢ m.0)
    (λ m has same. hidden (ap (λ (x : ℕ). state_of (map.get (schema_of version) x)) same ∙ public_state version (table_of op) m.0 has.0 has.1))
    (named_of op) sound.public)

-- the row of an operation can be named
row_named : (version : Version) (op : RowOp) (cells : Cells) → AreTablesSmall version → IsSound version op → ((n : ℕ) (v : Value) → map.get cells n ≡ Some v → IsFine version n v) → IsStorableRow (row_of op) cells
row_named version op cells small sound fine =
    let t = small (table_of op) sound.table sound.known in
    record {
      table = t.0;
      primary = key_values sound.table.key (key_of op) t.1 t.2 sound.typed.key;
      values = λ n v is. (fine n v is).storable;
    }

row_lawful : (version : Version) (op : RowOp) (cells : Cells) → IsSound version op → ((n : ℕ) (v : Value) → map.get cells n ≡ Some v → IsFine version n v) → IsLawfulRow version (row_of op) cells
row_lawful version op cells sound fine = record {
  table = sound.table;
  known = sound.known;
  primary = sound.typed.key;
  types = λ column element type value at kind is. (fine column value is).typed element type at kind;
  values = λ column value is. ((fine column value is).storable, (fine column value is).not_null);
}

fine_of : (version : Version) (key : RowKey) (cells : Cells) → IsLawfulRow version key cells → (n : ℕ) (v : Value) → map.get cells n ≡ Some v → IsFine version n v
fine_of version key cells lawful n v is = record {
  storable = (lawful.values n v is).0;
  not_null = (lawful.values n v is).1;
  typed = λ element type at kind. lawful.types n element type v at kind is;
}

no_cell : {A : Type 0} (n : ℕ) (v : Value) → map.get {R = nat_cmp} map.empty n ≡ Some v → A
no_cell n v is = none_some v (sym (map.get-empty nat_cmp n) ∙ is)

-- what an operation of a sound transaction is to the core
pub record IsStep (version : Version) (rows : Rows) (c : Change) : Type 0 where
  pub runs : Runs the_kinds (schema_of version) rows c
  pub lawful : (cells : Cells) → c.new ≡ Some cells → IsLawfulRow version c.key cells

-- one that writes a new row over a base
writing : (version : Version) (rows : Rows) (op : RowOp) (old : Option Cells) (base : Cells) → AreTablesSmall version → IsSound version op → map.get rows (row_of op) ≡ old
    → ((n : ℕ) (v : Value) → map.get base n ≡ Some v → IsFine version n v) → ((n : ℕ) → map.get base n ≡ cell old n)
    → IsStep version rows (record { key = row_of op; old = old; new = Some (with_cells base (named_of op)) })
writing version rows op old base small sound at fine same =
    let all : (n : ℕ) (v : Value) → map.get (with_cells base (named_of op)) n ≡ Some v → IsFine version n v = new_fine version op base sound fine in
    record {
      runs = record {
        fits = at;
        storable = λ r is. subst (IsStorableRow (row_of op)) (some_one _ r is) (row_named version op _ small sound all);
        public_only = λ n hidden r is. ap (λ (c : Cells). map.get c n) (sym (some_one _ r is)) ∙ new_hidden version op base sound n hidden ∙ same n;
      };
      lawful = λ cells is. subst (IsLawfulRow version (row_of op)) (some_one _ cells is) (row_lawful version op _ sound all);
    }

-- one that ends a row
ending : (version : Version) (rows : Rows) (key : RowKey) (old : Cells) → map.get rows key ≡ Some old → IsStep version rows (record { key = key; old = Some old; new = None })
ending version rows key old at = record {
  runs = record { fits = at; storable = λ r is. none_some r is; public_only = λ n hidden r is. none_some r is };
  lawful = λ cells is. none_some cells is;
}

step_of : (version : Version) (rows : Rows) (op : RowOp) (done : Change) → AreTablesSmall version → AreLawfulRows version rows → IsSound version op → (o : Option Cells) → map.get rows (row_of op) ≡ o → change_of o op ≡ Ok done → IsStep version rows done
step_of version rows (Insert table key cells) done small lawful sound None at is =
    subst (IsStep version rows) (ok_one _ done is) (writing version rows (Insert table key cells) None map.empty small sound at (λ n v e. no_cell n v e) (λ n. map.get-empty nat_cmp n))
step_of version rows (Update table key cells) done small lawful sound None at is = err_ok _ done is
step_of version rows (Delete table key) done small lawful sound None at is = err_ok _ done is
step_of version rows (Insert table key cells) done small lawful sound (Some old) at is = err_ok _ done is
step_of version rows (Update table key cells) done small lawful sound (Some old) at is =
    subst (IsStep version rows) (ok_one _ done is) (writing version rows (Update table key cells) (Some old) old small sound at (fine_of version (table, key) old (lawful (table, key) old at)) (λ n. refl))
step_of version rows (Delete table key) done small lawful sound (Some old) at is = subst (IsStep version rows) (ok_one _ done is) (ending version rows (table, key) old at)

pub op_step : (version : Version) (rows : Rows) (op : RowOp) (done : Change) → AreTablesSmall version → AreLawfulRows version rows → IsSound version op → change rows op ≡ Ok done → IsStep version rows done
op_step version rows op done small lawful sound is = step_of version rows op done small lawful sound (map.get rows (row_of op)) refl is

-- the rows stay lawful
pub lawful_after : (version : Version) (rows : Rows) (c : Change) → AreLawfulRows version rows → ((cells : Cells) → c.new ≡ Some cells → IsLawfulRow version c.key cells) → AreLawfulRows version (rows_after rows c)
lawful_after version rows c before new key cells at = elim (key_one key c.key) [
  | inl e ↦ subst (λ (k : RowKey). IsLawfulRow version k cells) (sym e) (new cells (sym (row_here rows c) ∙ ap (map.get (rows_after rows c)) (sym e) ∙ at))
  | inr ne ↦ before key cells (sym (row_apart rows c key ne) ∙ at)
]

-- ---- whole transactions

-- what is known of the changes of a transaction, and of the rows that they leave
abbrev pub AreSteps : Version → Rows → List Change → Type 0
AreSteps version rows cs = RunsAll the_kinds (schema_of version) rows cs × AreLawfulRows version (rows_after_all the_kinds rows cs)

steps_on : (version : Version) (rows : Rows) (op : RowOp) (ops : List RowOp) → AreTablesSmall version → AreLawfulRows version rows → IsSound version op
    → ((done : Change) → AreLawfulRows version (rows_after rows done) → AreSteps version (rows_after rows done) (changes (rows_after rows done) ops))
    → (r : Result Change RowFault) → change rows op ≡ r → AreSteps version rows (change_on rows r (λ n. changes n ops))
steps_on version rows op ops small lawful sound more (Ok done) is =
    let step : IsStep version rows done = op_step version rows op done small lawful sound is in
    let rest = more done (lawful_after version rows done lawful step.lawful) in
    ((step.runs, rest.0), rest.1)
steps_on version rows op ops small lawful sound more (Err why) is = (tt, lawful)

pub all_steps : (version : Version) (rows : Rows) (ops : List RowOp) → AreTablesSmall version → AreLawfulRows version rows → AllByRecursion (IsSound version) ops → AreSteps version rows (changes rows ops)
all_steps version rows [] small lawful sound = (tt, lawful)
all_steps version rows (op ∷ ops) small lawful sound =
    steps_on version rows op ops small lawful sound.0 (λ done after. all_steps version (rows_after rows done) ops small after sound.1) (change rows op) refl
