-- An accepted transaction as the list of its changes: what it writes, and that each of them is one that the core may make.
use Rattle.std.proofs.Common.{◌≡◌, ℕ, ◌+◌, List, [], ◌∷◌, ◌++◌, Option, Some, None, Result, Ok, Err, refl, sym, ap, subst, ◌∙◌, inl, inr, cond, true, false}
use Rattle.std.specs.Prelude.{◌≢◌}
use Rattle.std.specs.List.{AllByRecursion}
use Rattle.std.specs.FinMap as map
use Rattle.std.specs.FinMap.{nat_cmp-IsAntisymmetric}
use Rattle.std.specs.Cmp.{nat_cmp_total}
use Rattle.std.specs.Ordering.{nat_cmp, eq_by_cmp}
use Rattle.byte_map.proofs.Written.{written_here, written_apart, same_or_apart}
use Rattle.keycode.specs.declared.value.Value.{Value}
use Rattle.row_map.specs.declared.shape.ColumnType.{ColumnType}
use Rattle.row_map.specs.Rows.{Cells, Rows}
use Rattle.row_map.specs.Writes.{written, Writes}
use Rattle.schema_version.specs.declared.element.ElementState.TheVariants.{Public}
use Rattle.schema_version.specs.declared.element.ElementDef.{ElementDef}
use Rattle.schema_version.specs.Version.{Version}
use Rattle.element_state.specs.Elements.{Change, rows_after}
use Rattle.element_state.specs.Schemas.{Entry, state_of, version_writes}
use Rattle.element_state.specs.Whole.{rows_after_all, all_writes}
use Rattle.element_state.specs.Versions.{ElementKind, the_kinds, schema_of, entry_of, row_entry}
use Rattle.element_state.proofs.Versions.{get-schema_of}
use Rattle.row_write.specs.declared.op.RowOp.{RowOp}
use Rattle.row_write.specs.declared.fault.RowFault.{RowFault}
use Rattle.row_write.specs.Plain.{cell_of, with_cells, change, go_on, applied}
use Rattle.row_write.specs.Reads.{IsPublicColumn}
use Rattle.row_write.specs.Prepare.{write_on, writes_of}

-- ---- the changes of the operations, up to the first that is refused

abbrev pub change_on : Rows → Result Change RowFault → (Rows → List Change) → List Change
change_on rows (Ok done) rest = done ∷ rest (rows_after rows done)
change_on rows (Err why) rest = []

abbrev pub changes : Rows → List RowOp → List Change
changes rows [] = []
changes rows (op ∷ ops) = change_on rows (change rows op) (λ new. changes new ops)

-- what the changes make of the rows, and what they write
abbrev pub Makes : Version → Rows → Rows → List Change → Writes → Type 0
Makes version rows new cs ws = (rows_after_all the_kinds rows cs ≡ new) × (all_writes the_kinds (schema_of version) cs ≡ ws)

err_ok : {A E B : Type 0} (e : E) (a : A) → Err e ≡ Ok a → B
err_ok e a same = absurd cc

ok_one : {A E : Type 0} (a b : A) → (Ok a ≡ (let r : Result A E = Ok b in r)) → a ≡ b
ok_one a b e = cc

all_step : (version : Version) (place : ℕ) (rows new : Rows) (ops : List RowOp)
    → ((done : Change) → applied (place + 1) (rows_after rows done) ops ≡ Ok new → Makes version (rows_after rows done) new (changes (rows_after rows done) ops) (writes_of version (rows_after rows done) ops))
    → (r : Result Change RowFault) → go_on place rows r (λ (n : Rows). applied (place + 1) n ops) ≡ Ok new
    → Makes version rows new (change_on rows r (λ n. changes n ops)) (write_on version rows r (λ n. writes_of version n ops))
all_step version place rows new ops more (Ok done) rest =
    let both = more done rest in
    (both.0, ap (λ (ws : Writes). version_writes the_kinds (schema_of version) done ++ ws) both.1)
all_step version place rows new ops more (Err why) wrong = err_ok (place, why) new wrong

-- where all operations are accepted, their changes make the new rows and write what the operations write
pub all_applied : (version : Version) (place : ℕ) (rows new : Rows) (ops : List RowOp) → applied place rows ops ≡ Ok new → Makes version rows new (changes rows ops) (writes_of version rows ops)
all_applied version place rows new [] is = (ok_one rows new is, refl)
all_applied version place rows new (op ∷ ops) is =
    all_step version place rows new ops (λ done rest. all_applied version (place + 1) (rows_after rows done) new ops rest) (change rows op) is

-- ---- the cells of a new row

-- what holds of the old cells and of those that are given holds of the new ones
pub with_cells_all : (P : ℕ → Value → Type 0) (named : List (ℕ × Value)) (cells : Cells) → ((n : ℕ) (v : Value) → map.get cells n ≡ Some v → P n v)
    → AllByRecursion (λ (m : ℕ × Value). (v : Value) → cell_of m.1 ≡ Some v → P m.0 v) named → (n : ℕ) (v : Value) → map.get (with_cells cells named) n ≡ Some v → P n v
with_cells_all P [] cells old given n v is = old n v is
with_cells_all P (m ∷ named) cells old given n v is =
    with_cells_all P named (written cells m.0 (cell_of m.1)) (λ k w at. elim (same_or_apart nat_cmp_total nat_cmp-IsAntisymmetric k m.0) [
      | inl e ↦ subst (λ (x : ℕ). P x w) (sym e) (given.0 w (sym (written_here nat_cmp_total nat_cmp-IsAntisymmetric cells m.0 (cell_of m.1)) ∙ ap (map.get (written cells m.0 (cell_of m.1))) (sym e) ∙ at))
      | inr ne ↦ old k w (sym (written_apart nat_cmp_total nat_cmp-IsAntisymmetric cells m.0 (cell_of m.1) k ne) ∙ at)
    ]) given.1 n v is

-- a column that isn't named keeps its cell
pub with_cells_apart : (n : ℕ) (named : List (ℕ × Value)) (cells : Cells) → AllByRecursion (λ (m : ℕ × Value). n ≢ m.0) named → map.get (with_cells cells named) n ≡ map.get cells n
with_cells_apart n [] cells away = refl
with_cells_apart n (m ∷ named) cells away =
    with_cells_apart n named (written cells m.0 (cell_of m.1)) away.1
    ∙ written_apart nat_cmp_total nat_cmp-IsAntisymmetric cells m.0 (cell_of m.1) n away.0

pub all_map : {A : Type 0} (P Q : A → Type 0) → ((x : A) → P x → Q x) → (xs : List A) → AllByRecursion P xs → AllByRecursion Q xs
all_map P Q f [] h = tt
all_map P Q f (x ∷ xs) h = (f x h.0, all_map P Q f xs h.1)

-- a public column is one whose state the core sees as public
pub public_state : (version : Version) (table n : ℕ) (type : ColumnType) → IsPublicColumn version table n type → state_of (map.get (schema_of version) n) ≡ Public
public_state version table n type column =
    ap state_of (get-schema_of version n)
    ∙ elim (eq_by_cmp nat_cmp n 0) as (λ b. state_of (cond b (Some row_entry) (option_of (map.get version.elements n))) ≡ Public) [
      | true ↦ refl
      | false ↦ ap (λ o. state_of (option_of o)) column.known ∙ column.public
    ]
  where
    option_of : Option ElementDef → Option (Entry ElementKind)
    option_of None = None
    option_of (Some e) = Some (entry_of version e)
