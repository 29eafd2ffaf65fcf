-- What a view says of a row, cell by cell.
use Rattle.std.proofs.Common.{◌≡◌, ◌<◌, ◌+◌, ◌++◌, ℕ, zero, suc, Bool, List, [], ◌∷◌, length, get_or, take, Option, Some, None, inl, inr, refl, sym, ap, subst, ◌∙◌, arith}
use Rattle.std.specs.Prelude.{◌↔◌}
use Rattle.std.proofs.lemmas.List.{take_more}
use Rattle.keycode.specs.declared.value.Value.{Value}
use Rattle.row_map.specs.declared.shape.ColumnType.{ColumnType}
use Rattle.row_map.specs.declared.shape.ColumnType.TheVariants as kind
use Rattle.row_map.specs.Cell.{IsTypedEncoding}
use Rattle.row_map.specs.Rows.{Bytes}
use Rattle.element_state.specs.lemmas.Apart.{none_some}
use Rattle.row_write.specs.declared.fault.PrepareFault.{PrepareFault}
use Rattle.row_write.specs.declared.fault.PrepareFault.TheVariants.{ViewMismatch}
use Rattle.row_write.specs.inner.View.{IsMissed, IsCell, with_prefix, AreCells}

pub missed_map : {A B : Type 0} (e : PrepareFault) → (A → B) → IsMissed A e → IsMissed B e
missed_map e f (inl m) = inl m
missed_map e f (inr h) = inr (h.0, f h.1)

-- ---- values

-- bytes that were read as no value of the type are the code of none
pub none_encoded : (type : ColumnType) (bytes : Bytes) (o : Option Value) → ((w : Value) → (o ≡ Some w) ↔ IsTypedEncoding type bytes w) → o ≡ None → IsMissed ((v : Value) → ¬ (IsTypedEncoding type bytes v)) ViewMismatch
none_encoded type bytes o encodes none = inr (refl, λ v s. none_some v (sym none ∙ (encodes v).1 s))

-- ---- cells

prefix_append : (n : ℕ) (cell : Option Value) (rest more : List (ℕ × Value)) → with_prefix n cell rest ++ more ≡ with_prefix n cell (rest ++ more)
prefix_append n None rest more = refl
prefix_append n (Some v) rest more = refl

module _ (there : Bool) (visible : ℕ → Option (Option Bytes)) where
  cells_behind : (columns : List (ℕ × ColumnType)) (cells : List (ℕ × Value)) (c : ℕ × ColumnType) (cell : Option Value) → AreCells there visible columns cells → IsCell c.1 there (visible c.0) cell
      → AreCells there visible (columns ++ c ∷ []) (cells ++ with_prefix c.0 cell [])
  cells_behind [] cells c cell e is = (cell, [], is, ap (λ (l : List (ℕ × Value)). l ++ with_prefix c.0 cell []) e, refl)
  cells_behind (d ∷ columns) cells c cell (x, rest, i, e, more) is =
      (x, rest ++ with_prefix c.0 cell [], i, ap (λ (l : List (ℕ × Value)). l ++ with_prefix c.0 cell []) e ∙ prefix_append d.0 x rest (with_prefix c.0 cell []), cells_behind columns rest c cell more is)

  pub cells_more : (columns : List (ℕ × ColumnType)) (cells next : List (ℕ × Value)) (i : ℕ) (cell : Option Value) → i < length columns → AreCells there visible (take i columns) cells
      → IsCell (get_or columns i (0, kind.Int)).1 there (visible (get_or columns i (0, kind.Int)).0) cell
      → next ≡ cells ++ with_prefix (get_or columns i (0, kind.Int)).0 cell [] → AreCells there visible (take (i + 1) columns) next
  cells_more columns cells next i cell lt so_far is made =
      subst (λ (cs : List (ℕ × ColumnType)). AreCells there visible cs next) (sym (take_more columns i (0, kind.Int) lt))
      (subst (AreCells there visible (take i columns ++ get_or columns i (0, kind.Int) ∷ [])) (sym made) (cells_behind (take i columns) cells (get_or columns i (0, kind.Int)) cell so_far is))

  pub cell_there : (columns : List (ℕ × ColumnType)) (cells : List (ℕ × Value)) (i : ℕ) → i < length columns → AreCells there visible columns cells → (cell : Option Value) × IsCell (get_or columns i (0, kind.Int)).1 there (visible (get_or columns i (0, kind.Int)).0) cell
  cell_there [] cells i lt h = absurd (omega arith)
  cell_there (c ∷ columns) cells zero lt (x, rest, i, e, more) = (x, i)
  cell_there (c ∷ columns) cells (suc k) lt (x, rest, i, e, more) = cell_there columns rest k (omega arith) more
