-- The values that an operation's cells give columns.
use Rattle.std.proofs.Common.{◌≡◌, ◌==◌, ◌||◌, ℕ, Bool, true, false, cond, List, [], ◌∷◌, Option, None, if◌then◌else◌, inl, inr, refl, sym, ap, ◌∙◌}
use Rattle.std.proofs.lemmas.Bool.Decides.{eqb_tells}
use Rattle.std.specs.Cmp.{nat_cmp_total}
use Rattle.std.specs.FinMap as map
use Rattle.std.specs.FinMap.{nat_cmp-IsAntisymmetric}
use Rattle.std.specs.Ordering.{nat_cmp, eq_by_cmp}
use Rattle.byte_map.proofs.Written.{get-written, tied, apart}
use Rattle.keycode.specs.declared.value.Value.{Value}
use Rattle.row_map.specs.Rows.{Cells}
use Rattle.row_map.specs.Writes.{written}
use Rattle.row_write.specs.Plain.{cell_of, with_cells}
use Rattle.row_write.specs.inner.Changes.{last_named, is_named}

pub last_written : (column : ℕ) (cells : List (ℕ × Value)) (row : Cells) → last_named column (map.get row column) cells ≡ map.get (with_cells row cells) column
last_written column [] row = refl
last_written column (c ∷ cells) row =
    ap (λ (o : Option Value). last_named column o cells) (same_test ∙ sym (get-written nat_cmp_total nat_cmp-IsAntisymmetric row c.0 (cell_of c.1) column))
    ∙ last_written column cells (written row c.0 (cell_of c.1))
  where
    same_test : (if column == c.0 then cell_of c.1 else map.get row column) ≡ cond (eq_by_cmp nat_cmp column c.0) (cell_of c.1) (map.get row column)
    same_test = elim (eqb_tells column c.0) [
      | inl same ↦ ap (λ (b : Bool). cond b (cell_of c.1) (map.get row column)) (same.0 ∙ sym (ap (λ n. eq_by_cmp nat_cmp column n) (sym same.1) ∙ tied nat_cmp_total nat_cmp-IsAntisymmetric column))
      | inr other ↦ ap (λ (b : Bool). cond b (cell_of c.1) (map.get row column)) (other.0 ∙ sym (apart nat_cmp_total nat_cmp-IsAntisymmetric column c.0 other.1))
    ]

pub named_at : (column : ℕ) (cells : List (ℕ × Value)) → last_named column None cells ≡ map.get (with_cells map.empty cells) column
named_at column cells = ap (λ (o : Option Value). last_named column o cells) (sym (map.get-empty nat_cmp column)) ∙ last_written column cells map.empty

-- a column that the cells do not name keeps its value
not_named : (column : ℕ) (before : Option Value) (cells : List (ℕ × Value)) → is_named cells column ≡ false → last_named column before cells ≡ before
not_named column before [] e = refl
not_named column before (c ∷ cells) e =
    elim (column == c.0) as (λ b. (b || is_named cells column) ≡ false → last_named column (if b then cell_of c.1 else before) cells ≡ before) [
      | true ↦ λ wrong. absurd (let x : true ≡ false = wrong in cc)
      | false ↦ λ rest. not_named column before cells rest
    ] e

pub kept : (column : ℕ) (cells : List (ℕ × Value)) (row : Cells) → is_named cells column ≡ false → map.get (with_cells row cells) column ≡ map.get row column
kept column cells row e = sym (last_written column cells row) ∙ not_named column (map.get row column) cells e
