-- Cells with another value in one place.
use Rattle.std.proofs.Common.{◌≡◌, ◌≢◌, ◌<◌, ◌+◌, ◌++◌, ℕ, Bool, true, false, cond, List, [], ◌∷◌, length, get_or, drop, Option, Some, None, eqb, not, inl, inr, refl, sym, ap, ◌∙◌}
use Rattle.std.proofs.lemmas.Bool.Decides.{eqb_tells}
use Rattle.std.proofs.lemmas.List.{at_drop_more}
use Rattle.std.specs.Ordering.{nat_cmp, eq_by_cmp}
use Rattle.std.specs.Cmp.{nat_cmp_total}
use Rattle.std.specs.FinMap.{find, get-from_entries, same_map, nat_cmp-IsAntisymmetric}
use Rattle.std.specs.FinMap.Entries.{find-where_key}
use Rattle.byte_map.proofs.Written.{get-written, tied, apart}
use Rattle.keycode.specs.declared.value.Value.{Value}
use Rattle.row_map.specs.Rows.{Cells}
use Rattle.row_map.specs.Writes.{written}
use Rattle.row_write.specs.Plain.{cell_of, with_cells}
use Rattle.row_write.specs.inner.View.{with_prefix}
use Rattle.row_write.specs.inner.Run.{cells_in, cells_but}

or_then : Option Value → Option Value → Option Value
or_then None o = o
or_then (Some v) o = Some v

cond_or : (b : Bool) (v : Value) (o p : Option Value) → cond b (Some v) (or_then o p) ≡ or_then (cond b (Some v) o) p
unfolding or_then
cond_or true v o p = refl
cond_or false v o p = refl

find_or : (q : ℕ) (xs ys : List (ℕ × Value)) → find nat_cmp q (xs ++ ys) ≡ or_then (find nat_cmp q xs) (find nat_cmp q ys)
unfolding or_then
find_or q [] ys = refl
find_or q (x ∷ xs) ys = ap (cond (eq_by_cmp nat_cmp q x.0) (Some x.1)) (find_or q xs ys) ∙ cond_or (eq_by_cmp nat_cmp q x.0) x.1 (find nat_cmp q xs) (find nat_cmp q ys)

find_but : (n q : ℕ) (cells : List (ℕ × Value)) → find nat_cmp q (cells_but n cells) ≡ cond (not (eqb q n)) (find nat_cmp q cells) None
find_but n q cells = find-where_key nat_cmp (λ i. not (eqb i n)) q (λ x e. ap (λ i. not (eqb i n)) (sym (nat_cmp-IsAntisymmetric q x e))) cells

or_none : (o : Option Value) → or_then o None ≡ o
unfolding or_then
or_none None = refl
or_none (Some v) = refl

none_or : (o : Option Value) → or_then None o ≡ o
unfolding or_then
none_or o = refl

prefix_here : (n : ℕ) (o : Option Value) → find nat_cmp n (with_prefix n o []) ≡ o
prefix_here n None = refl
prefix_here n (Some v) = ap (λ b. cond b (Some v) None) (tied nat_cmp_total nat_cmp-IsAntisymmetric n)

prefix_apart : (n q : ℕ) (o : Option Value) → q ≢ n → find nat_cmp q (with_prefix n o []) ≡ None
prefix_apart n q None ne = refl
prefix_apart n q (Some v) ne = ap (λ b. cond b (Some v) None) (apart nat_cmp_total nat_cmp-IsAntisymmetric q n ne)

placed_at : (cells : List (ℕ × Value)) (n : ℕ) (o : Option Value) (q : ℕ) → find nat_cmp q (cells_but n cells ++ with_prefix n o []) ≡ cond (eq_by_cmp nat_cmp q n) o (find nat_cmp q cells)
placed_at cells n o q =
    find_or q (cells_but n cells) (with_prefix n o [])
    ∙ ap (λ x. or_then x (find nat_cmp q (with_prefix n o []))) (find_but n q cells)
    ∙ elim (eqb_tells q n) [
      | inl same ↦
          ap (λ b. or_then (cond (not b) (find nat_cmp q cells) None) (find nat_cmp q (with_prefix n o []))) same.0
          ∙ none_or (find nat_cmp q (with_prefix n o []))
          ∙ ap (λ i. find nat_cmp i (with_prefix n o [])) same.1
          ∙ prefix_here n o
          ∙ sym (ap (λ b. cond b o (find nat_cmp q cells)) (ap (λ i. eq_by_cmp nat_cmp i n) same.1 ∙ tied nat_cmp_total nat_cmp-IsAntisymmetric n))
      | inr ne ↦
          ap (λ b. or_then (cond (not b) (find nat_cmp q cells) None) (find nat_cmp q (with_prefix n o []))) ne.0
          ∙ ap (or_then (find nat_cmp q cells)) (prefix_apart n q o ne.1)
          ∙ or_none (find nat_cmp q cells)
          ∙ sym (ap (λ b. cond b o (find nat_cmp q cells)) (apart nat_cmp_total nat_cmp-IsAntisymmetric q n ne.1))
    ]

pub placed : (cells : List (ℕ × Value)) (n : ℕ) (o : Option Value) → cells_in (cells_but n cells ++ with_prefix n o []) ≡ written (cells_in cells) n o
placed cells n o = same_map nat_cmp_total nat_cmp-IsAntisymmetric _ _ (λ q.
    get-from_entries nat_cmp_total (cells_but n cells ++ with_prefix n o []) q
    ∙ placed_at cells n o q
    ∙ ap (cond (eq_by_cmp nat_cmp q n) o) (sym (get-from_entries nat_cmp_total cells q))
    ∙ sym (get-written nat_cmp_total nat_cmp-IsAntisymmetric (cells_in cells) n o q))

pub with_more : (cells next : List (ℕ × Value)) (named : List (ℕ × Value)) (i : ℕ) (x : ℕ × Value) (total : Cells) → i < length named → x ≡ get_or named i x
    → next ≡ cells_but x.0 cells ++ with_prefix x.0 (cell_of x.1) []
    → with_cells (cells_in cells) (drop i named) ≡ total → with_cells (cells_in next) (drop (i + 1) named) ≡ total
with_more cells next named i x total lt is made so_far =
    ap (λ (c : Cells). with_cells c (drop (i + 1) named)) (ap cells_in made ∙ placed cells x.0 (cell_of x.1))
    ∙ ap (λ (y : ℕ × Value). with_cells (written (cells_in cells) y.0 (cell_of y.1)) (drop (i + 1) named)) is
    ∙ sym (at_drop_more (with_cells (cells_in cells)) named i x lt) ∙ so_far
