-- The first so many rows of a list, and whether there are more.
use Rattle.std.proofs.Common.{◌≡◌, ℕ, zero, suc, ◌≤◌, true, false, List, [], ◌∷◌, ◌++◌, length, refl, sym, ap, ap₂, ◌∙◌, le_antisymm, arith}
use Rattle.std.proofs.lemmas.List.{append-nil, take_all}
use Rattle.std.proofs.Math.Seq.{take-append_seam}
use Rattle.row_map.specs.declared.shape.Row.{Row}
use Rattle.row_page.specs.Page.{has_more, page_of}

one_more : (xs : List Row) (row : Row) (ys : List Row) → has_more (length xs) (xs ++ row ∷ ys) ≡ true
one_more [] row ys = refl
one_more (x ∷ xs) row ys = one_more xs row ys

pub no_more : (limit : ℕ) (xs : List Row) → length xs ≤ limit → has_more limit xs ≡ false
no_more limit [] few = refl
no_more zero (x ∷ xs) few = absurd (omega (arith, few))
no_more (suc limit) (x ∷ xs) few = no_more limit xs (omega (arith, few))

pub few_rows : (limit : ℕ) (xs : List Row) → has_more limit xs ≡ false → length xs ≤ limit
few_rows limit [] e = omega arith
few_rows zero (x ∷ xs) e = absurd cc
few_rows (suc limit) (x ∷ xs) e = let rest = few_rows limit xs e in omega (arith, rest)

full_at : (xs : List Row) (row : Row) (ys : List Row) → record { rows = xs; more = true } ≡ page_of (length xs) (xs ++ row ∷ ys)
full_at xs row ys = sym (λ i. record { rows = take-append_seam xs (row ∷ ys) i; more = one_more xs row ys i })

-- a page that is full, and another row
pub full : (limit : ℕ) (xs : List Row) (row : Row) (ys whole : List Row) → xs ++ row ∷ ys ≡ whole → length xs ≤ limit → limit ≤ length xs → record { rows = xs; more = true } ≡ page_of limit whole
full limit xs row ys whole is few many = full_at xs row ys ∙ ap₂ page_of (le_antisymm few many) is

-- the last page
pub ended : (limit : ℕ) (xs whole : List Row) → xs ++ [] ≡ whole → length xs ≤ limit → record { rows = xs; more = false } ≡ page_of limit whole
ended limit xs whole is few = sym (λ i. record { rows = take_all limit xs few i; more = no_more limit xs few i }) ∙ ap (page_of limit) (sym (append-nil xs) ∙ is)
