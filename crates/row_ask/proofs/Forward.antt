-- The page after one with two rows begins above it.
use Rattle.std.proofs.Common.{◌≡◌, ℕ, ◌≤◌, Bool, true, false, cond, T, List, [], ◌∷◌, Some, None, filter, length, refl, sym, ap, ◌∙◌, arith, not}
use Rattle.std.specs.Ordering.{is_lt}
use Rattle.std.specs.List.{AllByRecursion}
use Rattle.std.specs.declared.cmp.Ordering.TheVariants.{Less}
use Rattle.std.specs.FinMap as map
use Rattle.std.specs.FinMap.Entries.{find, is_sorted, below_all}
use Rattle.keycode.specs.Order.{bytes_cmp}
use Rattle.keycode.proofs.Orders.{bytes_cmp_total, bytes_cmp-IsAntisymmetric}
use Rattle.byte_map.proofs.Order.{first, second, to_less}
use Rattle.row_map.specs.Ranges.{is_within}
use Rattle.row_map.specs.Rows.{Bytes, Pairs}
use Rattle.row_map.specs.Walk.{key_range}
use Rattle.row_map.proofs.KeyRanges.{key_range_sorted, find_key_range}
use Rattle.reorganise.proofs.Order.{le, less_of, lt_is, le_trans, within_parts, some_in}
use Rattle.row_query.proofs.Sorted.{all_found}
use Rattle.row_ask.specs.Pages.{is_row, last_row_at, HasTwoRows}

pub le_less : (x y z : Bytes) → le x y ≡ true → bytes_cmp y z ≡ Less → bytes_cmp x z ≡ Less
le_less x y z p q = less_of (bytes_cmp x z) (lt_is x z ∙ ap not (end (le z x) refl))
  where
    end : (t : Bool) → le z x ≡ t → le z x ≡ false
    end true e = absurd (let clash : true ≡ false = sym (ap is_lt q) ∙ lt_is y z ∙ ap not (le_trans z x y e p) in cc)
    end false e = e

-- a range with a pair is not empty
pub has_pairs : (pairs : Pairs) (low high q x : Bytes) → is_within low high q ≡ true → map.get pairs q ≡ Some x → 1 ≤ length (key_range pairs low high)
has_pairs pairs low high q x w here = by (key_range pairs low high) (find_key_range pairs low high q ∙ ap (λ b. cond b (map.get pairs q) None) w ∙ here)
  where
    by : (l : List (Bytes × Bytes)) → find bytes_cmp q l ≡ Some x → 1 ≤ length l
    by [] e = absurd cc
    by (y ∷ ys) e = omega arith

module _ (table : ℕ) where
  abbrev rows_in : List (Bytes × Bytes) → ℕ
  rows_in ps = length (filter (is_row table) ps)

  -- the last row is above what is below all
  all_above : (x : Bytes) (ps : List (Bytes × Bytes)) (before : Bytes) → T (below_all bytes_cmp x ps) → bytes_cmp x before ≡ Less → bytes_cmp x (last_row_at table before ps) ≡ Less
  all_above x [] before below so_far = so_far
  all_above x (p ∷ ps) before below so_far =
      elim (is_row table p) as (λ b. bytes_cmp x (last_row_at table (cond b p.0 before) ps) ≡ Less) [
        | true ↦ all_above x ps p.0 (second _ _ below) (to_less _ (first _ _ below))
        | false ↦ all_above x ps before (second _ _ below) so_far
      ]

  one_above : (x : Bytes) (ps : List (Bytes × Bytes)) (before : Bytes) → T (below_all bytes_cmp x ps) → 1 ≤ rows_in ps → bytes_cmp x (last_row_at table before ps) ≡ Less
  one_above x [] before below some = absurd (omega (arith, some))
  one_above x (p ∷ ps) before below some =
      elim (is_row table p) as (λ b. 1 ≤ length (cond b (p ∷ filter (is_row table) ps) (filter (is_row table) ps)) → bytes_cmp x (last_row_at table (cond b p.0 before) ps) ≡ Less) [
        | true ↦ λ _. all_above x ps p.0 (second _ _ below) (to_less _ (first _ _ below))
        | false ↦ λ more. one_above x ps before (second _ _ below) more
      ] some

  -- of two rows the first is below the last
  two_above : (P : Bytes × Bytes → Type 0) (ps : List (Bytes × Bytes)) (before : Bytes) → T (is_sorted bytes_cmp ps) → AllByRecursion P ps → 2 ≤ rows_in ps
      → (p : Bytes × Bytes) × P p × (is_row table p ≡ true) × (bytes_cmp p.0 (last_row_at table before ps) ≡ Less)
  two_above P [] before sorted all two = absurd (omega (arith, two))
  two_above P (p ∷ ps) before sorted all two =
      elim (is_row table p) as (λ b. is_row table p ≡ b → 2 ≤ length (cond b (p ∷ filter (is_row table) ps) (filter (is_row table) ps))
      → (q : Bytes × Bytes) × P q × (is_row table q ≡ true) × (bytes_cmp q.0 (last_row_at table (cond b p.0 before) ps) ≡ Less)) [
        | true ↦ λ row more. (p, all.0, row, one_above p.0 ps p.0 (first _ _ sorted) (omega (arith, more)))
        | false ↦ λ _ more. two_above P ps before (second _ _ sorted) all.1 more
      ] refl two

  module _ (read : Pairs) (low to : Bytes) where
    abbrev IsHere : Bytes × Bytes → Type 0
    IsHere p = (is_within low to p.0 ≡ true) × (map.get read p.0 ≡ Some p.1)

    pub first_row : HasTwoRows table (key_range read low to) → (p : Bytes × Bytes) × IsHere p × (is_row table p ≡ true) × (bytes_cmp p.0 (last_row_at table low (key_range read low to)) ≡ Less)
    first_row two =
        two_above IsHere (key_range read low to) low (key_range_sorted read low to)
        (all_found bytes_cmp_total bytes_cmp-IsAntisymmetric IsHere (key_range read low to) (key_range_sorted read low to) (λ q x is. some_in (is_within low to q) (map.get read q) x (sym (find_key_range read low to q) ∙ is)))
        two

    pub goes_on : HasTwoRows table (key_range read low to) → bytes_cmp low (last_row_at table low (key_range read low to)) ≡ Less
    goes_on two =
        let r = first_row two in
        le_less low r.0.0 (last_row_at table low (key_range read low to)) (within_parts low to r.0.0 r.1.0).0 r.3
