-- Sums over views.
use Rattle.std.proofs.Common.{◌≡◌, ◌≢◌, ℕ, zero, suc, ◌+◌, ◌-◌, ◌≤◌, List, [], ◌∷◌, ◌++◌, set, Bool, true, false, refl, sym, ap, ◌∙◌, ⊎_elim, arith, rules, append-nil, append_assoc, ◌||◌}
use mathlib.Core.Option.{some, some-injective, some-ne-none}
use lib.ListN.{get_elem?}
use Rattle.atomic_table.proofs.Lists.{at_set}
use Rattle.claims.specs.declared.rule.Hand.{Hand}
use Rattle.claims.specs.Seats.{Drawer, all_drawn, any_done}
use Rattle.claims.specs.Draws.{hand, one_if, times, late_one, late, total_of, once_below}

-- the total after a change of one view
pub total_set : (f : Hand → ℕ) (views : List Hand) (id : ℕ) (v w : Hand) → get_elem? views id ≡ some v → total_of f (set views id w) + f v ≡ total_of f views + f w
total_set f [] id v w at = absurd (some-ne-none v (sym at))
total_set f (x ∷ xs) zero v w at = omega (arith, ap f (some-injective x v at))
total_set f (x ∷ xs) (suc id) v w at = omega (arith, total_set f xs id v w at)

-- the total with one view more
pub total_snoc : (f : Hand → ℕ) (views : List Hand) (w : Hand) → total_of f (views ++ w ∷ []) ≡ total_of f views + f w
total_snoc f [] w = omega arith
total_snoc f (x ∷ xs) w = omega (arith, total_snoc f xs w)

pub total_le : (f g : Hand → ℕ) (views : List Hand) → ((id : ℕ) (v : Hand) → get_elem? views id ≡ some v → f v ≤ g v) → total_of f views ≤ total_of g views
total_le f g [] each = omega arith
total_le f g (x ∷ xs) each = omega (arith, each 0 x refl, total_le f g xs (λ id v at. each (suc id) v at))

pub total_zero : (f : Hand → ℕ) (views : List Hand) → ((id : ℕ) (v : Hand) → get_elem? views id ≡ some v → f v ≡ 0) → total_of f views ≡ 0
total_zero f [] each = refl
total_zero f (x ∷ xs) each = omega (arith, each 0 x refl, total_zero f xs (λ id v at. each (suc id) v at))

-- a part of a sum that is 0
pub part_zero : (f : Hand → ℕ) (views : List Hand) → total_of f views ≡ 0 → (id : ℕ) (v : Hand) → get_elem? views id ≡ some v → f v ≡ 0
part_zero f [] none id v at = absurd (some-ne-none v (sym at))
part_zero f (x ∷ xs) none zero v at = omega (arith, ap f (some-injective x v at))
part_zero f (x ∷ xs) none (suc id) v at = part_zero f xs (omega arith) id v at

-- one part of a sum
pub total_part : (f : Hand → ℕ) (views : List Hand) (id : ℕ) (v : Hand) → get_elem? views id ≡ some v → f v ≤ total_of f views
total_part f [] id v at = absurd (some-ne-none v (sym at))
total_part f (x ∷ xs) zero v at = omega (arith, ap f (some-injective x v at))
total_part f (x ∷ xs) (suc id) v at = omega (arith, total_part f xs id v at)

-- who stands for all seats has the total
pub total_whole : (f : Hand → ℕ) (views : List Hand) (id : ℕ) (v : Hand) → get_elem? views id ≡ some v → total_of (λ u. u.seats) views ≡ v.seats
    → f (hand 0 0 []) ≡ 0 → ((j : ℕ) (u : Hand) → get_elem? views j ≡ some u → u.seats ≡ 0 → f u ≡ 0) → total_of f views ≡ f v
total_whole f views id v at all spent idle =
    let w = hand 0 0 [] in
    let none : total_of (λ u. u.seats) (set views id w) ≡ 0 = omega (arith, total_set (λ u. u.seats) views id v w at) in
    let zero_each : (j : ℕ) (u : Hand) → get_elem? (set views id w) j ≡ some u → f u ≡ 0 = λ j u here.
    ⊎_elim (λ (t : (j ≡ id) × (w ≡ u)). ap f (sym t.1) ∙ spent) (λ (t : (j ≢ id) × (get_elem? views j ≡ some u)). idle j u t.1 (part_zero (λ y. y.seats) (set views id w) none j u here)) (at_set views id j w u here) in
    omega (arith, total_set f views id v w at, total_zero f (set views id w) zero_each, spent)

pub times_append : (x : ℕ) (xs ys : List ℕ) → times x (xs ++ ys) ≡ times x xs + times x ys
times_append x [] ys = omega arith
times_append x (y ∷ xs) ys = omega (arith, times_append x xs ys)

pub late_append : (t : ℕ) (xs ys : List ℕ) → late t (xs ++ ys) ≡ late t xs + late t ys
late_append t [] ys = omega arith
late_append t (y ∷ xs) ys = omega (arith, late_append t xs ys)

-- the numbers below one more
pub once_below_next : (x n : ℕ) → once_below x (n + 1) ≡ once_below x n + one_if x n
once_below_next x n = grind (arith, rules)

pub late_next : (t n : ℕ) → (n + 1) - t ≡ (n - t) + late_one t n
late_next t n = grind (arith, rules)

pub late_one_le : (t n : ℕ) → late_one t n ≤ 1
late_one_le t n = grind (arith, rules)

pub late_push : (t : ℕ) (xs : List ℕ) (n : ℕ) → late t (xs ++ n ∷ []) ≡ late t xs + late_one t n
late_push t xs n = omega (arith, late_append t xs (n ∷ []))

pub all_drawn_push : (ss : List Drawer) (s : Drawer) → all_drawn (ss ++ s ∷ []) ≡ all_drawn ss ++ s.drawn
all_drawn_push [] s = append-nil s.drawn
all_drawn_push (x ∷ ss) s = ap (λ l. x.drawn ++ l) (all_drawn_push ss s) ∙ sym (append_assoc x.drawn (all_drawn ss) s.drawn)

pub any_done_push : (ss : List Drawer) (s : Drawer) → any_done (ss ++ s ∷ []) ≡ (any_done ss || s.done)
any_done_push [] s = grind (rules)
any_done_push (x ∷ ss) s = go x.done (any_done ss) s.done (any_done (ss ++ s ∷ [])) (any_done_push ss s)
  where
    go : (a b c d : Bool) → d ≡ (b || c) → (a || d) ≡ ((a || b) || c)
    go true b c d e = refl
    go false b c d e = e
