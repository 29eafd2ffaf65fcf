-- Sums of nothing, and the lengths of lists that are given.
use Rattle.std.proofs.Common.{◌≡◌, ℕ, suc, ◌+◌, Bool, true, false, cond, List, [], ◌∷◌, length, Option, Some, None, option_map, is_some, refl, sym, ap, ◌∙◌, arith}
use Rattle.std.specs.Prelude.{count_by, sum_by}
use Rattle.std.specs.List.{AllByRecursion, filter_map, cons_option}
use Rattle.std.proofs.lemmas.List.Recursion.{is_count_by}
use Rattle.std.proofs.lemmas.List.Sums.{sum_by-cons}
use Rattle.row_query.proofs.Sorted.{kept}

pub sum_none : {X : Type 0} (f : X → ℕ) (xs : List X) → AllByRecursion (λ x. f x ≡ 0) xs → sum_by f xs ≡ 0
sum_none f [] all = refl
sum_none f (x ∷ xs) all = sum_by-cons f x xs ∙ ap (λ (n : ℕ). n + sum_by f xs) all.0 ∙ ap (λ (n : ℕ). 0 + n) (sum_none f xs all.1)

-- what an element counts for
abbrev counts : Bool → ℕ
counts b = cond b 1 0

counts_none : {X : Type 0} (p : X → Bool) (xs : List X) → AllByRecursion (λ x. p x ≡ false) xs → AllByRecursion (λ x. counts (p x) ≡ 0) xs
counts_none p [] all = tt
counts_none p (x ∷ xs) all = (ap counts all.0, counts_none p xs all.1)

pub count_none : {X : Type 0} (p : X → Bool) (xs : List X) → AllByRecursion (λ x. p x ≡ false) xs → count_by p xs ≡ 0
count_none p xs all = sum_none (λ x. counts (p x)) xs (counts_none p xs all)

-- as many are given as pass the test
one_given : {Y : Type 0} (o : Option Y) (ys : List Y) → length (cons_option o ys) ≡ cond (is_some o) (1 + length ys) (length ys)
one_given None ys = refl
one_given (Some y) ys = omega arith

pub length_given : {X Y : Type 0} (h : X → Option Y) (p : X → Bool) → ((x : X) → p x ≡ is_some (h x)) → (xs : List X) → length (filter_map h xs) ≡ count_by p xs
length_given h p same xs =
    is_count_by (λ l. length (filter_map h l)) p refl
    (λ y ys. one_given (h y) (filter_map h ys) ∙ ap (λ (b : Bool). cond b (1 + length (filter_map h ys)) (length (filter_map h ys))) (sym (same y))) xs

-- an entry for each key, where each has a value
still_some : {K X : Type 0} (k : K) (o : Option X) → is_some {T = K × X} (option_map (λ (x : X). (k, x)) o) ≡ is_some o
still_some k None = refl
still_some k (Some x) = refl

pub length_kept : {K X : Type 0} (a : K → Option X) (ks : List K) → AllByRecursion (λ k. is_some (a k) ≡ true) ks → length (kept a ks) ≡ length ks
length_kept a [] all = refl
length_kept {K = K} {X = X} a (k ∷ ks) all =
    one_given {Y = K × X} (option_map (λ (x : X). (k, x)) (a k)) (kept a ks)
    ∙ ap (λ (b : Bool). cond b (1 + length (kept a ks)) (length (kept a ks))) (still_some k (a k) ∙ all.0)
    ∙ more (length (kept a ks)) (length ks) (length_kept a ks all.1)
  where
    more : (m n : ℕ) → m ≡ n → 1 + m ≡ suc n
    more m n e = omega (arith, e)
