-- How many live elements pass a test, after each change of one.
use Rattle.std.proofs.Common.{◌≡◌, ℕ, ◌+◌, ◌≤◌, Bool, false, cond, List, [], ◌∷◌, Some, inl, inr, refl, sym, ap, subst, ◌∙◌, arith, nat_eq, count_by, if◌then◌else◌, Contains}
use Rattle.std.specs.declared.cmp.Ordering.{Ordering}
use Rattle.std.specs.declared.cmp.Ordering.TheVariants.{Less, Equal, Greater}
use Rattle.std.specs.Ordering.{nat_cmp}
use Rattle.std.proofs.lemmas.Cmp.{nat_cmp_total}
use Rattle.std.specs.FinMap as map
use Rattle.std.specs.FinMap.{nat_cmp-IsAntisymmetric}
use Rattle.std.specs.FinMap.Entries.{put, by_order}
use Rattle.std.specs.Map.{lookup, remove_entry}
use Rattle.std.proofs.lemmas.List.Sums.{sum_by-cons}
use Rattle.indexmap.specs.IndexMap.{insert_entry}
use mathlib.Core.List.{map as each}
use Rattle.schema_version.proofs.Maps.{entries-remove}
use Rattle.schema_version.proofs.Lists.{here, later}
use Rattle.schema_version.proofs.Entries.{tells, put_is_insert, where_is_remove}

module _ {X : Type 0} (p : X → Bool) where
  abbrev pub count : List (ℕ × X) → ℕ
  count es = count_by p (each (λ e. e.1) es)

  more : (e : ℕ × X) (es : List (ℕ × X)) → count (e ∷ es) ≡ cond (p e.1) 1 0 + count es
  more e es = sum_by-cons (λ x. cond (p x) 1 0) e.1 (each (λ e. e.1) es)

  put_by : (k : ℕ) (v : X) (e : ℕ × X) (es rest : List (ℕ × X)) → count rest ≤ count es + cond (p v) 1 0 → (r : Ordering) → count (by_order r ((k, v) ∷ e ∷ es) ((e.0, v) ∷ es) (e ∷ rest)) ≤ count (e ∷ es) + cond (p v) 1 0
  put_by k v e es rest few Less = let a = more (k, v) (e ∷ es) in omega (arith, a)
  put_by k v e es rest few Equal = let a = more (e.0, v) es in let b = more e es in omega (arith, a, b)
  put_by k v e es rest few Greater = let a = more e rest in let b = more e es in omega (arith, a, b, few)

  pub count_put : (k : ℕ) (v : X) (es : List (ℕ × X)) → count (put nat_cmp k v es) ≤ count es + cond (p v) 1 0
  count_put k v [] = let one = more (k, v) [] in omega (arith, one)
  count_put k v (e ∷ es) = put_by k v e es (put nat_cmp k v es) (count_put k v es) (nat_cmp k e.0)

  -- a value in place of one for which the test is the same
  pub count_same : (k : ℕ) (v w : X) (es : List (ℕ × X)) → lookup (nat_eq k) es ≡ Some w → p v ≡ p w → count (insert_entry nat_eq es k v) ≡ count es
  count_same k v w [] found same = cc
  count_same k v w (e ∷ es) found same =
      elim (tells k e.0) [
        | inl q ↦ (let is : e.1 ≡ w = some_is (sym (ap (λ b. cond b (Some e.1) (lookup (nat_eq k) es)) q.0) ∙ found) in
            ap count (ap (λ b. if b then (e.0, v) ∷ es else e ∷ insert_entry nat_eq es k v) q.0)
            ∙ more (e.0, v) es
            ∙ ap (λ b. cond b 1 0 + count es) (same ∙ ap p (sym is))
            ∙ sym (more e es))
        | inr q ↦ ap count (ap (λ b. if b then (e.0, v) ∷ es else e ∷ insert_entry nat_eq es k v) q.0)
            ∙ more e (insert_entry nat_eq es k v)
            ∙ ap (λ n. cond (p e.1) 1 0 + n) (count_same k v w es (sym (ap (λ b. cond b (Some e.1) (lookup (nat_eq k) es)) q.0) ∙ found) same)
            ∙ sym (more e es)
      ]
    where
      some_is : {x y : X} → Some x ≡ Some y → x ≡ y
      some_is h = cc

  pub count_removed : (k : ℕ) (es : List (ℕ × X)) → count (remove_entry (nat_eq k) es) ≤ count es
  count_removed k [] = omega arith
  count_removed k (e ∷ es) =
      elim (tells k e.0) [
        | inl q ↦ (let a = ap count (ap (λ b. cond b es (e ∷ remove_entry (nat_eq k) es)) q.0) in let b = more e es in omega (arith, a, b))
        | inr q ↦ (let a = ap count (ap (λ b. cond b es (e ∷ remove_entry (nat_eq k) es)) q.0) in let b = more e es in let c = more e (remove_entry (nat_eq k) es) in let rest = count_removed k es in omega (arith, a, b, c, rest))
      ]

  -- none passes
  pub count_none : (es : List (ℕ × X)) → ((x : X) → Contains (each (λ e. e.1) es) x → p x ≡ false) → count es ≡ 0
  count_none [] none = refl
  count_none (e ∷ es) none =
      more e es
      ∙ (λ i. cond (none e.1 (here e.1 (each (λ e. e.1) es)) i) 1 0 + count_none es (λ x there. none x (later e.1 x (each (λ e. e.1) es) there)) i)

  -- the same of maps
  pub count_insert : (m : map.FinMap nat_cmp X) (k : ℕ) (v : X) → count (map.entries (map.insert m k v)) ≤ count (map.entries m) + cond (p v) 1 0
  count_insert m k v = subst (λ es. count es ≤ count (map.entries m) + cond (p v) 1 0) (sym (map.entries-insert nat_cmp_total m k v)) (count_put k v (map.entries m))

  pub count_change : (m : map.FinMap nat_cmp X) (k : ℕ) (v w : X) → lookup (nat_eq k) (map.entries m) ≡ Some w → p v ≡ p w → count (map.entries (map.insert m k v)) ≡ count (map.entries m)
  count_change m k v w found same =
      ap count (map.entries-insert nat_cmp_total m k v ∙ put_is_insert k v (map.entries m) (map.entries_sorted m) (inr (w, found)))
      ∙ count_same k v w (map.entries m) found same

  pub count_remove : (m : map.FinMap nat_cmp X) (k : ℕ) → count (map.entries (map.remove m k)) ≤ count (map.entries m)
  count_remove m k =
      subst (λ es. count es ≤ count (map.entries m)) (sym (entries-remove nat_cmp_total nat_cmp-IsAntisymmetric m k ∙ where_is_remove k (map.entries m) (map.entries_sorted m)))
      (count_removed k (map.entries m))
