-- The entries of a map, noted one after another, give the map again.
use Rattle.std.proofs.Common.{◌≡◌, ◌≤◌, ℕ, true, false, cond, List, [], ◌∷◌, length, drop, Option, Some, None, refl, sym, ap, ◌∙◌}
use Rattle.std.proofs.lemmas.List.{drop_all}
use Rattle.std.specs.Ordering.{eq_by_cmp}
use Rattle.std.specs.Cmp.{Equal-is}
use Rattle.std.specs.FinMap as map
use Rattle.std.specs.FinMap.Entries.{find}
use Rattle.byte_map.specs.Order.{bytes_cmp}
use Rattle.byte_map.specs.Sorted.{Entries, IsSorted}
use Rattle.byte_map.specs.Writes.{noted}
use Rattle.byte_map.proofs.Order.{bytes_cmp_total, bytes_cmp-IsAntisymmetric, first, second}
use Rattle.byte_map.proofs.Entries.{find_none}

module _ {X : Type 0} where
  -- what is found of the list, or else what was there
  abbrev found : Option (Option X) → Option (Option X) → Option (Option X)
  found None there = there
  found (Some value) there = Some value

  get_noted : (es : Entries (Option X)) (m : map.FinMap bytes_cmp (Option X)) (q : List ℕ) → IsSorted es → map.get (noted m es) q ≡ found (find bytes_cmp q es) (map.get m q)
  get_noted [] m q h = refl
  get_noted (e ∷ es) m q h =
      get_noted es (map.insert m e.0 e.1) q (second _ _ h)
      ∙ ap (found (find bytes_cmp q es)) (map.get-insert bytes_cmp_total m e.0 e.1 q)
      ∙ elim (eq_by_cmp bytes_cmp q e.0) as (λ b. eq_by_cmp bytes_cmp q e.0 ≡ b → found (find bytes_cmp q es) (cond b (Some e.1) (map.get m q)) ≡ found (cond b (Some e.1) (find bytes_cmp q es)) (map.get m q)) [
        | true ↦ λ same. ap (λ (o : Option (Option X)). found o (Some e.1)) (none_behind (bytes_cmp-IsAntisymmetric q e.0 ((Equal-is (bytes_cmp q e.0)).0 same)))
        | false ↦ λ apart. refl
      ] refl
    where
      none_behind : q ≡ e.0 → find bytes_cmp q es ≡ None
      none_behind same = ap (λ (k : List ℕ). find bytes_cmp k es) same ∙ find_none es e.0 (first _ _ h)

  found_none : (o : Option (Option X)) → found o None ≡ o
  found_none None = refl
  found_none (Some value) = refl

  pub noted_again : (m : map.FinMap bytes_cmp (Option X)) → noted map.empty (map.entries m) ≡ m
  noted_again m = map.same_map bytes_cmp_total bytes_cmp-IsAntisymmetric _ _ (λ q.
      get_noted (map.entries m) map.empty q (map.entries_sorted m)
      ∙ ap (found (find bytes_cmp q (map.entries m))) (map.get-empty bytes_cmp q)
      ∙ found_none (find bytes_cmp q (map.entries m))
      ∙ sym (map.get-entries m q))

  -- at the end of the loop the copy is the map
  pub copied : (copy m : map.FinMap bytes_cmp (Option X)) (es : Entries (Option X)) (i : ℕ) → length es ≤ i → es ≡ map.entries m → noted copy (drop i es) ≡ noted map.empty es → copy ≡ m
  copied copy m es i over is invariant =
      ap (noted copy) (sym (drop_all i es over))
      ∙ invariant
      ∙ ap (noted map.empty) is
      ∙ noted_again m
