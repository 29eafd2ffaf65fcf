-- The pairs from a key on and below another: the first of them stands before those after it.
use Rattle.std.proofs.Common.{◌≡◌, ◌≢◌, Bool, true, false, cond, ◌&&◌, not, T, List, [], ◌∷◌, Option, Some, None, refl, sym, ap, subst, ◌∙◌}
use Rattle.std.specs.declared.cmp.Ordering.{Ordering}
use Rattle.std.specs.declared.cmp.Ordering.TheVariants.{Less, Equal, Greater}
use Rattle.std.specs.Ordering.{is_lt, is_le, is_eq, eq_by_cmp, ordering_reverse}
use Rattle.std.specs.FinMap as map
use Rattle.std.specs.FinMap.Entries.{find, where_key, below_all, is_sorted, same_entries, find-where_key, is_sorted-where_key}
use Rattle.keycode.specs.Order.{bytes_cmp}
use Rattle.byte_map.specs.Walk.{IsNext, HasNoNext, is_within}
use Rattle.byte_map.proofs.Order.{bytes_cmp_total, bytes_cmp-IsAntisymmetric, from_less, to_less, both, first, second}
use Rattle.row_map.specs.Rows.{Bytes, Pairs}
use Rattle.row_map.specs.Walk.{key_range, after}
use Rattle.row_map.proofs.Walks.{below_after}

above : (o : Ordering) → T (not (is_le o)) → o ≡ Greater
above Less p = absurd p
above Equal p = absurd p
above Greater p = refl

not_less : (o : Ordering) → o ≢ Less → T (not (is_lt o))
not_less Less p = absurd (p refl)
not_less Equal p = tt
not_less Greater p = tt

not_less_is : (o : Ordering) → T (not (is_lt o)) → o ≢ Less
not_less_is o p e = subst (λ r. T (not (is_lt r))) e p

pub is_true : (b : Bool) → T b → b ≡ true
is_true true p = refl
is_true false p = absurd p

pub truly : (b : Bool) → b ≡ true → T b
truly b e = subst T (sym e) tt

below_where : (x : Bytes) (p : Bytes → Bool) → ((k : Bytes) → T (p k) → bytes_cmp x k ≡ Less) → {X : Type 0} (es : List (Bytes × X)) → T (below_all bytes_cmp x (where_key bytes_cmp p es))
below_where x p lt [] = tt
below_where x p lt (e ∷ es) =
    let rest = below_where x p lt es in
    elim (p e.0) as (λ b. p e.0 ≡ b → T (below_all bytes_cmp x (cond b (e ∷ where_key bytes_cmp p es) (where_key bytes_cmp p es)))) [
      | true ↦ λ t. both (is_lt (bytes_cmp x e.0)) _ (from_less _ (lt e.0 (truly (p e.0) t))) rest
      | false ↦ λ t. rest
    ] refl

pub key_range_sorted : (pairs : Pairs) (low high : Bytes) → T (is_sorted bytes_cmp (key_range pairs low high))
key_range_sorted pairs low high = is_sorted-where_key bytes_cmp (is_within low high) (map.entries pairs) (map.entries_sorted pairs)

pub find_key_range : (pairs : Pairs) (low high q : Bytes) → find bytes_cmp q (key_range pairs low high) ≡ cond (is_within low high q) (map.get pairs q) None
find_key_range pairs low high q =
    find-where_key bytes_cmp (is_within low high) q (λ x e. ap (is_within low high) (sym (bytes_cmp-IsAntisymmetric q x e))) (map.entries pairs)
    ∙ ap (λ o. cond (is_within low high q) o None) (sym (map.get-entries pairs q))

both_none : {X : Type 0} (b : Bool) (o : Option X) → (T b → o ≡ None) → cond b o None ≡ None
both_none true o h = h tt
both_none false o h = refl

no_key_range : (pairs : Pairs) (low high : Bytes) → ((q : Bytes) → T (is_within low high q) → map.get pairs q ≡ None) → key_range pairs low high ≡ []
no_key_range pairs low high h = same_entries bytes_cmp bytes_cmp_total bytes_cmp-IsAntisymmetric (key_range pairs low high) [] (key_range_sorted pairs low high) tt (λ q. find_key_range pairs low high q ∙ both_none (is_within low high q) (map.get pairs q) (h q))

pub key_range_none : (pairs : Pairs) (low high : Bytes) → HasNoNext pairs low → key_range pairs low high ≡ []
key_range_none pairs low high none = no_key_range pairs low high (λ q w. none q (not_less_is (bytes_cmp q low) (first _ _ w)))

pub key_range_past : (pairs : Pairs) (low high : Bytes) (f : Bytes × Bytes) → IsNext pairs low f → bytes_cmp f.0 high ≢ Less → key_range pairs low high ≡ []
key_range_past pairs low high f next past = no_key_range pairs low high (λ q w.
    let at_low : bytes_cmp q low ≢ Less = not_less_is (bytes_cmp q low) (first _ _ w) in
    let below : bytes_cmp q high ≡ Less = to_less _ (second _ _ w) in
    elim (bytes_cmp q f.0) as (λ r. bytes_cmp q f.0 ≡ r → map.get pairs q ≡ None) [
      | Less ↦ λ e. next.first q at_low e
      | Equal ↦ λ e. absurd (past (ap (λ k. bytes_cmp k high) (sym (bytes_cmp-IsAntisymmetric q f.0 e)) ∙ below))
      | Greater ↦ λ e. absurd (past (bytes_cmp_total.trans f.0 q high (bytes_cmp_total.antisymm f.0 q ∙ ap ordering_reverse e) below))
    ] refl)

pub key_range_next : (pairs : Pairs) (low high : Bytes) (f : Bytes × Bytes) → IsNext pairs low f → bytes_cmp f.0 high ≡ Less → key_range pairs low high ≡ f ∷ key_range pairs (after f.0) high
key_range_next pairs low high f next below =
    same_entries bytes_cmp bytes_cmp_total bytes_cmp-IsAntisymmetric (key_range pairs low high) (f ∷ key_range pairs (after f.0) high) (key_range_sorted pairs low high)
    (both (below_all bytes_cmp f.0 (key_range pairs (after f.0) high)) _
    (below_where f.0 (is_within (after f.0) high) (λ k w. bytes_cmp_total.antisymm f.0 k ∙ ap ordering_reverse (above (bytes_cmp k f.0) (subst (λ b. T (not b)) (below_after k f.0) (first _ _ w)))) (map.entries pairs))
    (key_range_sorted pairs (after f.0) high))
    (λ q. find_key_range pairs low high q ∙ step q ∙ sym (ap (cond (eq_by_cmp bytes_cmp q f.0) (Some f.1)) (find_key_range pairs (after f.0) high q)))
  where
    step : (q : Bytes) → cond (is_within low high q) (map.get pairs q) None ≡ cond (eq_by_cmp bytes_cmp q f.0) (Some f.1) (cond (is_within (after f.0) high q) (map.get pairs q) None)
    step q = elim (bytes_cmp q f.0) as (λ r. bytes_cmp q f.0 ≡ r → cond (is_within low high q) (map.get pairs q) None ≡ cond (is_eq r) (Some f.1) (cond (is_within (after f.0) high q) (map.get pairs q) None)) [
      | Less ↦ λ e.
          both_none (is_within low high q) (map.get pairs q) (λ w. next.first q (not_less_is (bytes_cmp q low) (first _ _ w)) e)
          ∙ ap (λ b. cond (not b && is_lt (bytes_cmp q high)) (map.get pairs q) None) (sym (below_after q f.0 ∙ ap is_le e))
      | Equal ↦ λ e.
          let is : q ≡ f.0 = bytes_cmp-IsAntisymmetric q f.0 e in
          ap (λ k. cond (is_within low high k) (map.get pairs k) None) is
          ∙ ap (λ b. cond b (map.get pairs f.0) None) (is_true (is_within low high f.0) (both _ _ (not_less _ next.reached) (from_less _ below))) ∙ next.here
      | Greater ↦ λ e.
          let above_low : bytes_cmp q low ≢ Less = λ l. next.reached (bytes_cmp_total.trans f.0 q low (bytes_cmp_total.antisymm f.0 q ∙ ap ordering_reverse e) l) in
          ap (λ b. cond (b && is_lt (bytes_cmp q high)) (map.get pairs q) None) (is_true _ (not_less _ above_low) ∙ ap not (sym (below_after q f.0 ∙ ap is_le e)))
    ] refl
