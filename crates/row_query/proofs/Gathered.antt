-- The keys that are gathered from an index, in order.
use Rattle.std.proofs.Common.{◌≡◌, ℕ, Bool, true, false, cond, ◌||◌, List, [], ◌∷◌, Option, Some, None, refl, sym, ap, ◌∙◌}
use Rattle.std.specs.declared.cmp.Ordering.{Ordering}
use Rattle.std.specs.declared.cmp.Ordering.TheVariants.{Less, Equal, Greater}
use Rattle.std.specs.Ordering.{is_eq, eq_by_cmp, ordering_reverse, match_ordering}
use Rattle.std.specs.Cmp.{IsTotalOrder, tied_itself}
use Rattle.std.specs.List.{AllByRecursion, list_any}
use Rattle.std.specs.List.Sorted.{IsStrictlySortedBy}
use Rattle.std.specs.BTreeSet.{insert_key}
use Rattle.std.specs.FinMap.Entries.{find}
use Rattle.keycode.specs.declared.value.Value.{Value}
use Rattle.keycode.specs.Order.{values_cmp}
use Rattle.keycode.proofs.Orders.{values_cmp_total, bytes_cmp_total, bytes_cmp-IsAntisymmetric}
use Rattle.keycode.specs.Order.{bytes_cmp}
use Rattle.row_query.specs.inner.Bounds.{index_key_in, with_key, gathered}
use Rattle.row_query.proofs.Sorted.{tied_is}

module _ {K : Type 0} (R : K → K → Ordering) (o : IsTotalOrder R) where
  all_less : (x k : K) (ks : List K) → R x k ≡ Less → AllByRecursion (λ l. R k l ≡ Less) ks → AllByRecursion (λ l. R x l ≡ Less) ks
  all_less x k [] lt all = tt
  all_less x k (l ∷ ks) lt all = (o.trans x k l lt all.0, all_less x k ks lt all.1)

  pub all_insert : (P : K → Type 0) (k : K) (ks : List K) → P k → AllByRecursion P ks → AllByRecursion P (insert_key R ks k)
  all_insert P k [] p all = (p, tt)
  all_insert P k (x ∷ ks) p all = elim (R k x) as (λ r. AllByRecursion P (match_ordering r (k ∷ x ∷ ks) (x ∷ ks) (x ∷ insert_key R ks k))) [
    | Less ↦ (p, all)
    | Equal ↦ all
    | Greater ↦ (all.0, all_insert P k ks p all.1)
  ]

  pub sorted_insert : (k : K) (ks : List K) → IsStrictlySortedBy R ks → IsStrictlySortedBy R (insert_key R ks k)
  unfolding IsStrictlySortedBy
  sorted_insert k [] h = (tt, tt)
  sorted_insert k (x ∷ ks) h = elim (R k x) as (λ r. R k x ≡ r → IsStrictlySortedBy R (match_ordering r (k ∷ x ∷ ks) (x ∷ ks) (x ∷ insert_key R ks k))) [
    | Less ↦ λ e. ((e, all_less k x ks e h.0), h)
    | Equal ↦ λ e. h
    | Greater ↦ λ e. (all_insert (λ l. R x l ≡ Less) k ks (o.antisymm x k ∙ ap ordering_reverse e) h.0, sorted_insert k ks h.1)
  ] refl

  pub insert_has : (k : K) (ks : List K) → list_any (eq_by_cmp R k) (insert_key R ks k) ≡ true
  insert_has k [] = ap (λ r. is_eq r || false) (tied_itself o k)
  insert_has k (x ∷ ks) = elim (R k x) as (λ r. R k x ≡ r → list_any (eq_by_cmp R k) (match_ordering r (k ∷ x ∷ ks) (x ∷ ks) (x ∷ insert_key R ks k)) ≡ true) [
    | Less ↦ λ e. ap (λ r. is_eq r || list_any (eq_by_cmp R k) (x ∷ ks)) (tied_itself o k)
    | Equal ↦ λ e. ap (λ r. is_eq r || list_any (eq_by_cmp R k) ks) e
    | Greater ↦ λ e. ap (λ r. is_eq r || list_any (eq_by_cmp R k) (insert_key R ks k)) e ∙ insert_has k ks
  ] refl

  or_true : (a b c : Bool) → (b ≡ true → c ≡ true) → (a || b) ≡ true → (a || c) ≡ true
  or_true true b c f e = refl
  or_true false b c f e = f e

  later : (a b : Bool) → b ≡ true → (a || b) ≡ true
  later true b e = refl
  later false b e = e

  pub insert_keeps : (q k : K) (ks : List K) → list_any (eq_by_cmp R q) ks ≡ true → list_any (eq_by_cmp R q) (insert_key R ks k) ≡ true
  insert_keeps q k [] e = absurd cc
  insert_keeps q k (x ∷ ks) e = elim (R k x) as (λ r. list_any (eq_by_cmp R q) (match_ordering r (k ∷ x ∷ ks) (x ∷ ks) (x ∷ insert_key R ks k)) ≡ true) [
    | Less ↦ later (eq_by_cmp R q k) _ e
    | Equal ↦ e
    | Greater ↦ or_true (eq_by_cmp R q x) (list_any (eq_by_cmp R q) ks) _ (insert_keeps q k ks) e
  ]

module _ (number width : ℕ) where
  pub gathered_sorted : (ks : List (List Value)) (walked : List (List ℕ × List ℕ)) → IsStrictlySortedBy values_cmp ks → IsStrictlySortedBy values_cmp (gathered number width ks walked)
  gathered_sorted ks [] h = h
  gathered_sorted ks (p ∷ ps) h = gathered_sorted (with_key ks (index_key_in number width p.0)) ps (more (index_key_in number width p.0))
    where
      more : (o : Option (List Value)) → IsStrictlySortedBy values_cmp (with_key ks o)
      more None = h
      more (Some k) = sorted_insert values_cmp values_cmp_total k ks h

  pub gathered_all : (P : List Value → Type 0) (Q : List ℕ × List ℕ → Type 0) → ((p : List ℕ × List ℕ) (k : List Value) → Q p → index_key_in number width p.0 ≡ Some k → P k)
      → (ks : List (List Value)) (walked : List (List ℕ × List ℕ)) → AllByRecursion P ks → AllByRecursion Q walked → AllByRecursion P (gathered number width ks walked)
  gathered_all P Q gives ks [] h all = h
  gathered_all P Q gives ks (p ∷ ps) h all = gathered_all P Q gives (with_key ks (index_key_in number width p.0)) ps (more (index_key_in number width p.0) refl) all.1
    where
      more : (o : Option (List Value)) → index_key_in number width p.0 ≡ o → AllByRecursion P (with_key ks o)
      more None e = h
      more (Some k) e = all_insert values_cmp values_cmp_total P k ks (gives p k all.0 e) h

  pub gathered_keeps : (q : List Value) (ks : List (List Value)) (walked : List (List ℕ × List ℕ)) → list_any (eq_by_cmp values_cmp q) ks ≡ true → list_any (eq_by_cmp values_cmp q) (gathered number width ks walked) ≡ true
  gathered_keeps q ks [] h = h
  gathered_keeps q ks (p ∷ ps) h = gathered_keeps q (with_key ks (index_key_in number width p.0)) ps (more (index_key_in number width p.0))
    where
      more : (o : Option (List Value)) → list_any (eq_by_cmp values_cmp q) (with_key ks o) ≡ true
      more None = h
      more (Some k) = insert_keeps values_cmp values_cmp_total q k ks h

  pub gathered_has : (bytes value : List ℕ) (k : List Value) (ks : List (List Value)) (walked : List (List ℕ × List ℕ)) → find bytes_cmp bytes walked ≡ Some value → index_key_in number width bytes ≡ Some k → list_any (eq_by_cmp values_cmp k) (gathered number width ks walked) ≡ true
  gathered_has bytes value k ks [] is of = absurd cc
  gathered_has bytes value k ks (p ∷ ps) is of =
      elim (eq_by_cmp bytes_cmp bytes p.0) as (λ b. eq_by_cmp bytes_cmp bytes p.0 ≡ b → cond b (Some p.1) (find bytes_cmp bytes ps) ≡ Some value → list_any (eq_by_cmp values_cmp k) (gathered number width ks (p ∷ ps)) ≡ true) [
        | true ↦ λ t e. gathered_keeps k (with_key ks (index_key_in number width p.0)) ps
            (ap (λ o. list_any (eq_by_cmp values_cmp k) (with_key ks o)) (ap (index_key_in number width) (sym (tied_is bytes_cmp_total bytes_cmp-IsAntisymmetric bytes p.0 t)) ∙ of) ∙ insert_has values_cmp values_cmp_total k ks)
        | false ↦ λ t e. gathered_has bytes value k (with_key ks (index_key_in number width p.0)) ps e of
      ] refl is
