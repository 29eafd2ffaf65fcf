-- The entries of a map that keeps the order of insertion, where its keys are numbers that rise.
use Rattle.std.proofs.Common.{◌≡◌, ◌≢◌, ℕ, ◌+◌, ◌<◌, Bool, true, false, cond, not, ◌&&◌, T, List, [], ◌∷◌, Option, Some, None, ◌⊎◌, inl, inr, refl, sym, ap, subst, ◌∙◌, arith, if◌then◌else◌, nat_eq}
use Rattle.std.specs.declared.cmp.Ordering.{Ordering}
use Rattle.std.specs.declared.cmp.Ordering.TheVariants.{Less, Equal, Greater}
use Rattle.std.specs.Ordering.{nat_cmp, is_lt, eq_by_cmp}
use Rattle.std.specs.Cmp.{nat_cmp_is, ranked, unsigned_tied}
use Rattle.std.proofs.lemmas.Cmp.{nat_cmp_total}
use Rattle.std.proofs.lemmas.Bool.Decides.{eqb_tells}
use Rattle.std.specs.FinMap as map
use Rattle.std.specs.FinMap.{nat_cmp-IsAntisymmetric}
use Rattle.std.specs.FinMap.Entries.{find, put, is_sorted, below_all, where_key, by_order, is_sorted-put, is_sorted-where_key}
use Rattle.std.specs.Map.{lookup, remove_entry}
use Rattle.std.specs.List.{AllByRecursion}
use Rattle.indexmap.specs.IndexMap.{insert_entry}
use Rattle.schema_version.proofs.Maps.{entries-remove}
use Rattle.std.specs.Prelude.{nat_lt, position}
use Rattle.std.specs.List.{prefix_len}
use Rattle.std.specs.Option.{option_map}
use Rattle.std.proofs.lemmas.List.{length-map}
use mathlib.Core.List.{map as each}

-- what a key's test answers, and what it says
pub tells : (a b : ℕ) → ((nat_eq a b ≡ true) × (a ≡ b)) ⊎ ((nat_eq a b ≡ false) × (a ≢ b))
tells a b = eqb_tells a b

pub both : (a b : Bool) → T a → T b → T (a && b)
both true b p q = q
both false b p q = p

pub one : (a b : Bool) → T (a && b) → T a
one true b p = tt
one false b p = p

pub other : (a b : Bool) → T (a && b) → T b
other true b p = p
other false b p = absurd p

is_less : (r : Ordering) → T (is_lt r) → r ≡ Less
is_less Less p = refl
is_less Equal p = absurd p
is_less Greater p = absurd p

pub lower : (x y : ℕ) → T (is_lt (nat_cmp x y)) → x < y
lower x y h = ranked x y Less (sym (is_less (nat_cmp x y) h))

higher : (x y : ℕ) → y < x → nat_cmp x y ≡ Greater
higher x y h = sym (nat_cmp_is x y Greater h)

tied : (x y : ℕ) → x ≡ y → nat_cmp x y ≡ Equal
tied x y h = sym (nat_cmp_is x y Equal h)

module _ {X : Type 0} where
  pub find-lookup : (q : ℕ) (es : List (ℕ × X)) → find nat_cmp q es ≡ lookup (nat_eq q) es
  find-lookup q [] = refl
  find-lookup q (e ∷ es) = ap (λ b. cond b (Some e.1) (find nat_cmp q es)) (unsigned_tied q e.0) ∙ ap (cond (nat_eq q e.0) (Some e.1)) (find-lookup q es)

  -- what is there is above each key that is below all
  pub found_above : (x k : ℕ) (es : List (ℕ × X)) (w : X) → T (below_all nat_cmp x es) → lookup (nat_eq k) es ≡ Some w → x < k
  found_above x k [] w below found = cc
  found_above x k (e ∷ es) w below found =
      elim (tells k e.0) [
        | inl p ↦ subst (λ n. x < n) (sym p.1) (lower x e.0 (one _ _ below))
        | inr p ↦ found_above x k es w (other _ _ below) (sym (ap (λ b. cond b (Some e.1) (lookup (nat_eq k) es)) p.0) ∙ found)
      ]

  -- the key is above all, or it is there
  abbrev pub Fits : ℕ → List (ℕ × X) → Type 0
  Fits k es = AllByRecursion (λ e. e.0 < k) es ⊎ ((w : X) × (lookup (nat_eq k) es ≡ Some w))

  head_below : (k : ℕ) (e : ℕ × X) (es : List (ℕ × X)) → T (is_sorted nat_cmp (e ∷ es)) → Fits k (e ∷ es) → nat_eq k e.0 ≡ false → e.0 < k
  head_below k e es sorted (inl all) p = all.0
  head_below k e es sorted (inr (w, found)) p = found_above e.0 k es w (one _ _ sorted) (sym (ap (λ b. cond b (Some e.1) (lookup (nat_eq k) es)) p) ∙ found)

  rest_fits : (k : ℕ) (e : ℕ × X) (es : List (ℕ × X)) → Fits k (e ∷ es) → nat_eq k e.0 ≡ false → Fits k es
  rest_fits k e es (inl all) p = inl all.1
  rest_fits k e es (inr (w, found)) p = inr (w, sym (ap (λ b. cond b (Some e.1) (lookup (nat_eq k) es)) p) ∙ found)

  -- to insert is then to put in order
  pub put_is_insert : (k : ℕ) (v : X) (es : List (ℕ × X)) → T (is_sorted nat_cmp es) → Fits k es → put nat_cmp k v es ≡ insert_entry nat_eq es k v
  put_is_insert k v [] sorted fits = refl
  put_is_insert k v (e ∷ es) sorted fits =
      elim (tells k e.0) [
        | inl p ↦ ap (λ r. by_order r ((k, v) ∷ e ∷ es) ((e.0, v) ∷ es) (e ∷ put nat_cmp k v es)) (tied k e.0 p.1) ∙ sym (ap (λ b. if b then (e.0, v) ∷ es else e ∷ insert_entry nat_eq es k v) p.0)
        | inr p ↦ ap (λ r. by_order r ((k, v) ∷ e ∷ es) ((e.0, v) ∷ es) (e ∷ put nat_cmp k v es)) (higher k e.0 (head_below k e es sorted fits p.0))
            ∙ ap (λ r. e ∷ r) (put_is_insert k v es (other _ _ sorted) (rest_fits k e es fits p.0))
            ∙ sym (ap (λ b. if b then (e.0, v) ∷ es else e ∷ insert_entry nat_eq es k v) p.0)
      ]

  pub rising_insert : (k : ℕ) (v : X) (es : List (ℕ × X)) → T (is_sorted nat_cmp es) → Fits k es → T (is_sorted nat_cmp (insert_entry nat_eq es k v))
  rising_insert k v es sorted fits = subst (λ l. T (is_sorted nat_cmp l)) (put_is_insert k v es sorted fits) (is_sorted-put nat_cmp nat_cmp_total k v es sorted)

  pub map_insert : (k : ℕ) (v : X) (es : List (ℕ × X)) → T (is_sorted nat_cmp es) → Fits k es → map.insert (map.from_sorted {R = nat_cmp} es) k v ≡ map.from_sorted (insert_entry nat_eq es k v)
  map_insert k v es sorted fits =
      map.same_entries_map _ _
      (map.entries-insert nat_cmp_total (map.from_sorted es) k v
      ∙ ap (put nat_cmp k v) (map.entries-from_sorted nat_cmp es sorted)
      ∙ put_is_insert k v es sorted fits
      ∙ sym (map.entries-from_sorted nat_cmp _ (rising_insert k v es sorted fits)))

  -- nothing is taken from above the key
  kept_above : (k : ℕ) (es : List (ℕ × X)) → T (below_all nat_cmp k es) → where_key nat_cmp (λ x. not (eq_by_cmp nat_cmp k x)) es ≡ es
  kept_above k [] below = refl
  kept_above k (e ∷ es) below =
      elim (tells k e.0) [
        | inl p ↦ absurd (omega (arith, lower k e.0 (one _ _ below), p.1))
        | inr p ↦ ap (λ b. cond (not b) (e ∷ where_key nat_cmp (λ x. not (eq_by_cmp nat_cmp k x)) es) (where_key nat_cmp (λ x. not (eq_by_cmp nat_cmp k x)) es)) (unsigned_tied k e.0 ∙ p.0) ∙ ap (λ r. e ∷ r) (kept_above k es (other _ _ below))
      ]

  pub where_is_remove : (k : ℕ) (es : List (ℕ × X)) → T (is_sorted nat_cmp es) → where_key nat_cmp (λ x. not (eq_by_cmp nat_cmp k x)) es ≡ remove_entry (nat_eq k) es
  where_is_remove k [] sorted = refl
  where_is_remove k (e ∷ es) sorted =
      elim (tells k e.0) [
        | inl p ↦ ap (λ b. cond (not b) (e ∷ where_key nat_cmp (λ x. not (eq_by_cmp nat_cmp k x)) es) (where_key nat_cmp (λ x. not (eq_by_cmp nat_cmp k x)) es)) (unsigned_tied k e.0 ∙ p.0)
            ∙ kept_above k es (subst (λ n. T (below_all nat_cmp n es)) (sym p.1) (one _ _ sorted))
            ∙ sym (ap (λ b. cond b es (e ∷ remove_entry (nat_eq k) es)) p.0)
        | inr p ↦ ap (λ b. cond (not b) (e ∷ where_key nat_cmp (λ x. not (eq_by_cmp nat_cmp k x)) es) (where_key nat_cmp (λ x. not (eq_by_cmp nat_cmp k x)) es)) (unsigned_tied k e.0 ∙ p.0)
            ∙ ap (λ r. e ∷ r) (where_is_remove k es (other _ _ sorted))
            ∙ sym (ap (λ b. cond b es (e ∷ remove_entry (nat_eq k) es)) p.0)
      ]

  pub rising_remove : (k : ℕ) (es : List (ℕ × X)) → T (is_sorted nat_cmp es) → T (is_sorted nat_cmp (remove_entry (nat_eq k) es))
  rising_remove k es sorted = subst (λ l. T (is_sorted nat_cmp l)) (where_is_remove k es sorted) (is_sorted-where_key nat_cmp _ es sorted)

  pub map_remove : (k : ℕ) (es : List (ℕ × X)) → T (is_sorted nat_cmp es) → map.remove (map.from_sorted {R = nat_cmp} es) k ≡ map.from_sorted (remove_entry (nat_eq k) es)
  map_remove k es sorted =
      map.same_entries_map _ _
      (entries-remove nat_cmp_total nat_cmp-IsAntisymmetric (map.from_sorted es) k
      ∙ ap (where_key nat_cmp (λ x. not (eq_by_cmp nat_cmp k x))) (map.entries-from_sorted nat_cmp es sorted)
      ∙ where_is_remove k es sorted
      ∙ sym (map.entries-from_sorted nat_cmp _ (rising_remove k es sorted)))

  pub map_get : (es : List (ℕ × X)) (q : ℕ) → T (is_sorted nat_cmp es) → map.get (map.from_sorted {R = nat_cmp} es) q ≡ lookup (nat_eq q) es
  map_get es q sorted = map.get-from_sorted nat_cmp es q sorted ∙ find-lookup q es

  -- what is true of each entry
  pub All-found : (P : ℕ × X → Type 0) (k : ℕ) (v : X) (es : List (ℕ × X)) → AllByRecursion P es → lookup (nat_eq k) es ≡ Some v → P (k, v)
  All-found P k v [] all found = cc
  All-found P k v (e ∷ es) all found =
      elim (tells k e.0) [
        | inl p ↦ subst P (λ i. (sym p.1 i, some_same (sym (ap (λ b. cond b (Some e.1) (lookup (nat_eq k) es)) p.0) ∙ found) i)) all.0
        | inr p ↦ All-found P k v es all.1 (sym (ap (λ b. cond b (Some e.1) (lookup (nat_eq k) es)) p.0) ∙ found)
      ]
    where
      some_same : {x y : X} → Some x ≡ Some y → x ≡ y
      some_same e = cc

  pub All-insert : (P : ℕ × X → Type 0) (k : ℕ) (v : X) (es : List (ℕ × X)) → AllByRecursion P es → P (k, v) → AllByRecursion P (insert_entry nat_eq es k v)
  All-insert P k v [] all p = (p, tt)
  All-insert P k v (e ∷ es) all p =
      elim (tells k e.0) [
        | inl q ↦ subst (AllByRecursion P) (sym (ap (λ b. if b then (e.0, v) ∷ es else e ∷ insert_entry nat_eq es k v) q.0)) (subst P (λ i. (q.1 i, v)) p, all.1)
        | inr q ↦ subst (AllByRecursion P) (sym (ap (λ b. if b then (e.0, v) ∷ es else e ∷ insert_entry nat_eq es k v) q.0)) (all.0, All-insert P k v es all.1 p)
      ]

  pub All-remove : (P : ℕ × X → Type 0) (k : ℕ) (es : List (ℕ × X)) → AllByRecursion P es → AllByRecursion P (remove_entry (nat_eq k) es)
  All-remove P k [] all = tt
  All-remove P k (e ∷ es) all =
      elim (tells k e.0) [
        | inl q ↦ subst (AllByRecursion P) (sym (ap (λ b. cond b es (e ∷ remove_entry (nat_eq k) es)) q.0)) all.1
        | inr q ↦ subst (AllByRecursion P) (sym (ap (λ b. cond b es (e ∷ remove_entry (nat_eq k) es)) q.0)) (all.0, All-remove P k es all.1)
      ]

  pub All-weaker : (P Q : ℕ × X → Type 0) (es : List (ℕ × X)) → ((e : ℕ × X) → P e → Q e) → AllByRecursion P es → AllByRecursion Q es
  All-weaker P Q [] f all = tt
  All-weaker P Q (e ∷ es) f all = (f e all.0, All-weaker P Q es f all.1)

-- the first place at which a test passes, in a list seen through f
prefix_through : {X Y : Type 0} (f : X → Y) (p : Y → Bool) (xs : List X) → prefix_len (λ x. not (p (f x))) xs ≡ prefix_len (λ y. not (p y)) (each f xs)
prefix_through f p [] = refl
prefix_through f p (x ∷ xs) = ap (λ n. cond (not (p (f x))) (1 + n) 0) (prefix_through f p xs)

pub position_through : {X Y : Type 0} (f : X → Y) (p : Y → Bool) (xs : List X) → position (λ x. p (f x)) xs ≡ position p (each f xs)
position_through f p xs = λ i. cond (nat_lt (prefix_through f p xs i) (sym (length-map xs f) i)) (Some (prefix_through f p xs i)) None

pub option_through : {X Y Z : Type 0} (f : X → Y) (g : Y → Z) (o : Option X) → option_map (λ x. g (f x)) o ≡ option_map g (option_map f o)
option_through f g None = refl
option_through f g (Some x) = refl
