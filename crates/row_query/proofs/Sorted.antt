-- Lists of entries in the order of their keys.
use Rattle.std.proofs.Common.{◌≡◌, Bool, true, false, cond, ◌||◌, T, List, [], ◌∷◌, Option, Some, None, refl, sym, ap, subst, ◌∙◌, option_map}
use Rattle.std.specs.declared.cmp.Ordering.{Ordering}
use Rattle.std.specs.declared.cmp.Ordering.TheVariants.{Less}
use Rattle.std.specs.Ordering.{is_lt, is_eq, eq_by_cmp}
use Rattle.std.specs.Cmp.{IsTotalOrder, tied_itself, Equal-is}
use Rattle.std.specs.List.{AllByRecursion, filter, filter_map, cons_option, list_any}
use Rattle.std.specs.List.Sorted.{IsStrictlySortedBy}
use Rattle.std.specs.FinMap.{IsAntisymmetric}
use Rattle.std.specs.FinMap.Entries.{find, below_all, is_sorted}
use Rattle.byte_map.proofs.Order.{both, first, second, from_less, to_less}

-- an entry for each key that has a value
abbrev pub kept : {K X : Type 0} → (K → Option X) → List K → List (K × X)
kept a ks = filter_map (λ k. option_map (λ x. (k, x)) (a k)) ks

module _ {K : Type 0} {R : K → K → Ordering} (o : IsTotalOrder R) (same : IsAntisymmetric R) where
  pub tied : (k : K) → eq_by_cmp R k k ≡ true
  tied k = ap is_eq (tied_itself o k)

  pub tied_is : (q k : K) → eq_by_cmp R q k ≡ true → q ≡ k
  tied_is q k e = same q k ((Equal-is (R q k)).0 e)

  pub apart_less : (q k : K) → R q k ≡ Less → eq_by_cmp R q k ≡ false
  apart_less q k e = ap is_eq e

abbrev or_else : {X : Type 0} → Option X → Option X → Option X
or_else None z = z
or_else (Some x) z = Some x

picked : {X : Type 0} (y z : Option X) (m : Bool) → z ≡ cond m y None → or_else y z ≡ y
picked None z true e = e
picked None z false e = e
picked (Some x) z m e = refl

find_step : {K X : Type 0} (R : K → K → Ordering) (q k : K) (y : Option X) (es : List (K × X)) → find R q (cons_option (option_map (λ x. (k, x)) y) es) ≡ cond (eq_by_cmp R q k) (or_else y (find R q es)) (find R q es)
find_step R q k None es = elim (eq_by_cmp R q k) as (λ b. find R q es ≡ cond b (find R q es) (find R q es)) [ true ↦ refl | false ↦ refl ]
find_step R q k (Some x) es = refl

module _ {K X : Type 0} {R : K → K → Ordering} (o : IsTotalOrder R) (same : IsAntisymmetric R) where
  -- a key that is not among them has no value here
  pub find_kept : (a : K → Option X) (q : K) (ks : List K) → find R q (kept a ks) ≡ cond (list_any (eq_by_cmp R q) ks) (a q) None
  find_kept a q [] = refl
  find_kept a q (k ∷ ks) =
      let rest = find_kept a q ks in
      find_step R q k (a k) (kept a ks)
      ∙ elim (eq_by_cmp R q k) as (λ b. eq_by_cmp R q k ≡ b → cond b (or_else (a k) (find R q (kept a ks))) (find R q (kept a ks)) ≡ cond (b || list_any (eq_by_cmp R q) ks) (a q) None) [
        | true ↦ λ e. ap (λ y. or_else y (find R q (kept a ks))) (ap a (sym (tied_is o same q k e))) ∙ picked (a q) (find R q (kept a ks)) _ rest
        | false ↦ λ e. rest
      ] refl

  below_kept : (a : K → Option X) (k : K) (ks : List K) → AllByRecursion (λ l. R k l ≡ Less) ks → T (below_all R k (kept a ks))
  below_kept a k [] h = tt
  below_kept a k (l ∷ ks) h =
      let rest = below_kept a k ks h.1 in
      elim (a l) as (λ y. T (below_all R k (cons_option (option_map (λ x. (l, x)) y) (kept a ks)))) [
        | None ↦ rest
        | Some x ↦ both (is_lt (R k l)) _ (from_less (R k l) h.0) rest
      ]

  pub sorted_kept : (a : K → Option X) (ks : List K) → IsStrictlySortedBy R ks → T (is_sorted R (kept a ks))
  unfolding IsStrictlySortedBy
  sorted_kept a [] h = tt
  sorted_kept a (k ∷ ks) h =
      let rest = sorted_kept a ks h.1 in
      elim (a k) as (λ y. T (is_sorted R (cons_option (option_map (λ x. (k, x)) y) (kept a ks)))) [
        | None ↦ rest
        | Some x ↦ both (below_all R k (kept a ks)) _ (below_kept a k ks h.0) rest
      ]

  find_below : (q : K) (es : List (K × X)) → T (below_all R q es) → find R q es ≡ None
  find_below q [] h = refl
  find_below q (e ∷ es) h = ap (λ r. cond (is_eq r) (Some e.1) (find R q es)) (to_less _ (first _ _ h)) ∙ find_below q es (second _ _ h)

  -- what passes a test
  abbrev pub passing : (K × X → Bool) → K → Option X → Option X
  passing p q None = None
  passing p q (Some x) = cond (p (q, x)) (Some x) None

  below_filter : (p : K × X → Bool) (k : K) (es : List (K × X)) → T (below_all R k es) → T (below_all R k (filter p es))
  below_filter p k [] h = tt
  below_filter p k (e ∷ es) h =
      let rest = below_filter p k es (second _ _ h) in
      elim (p e) as (λ b. T (below_all R k (cond b (e ∷ filter p es) (filter p es)))) [ true ↦ both _ _ (first _ _ h) rest | false ↦ rest ]

  pub sorted_filter : (p : K × X → Bool) (es : List (K × X)) → T (is_sorted R es) → T (is_sorted R (filter p es))
  sorted_filter p [] h = tt
  sorted_filter p (e ∷ es) h =
      let rest = sorted_filter p es (second _ _ h) in
      elim (p e) as (λ b. T (is_sorted R (cond b (e ∷ filter p es) (filter p es)))) [ true ↦ both _ _ (below_filter p e.0 es (first _ _ h)) rest | false ↦ rest ]

  pub find_filter : (p : K × X → Bool) (q : K) (es : List (K × X)) → T (is_sorted R es) → find R q (filter p es) ≡ passing p q (find R q es)
  find_filter p q [] h = refl
  find_filter p q (e ∷ es) h =
      let rest = find_filter p q es (second _ _ h) in
      elim (eq_by_cmp R q e.0) as (λ b. eq_by_cmp R q e.0 ≡ b → find R q (filter p (e ∷ es)) ≡ passing p q (cond b (Some e.1) (find R q es))) [
        | true ↦ λ t.
            let is : q ≡ e.0 = tied_is o same q e.0 t in
            let none : find R q (filter p es) ≡ None = find_below q (filter p es) (subst (λ k. T (below_all R k (filter p es))) (sym is) (below_filter p e.0 es (first _ _ h))) in
            elim (p e) as (λ c. find R q (cond c (e ∷ filter p es) (filter p es)) ≡ cond c (Some e.1) None) [
              | true ↦ ap (λ b. cond b (Some e.1) (find R q (filter p es))) t
              | false ↦ none
            ] ∙ ap (λ k. cond (p (k, e.1)) (Some e.1) None) (sym is)
        | false ↦ λ t. elim (p e) as (λ c. find R q (cond c (e ∷ filter p es) (filter p es)) ≡ find R q (filter p es)) [
          | true ↦ ap (λ b. cond b (Some e.1) (find R q (filter p es))) t
          | false ↦ refl
        ] ∙ rest
      ] refl

  -- what holds of each entry that is found holds of all
  pub all_found : (P : K × X → Type 0) (es : List (K × X)) → T (is_sorted R es) → ((q : K) (x : X) → find R q es ≡ Some x → P (q, x)) → AllByRecursion P es
  all_found P [] h f = tt
  all_found P (e ∷ es) h f = (
    f e.0 e.1 (ap (λ b. cond b (Some e.1) (find R e.0 es)) (tied o same e.0)),
    all_found P es (second _ _ h) (λ q x is. f q x (
        elim (eq_by_cmp R q e.0) as (λ b. eq_by_cmp R q e.0 ≡ b → cond b (Some e.1) (find R q es) ≡ Some x) [
          | true ↦ λ t. let none : find R q es ≡ None = find_below q es (subst (λ k. T (below_all R k es)) (sym (tied_is o same q e.0 t)) (first _ _ h)) in absurd (let clash : Some x ≡ None = sym is ∙ none in cc)
          | false ↦ λ t. is
        ] refl)),
  )

-- an entry that is found is among them
pub member_of : {K X Y : Type 0} {R : K → K → Ordering} (o : IsTotalOrder R) (same : IsAntisymmetric R) (h : K × X → Option Y) (test : Y → Bool) (q : K) (x : X) (y : Y) (es : List (K × X))
    → find R q es ≡ Some x → h (q, x) ≡ Some y → test y ≡ true → list_any test (filter_map h es) ≡ true
member_of o same h test q x y [] is g t = absurd cc
member_of {R = R} o same h test q x y (e ∷ es) is g t =
    elim (eq_by_cmp R q e.0) as (λ b. eq_by_cmp R q e.0 ≡ b → cond b (Some e.1) (find R q es) ≡ Some x → list_any test (cons_option (h e) (filter_map h es)) ≡ true) [
      | true ↦ λ s p.
          let value : e.1 ≡ x = cc in
          let key : q ≡ e.0 = tied_is o same q e.0 s in
          let found : h e ≡ Some y = ap h (λ i. (sym key i, value i)) ∙ g in
          ap (λ o. list_any test (cons_option o (filter_map h es))) found ∙ ap (λ b. b || list_any test (filter_map h es)) t
      | false ↦ λ s p.
          let rest = member_of o same h test q x y es p g t in
          elim (h e) as (λ o. list_any test (cons_option o (filter_map h es)) ≡ true) [ None ↦ rest | Some z ↦ elim (test z) as (λ b. (b || list_any test (filter_map h es)) ≡ true) [ true ↦ refl | false ↦ rest ] ]
    ] refl is

-- a map that keeps the order
module _ {K X L : Type 0} (R : K → K → Ordering) (S : L → L → Ordering) (P : K × X → Type 0) (h : K × X → Option L) (keeps : (e f : K × X) (k l : L) → P e → P f → R e.0 f.0 ≡ Less → h e ≡ Some k → h f ≡ Some l → S k l ≡ Less) where
  below_map : (e : K × X) (k : L) (es : List (K × X)) → P e → h e ≡ Some k → AllByRecursion P es → T (below_all R e.0 es) → AllByRecursion (λ l. S k l ≡ Less) (filter_map h es)
  below_map e k [] p is all lt = tt
  below_map e k (f ∷ es) p is all lt =
      let rest = below_map e k es p is all.1 (second _ _ lt) in
      elim (h f) as (λ o. h f ≡ o → AllByRecursion (λ l. S k l ≡ Less) (cons_option o (filter_map h es))) [
        | None ↦ λ n. rest
        | Some l ↦ λ s. (keeps e f k l p all.0 (to_less _ (first _ _ lt)) is s, rest)
      ] refl

  pub sorted_map : (es : List (K × X)) → AllByRecursion P es → T (is_sorted R es) → IsStrictlySortedBy S (filter_map h es)
  unfolding IsStrictlySortedBy
  sorted_map [] all lt = tt
  sorted_map (e ∷ es) all lt =
      let rest = sorted_map es all.1 (second _ _ lt) in
      elim (h e) as (λ o. h e ≡ o → IsStrictlySortedBy S (cons_option o (filter_map h es))) [
        | None ↦ λ n. rest
        | Some k ↦ λ s. (below_map e k es all.0 s all.1 (first _ _ lt), rest)
      ] refl

-- what holds of each value that the map gives
pub all_given : {X L : Type 0} (P : X → Type 0) (Q : L → Type 0) (h : X → Option L) → ((x : X) (l : L) → P x → h x ≡ Some l → Q l) → (xs : List X) → AllByRecursion P xs → AllByRecursion Q (filter_map h xs)
all_given P Q h gives [] all = tt
all_given P Q h gives (x ∷ xs) all =
    let rest = all_given P Q h gives xs all.1 in
    elim (h x) as (λ o. h x ≡ o → AllByRecursion Q (cons_option o (filter_map h xs))) [
      | None ↦ λ n. rest
      | Some l ↦ λ s. (gives x l all.0 s, rest)
    ] refl

pub same_given : {X Y : Type 0} (P : X → Type 0) (f g : X → Option Y) → ((x : X) → P x → f x ≡ g x) → (xs : List X) → AllByRecursion P xs → filter_map f xs ≡ filter_map g xs
same_given P f g is [] all = refl
same_given P f g is (x ∷ xs) all = ap (λ y. cons_option y (filter_map f xs)) (is x all.0) ∙ ap (cons_option (g x)) (same_given P f g is xs all.1)
