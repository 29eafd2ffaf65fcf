-- Elements by rising number.
use Rattle.std.proofs.Common.{◌≡◌, ℕ, ◌+◌, ◌<◌, ◌≤◌, true, ◌&&◌, T, List, [], ◌∷◌, ◌++◌, Some, inl, inr, refl, sym, ap, subst, ◌∙◌, arith, if◌then◌else◌, nat_eq, get_or, take, drop, length}
use Rattle.std.specs.Prelude.{nat_le, nat_lt}
use Rattle.std.specs.Bool.{Decides}
use Rattle.std.specs.List.{AllByRecursion}
use Rattle.std.specs.Ordering.{nat_cmp, is_lt}
use Rattle.std.specs.declared.cmp.Ordering.TheVariants.{Less}
use Rattle.std.specs.Cmp.{nat_cmp_is}
use Rattle.std.specs.Map.{lookup, values_of}
use Rattle.std.specs.FinMap as map
use Rattle.std.specs.FinMap.Entries.{is_sorted, below_all}
use Rattle.std.proofs.lemmas.Bool.Decides.{Decides-and, Decides-ltb, Decides-like}
use Rattle.std.proofs.lemmas.List.{take_more}
use Rattle.indexmap.specs.IndexMap.{insert_entry}
use Rattle.schema_version.specs.declared.element.ElementDef.{ElementDef}
use Rattle.schema_version.specs.Version.{Version, element_at, live}
use Rattle.schema_version.specs.Restored.{AreRising, numbered}
use Rattle.schema_version.specs.inner.RestoreTests.{rise_from}
use Rattle.schema_version.proofs.Decides.{at_most}
use Rattle.schema_version.proofs.Entries.{tells, one, other, both, lower, found_above}
use Rattle.schema_version.proofs.Live.{element_at-lookup, found_itself, behind}
use Rattle.schema_version.proofs.TablesHeld.{taken_apart}

-- ---- the test

abbrev pub InRange : ℕ → ℕ → ElementDef → Type 0
InRange least next e = (least ≤ e.number) × (e.number < next)

abbrev Above : ℕ → ElementDef → Type 0
Above number e = number < e.number

module _ {X : Type 0} where
  pub all_weaker : (P Q : X → Type 0) → ((x : X) → P x → Q x) → (xs : List X) → AllByRecursion P xs → AllByRecursion Q xs
  all_weaker P Q f [] all = tt
  all_weaker P Q f (x ∷ xs) all = (f x all.0, all_weaker P Q f xs all.1)

  all_both : (P Q R : X → Type 0) → ((x : X) → P x → Q x → R x) → (xs : List X) → AllByRecursion P xs → AllByRecursion Q xs → AllByRecursion R xs
  all_both P Q R f [] all also = tt
  all_both P Q R f (x ∷ xs) all also = (f x all.0 also.0, all_both P Q R f xs all.1 also.1)

  all_middle : (P : X → Type 0) (before after : List X) (x : X) → AllByRecursion P (before ++ x ∷ after) → P x
  all_middle P [] after x all = all.0
  all_middle P (y ∷ before) after x all = all_middle P before after x all.1

pub rising : (least next : ℕ) (es : List ElementDef) → Decides (rise_from least next es) (AllByRecursion (InRange least next) es × AreRising es)
rising least next [] = (λ e. (tt, tt), λ h. refl)
rising least next (e ∷ es) =
    Decides-like (nat_le least e.number && (nat_lt e.number next && rise_from (e.number + 1) next es))
    (λ (low, (high, rest)). (
      ((low, high), all_weaker (InRange (e.number + 1) next) (InRange least next) (λ f p. (omega (arith, p.0, low), p.1)) es rest.0),
      (all_weaker (InRange (e.number + 1) next) (Above e.number) (λ f p. omega (arith, p.0)) es rest.0, rest.1),
    ))
    (λ (range, up). (range.0.0, (range.0.1, (all_both (InRange least next) (Above e.number) (InRange (e.number + 1) next) (λ f p lt. (omega (arith, lt), p.1)) es range.1 up.0, up.1))))
    (Decides-and (nat_le least e.number) (nat_lt e.number next && rise_from (e.number + 1) next es) (at_most least e.number)
    (Decides-and (nat_lt e.number next) (rise_from (e.number + 1) next es) (Decides-ltb e.number next) (rising (e.number + 1) next es)))

-- ---- as entries of a map

below_of : (x : ℕ) (es : List ElementDef) → AllByRecursion (Above x) es → T (below_all nat_cmp x (numbered es))
below_of x [] all = tt
below_of x (e ∷ es) all = both _ _ (subst (λ r. T (is_lt r)) (nat_cmp_is x e.number Less all.0) tt) (below_of x es all.1)

pub sorted_of : (es : List ElementDef) → AreRising es → T (is_sorted nat_cmp (numbered es))
sorted_of [] up = tt
sorted_of (e ∷ es) up = both _ _ (below_of e.number es up.0) (sorted_of es up.1)

below_from : (x : ℕ) (es : List ElementDef) → T (below_all nat_cmp x (numbered es)) → AllByRecursion (Above x) es
below_from x [] below = tt
below_from x (e ∷ es) below = (lower x e.number (one _ _ below), below_from x es (other _ _ below))

rising_from : (es : List ElementDef) → T (is_sorted nat_cmp (numbered es)) → AreRising es
rising_from [] sorted = tt
rising_from (e ∷ es) sorted = (below_from e.number es (one _ _ sorted), rising_from es (other _ _ sorted))

pub values_numbered : (es : List ElementDef) → values_of (numbered es) ≡ es
values_numbered [] = refl
values_numbered (e ∷ es) = ap (λ l. e ∷ l) (values_numbered es)

pub all_numbered : (es : List ElementDef) → AllByRecursion (λ (e : ℕ × ElementDef). e.1.number ≡ e.0) (numbered es)
all_numbered [] = tt
all_numbered (e ∷ es) = (refl, all_numbered es)

-- ---- the live elements of a version whose elements stand under their numbers

numbered_values : (es : List (ℕ × ElementDef)) → AllByRecursion (λ (e : ℕ × ElementDef). e.1.number ≡ e.0) es → numbered (values_of es) ≡ es
numbered_values [] own = refl
numbered_values (e ∷ es) own = λ i. (own.0 i, e.1) ∷ numbered_values es own.1 i

all_own : (es : List (ℕ × ElementDef)) → T (is_sorted nat_cmp es) → ((q : ℕ) (x : ElementDef) → lookup (nat_eq q) es ≡ Some x → x.number ≡ q) → AllByRecursion (λ (e : ℕ × ElementDef). e.1.number ≡ e.0) es
all_own [] sorted own = tt
all_own (e ∷ es) sorted own =
    (own e.0 e.1 (found_itself e es), all_own es (other _ _ sorted) (λ q x found. own q x (behind q e es x (found_above e.0 q es x (one _ _ sorted) found) found)))

module _ (v : Version) (own : (n : ℕ) (e : ElementDef) → element_at v n ≡ Some e → e.number ≡ n) where
  pub numbered_live : numbered (live v) ≡ map.entries v.elements
  numbered_live = numbered_values (map.entries v.elements) (all_own (map.entries v.elements) (map.entries_sorted v.elements) (λ q x found. own q x (element_at-lookup v q ∙ found)))

  pub live_rising : AreRising (live v)
  live_rising = rising_from (live v) (subst (λ es. T (is_sorted nat_cmp es)) (sym numbered_live) (map.entries_sorted v.elements))

-- ---- one more

push_last : (before : List ElementDef) (e : ElementDef) → AllByRecursion (λ (x : ElementDef). x.number < e.number) before → insert_entry nat_eq (numbered before) e.number e ≡ numbered (before ++ e ∷ [])
push_last [] e below = refl
push_last (x ∷ before) e below =
    elim (tells e.number x.number) [
      | inl p ↦ (let lt = below.0 in absurd (omega (arith, p.1, lt)))
      | inr p ↦ ap (λ b. if b then (x.number, e) ∷ numbered before else (x.number, x) ∷ insert_entry nat_eq (numbered before) e.number e) p.0
          ∙ ap (λ l. (x.number, x) ∷ l) (push_last before e below.1)
    ]

below_last : (before after : List ElementDef) (e : ElementDef) → AreRising (before ++ e ∷ after) → AllByRecursion (λ (x : ElementDef). x.number < e.number) before
below_last [] after e up = tt
below_last (x ∷ before) after e up = (all_middle (Above x.number) before after e up.0, below_last before after e up.1)

pub held_next : (next : ℕ) (es : List ElementDef) (i : ℕ) (e : ElementDef) → rise_from 1 next es ≡ true → i < length es → e ≡ get_or es i e → insert_entry nat_eq (numbered (take i es)) e.number e ≡ numbered (take (i + 1) es)
held_next next es i e test lt is =
    let whole : es ≡ take i es ++ e ∷ drop (i + 1) es = taken_apart es i e lt ∙ ap (λ x. take i es ++ x ∷ drop (i + 1) es) (sym is) in
    push_last (take i es) e (below_last (take i es) (drop (i + 1) es) e (subst AreRising whole ((rising 1 next es).0 test).1))
    ∙ ap numbered (ap (λ x. take i es ++ x ∷ []) is ∙ sym (take_more es i e lt))
