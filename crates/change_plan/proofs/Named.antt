-- Elements found by their names.
use Rattle.std.specs.Prelude.{◌≡◌, ℕ, ◌<◌, List, [], ◌∷◌, ◌++◌, Bool, true, false, ◌&&◌, ◌||◌, ◌==◌, cond, Some, None, Contains, ◌⊎◌, bytes_eq, refl}
use Rattle.std.specs.List.{list_any, find}
use Rattle.std.proofs.Common.{sym, ap, subst, ◌∙◌, inl, inr, true≢false, arith}
use Rattle.std.proofs.lemmas.Bool.Decides.{Decides-eqb}
use Rattle.std.proofs.lemmas.Slice.Eq.{bytes_eq-Decides}
use Rattle.std.proofs.lemmas.List.Elements.{Contains-append_left, Contains-append_right, Contains-append_cases, Contains-push, Contains-push_cases}
use Rattle.schema_version.specs.declared.element.ElementDef.{ElementDef}
use Rattle.schema_version.specs.Version.{Version, element_at, live, is_named}
use Rattle.schema_version.specs.Sound.{IsSoundVersion}
use Rattle.schema_version.specs.Steps.{IsOrdered}
use Rattle.schema_version.proofs.Live.{live_has, live_from}
use Rattle.schema_version.proofs.Lists.{some_same}
use Rattle.change_plan.proofs.MoveEffects.{not_both}
use Rattle.change_plan.specs.Batches.{named, is_same_name}

-- ---- elements of lists

pub contains_first : {X : Type 0} (x : X) (xs : List X) → Contains (x ∷ xs) x
contains_first x xs = Contains-append_left (x ∷ []) xs x (Contains-push [] x)

pub contains_later : {X : Type 0} (x : X) (xs : List X) (y : X) → Contains xs y → Contains (x ∷ xs) y
contains_later x xs y h = Contains-append_right (x ∷ []) xs y h

pub contains_none : {X : Type 0} (y : X) → Contains [] y → ⊥
contains_none y h = let below : h.0 < 0 = h.1 in omega arith

pub contains_cases : {X : Type 0} (x : X) (xs : List X) (y : X) → Contains (x ∷ xs) y → (x ≡ y) ⊎ Contains xs y
contains_cases x xs y h = elim (Contains-append_cases (x ∷ []) xs y h) [
  | inl one ↦ elim (Contains-push_cases [] x y one) [ inl none ↦ absurd (contains_none y none) | inr is ↦ inl is ]
  | inr more ↦ inr more
]

pub contains_middle : {X : Type 0} (before after : List X) (x : X) → Contains (before ++ x ∷ after) x
contains_middle before after x = Contains-append_right before (x ∷ after) x (contains_first x after)

-- a list has an element between what stands before and after it
pub split_at : {X : Type 0} (xs : List X) (x : X) → Contains xs x → (before after : List X) × (xs ≡ before ++ x ∷ after)
split_at [] x h = absurd (contains_none x h)
split_at (y ∷ ys) x h = elim (contains_cases y ys x h) [
  | inl is ↦ ([], ys, ap (λ z. z ∷ ys) is)
  | inr more ↦ let rest = split_at ys x more in (y ∷ rest.0, rest.1, ap (λ zs. y ∷ zs) rest.2)
]

-- the element for which a test of the list holds
pub any_element : {X : Type 0} (test : X → Bool) (xs : List X) → list_any test xs ≡ true → (x : X) × Contains xs x × (test x ≡ true)
any_element test [] e = absurd (true≢false (sym e))
any_element test (x ∷ xs) e = pick (any_element test xs) (test x) refl
  where
    pick : (list_any test xs ≡ true → (y : _) × Contains xs y × (test y ≡ true)) → (b : Bool) → test x ≡ b → (y : _) × Contains (x ∷ xs) y × (test y ≡ true)
    pick again true is = (x, contains_first x xs, is)
    pick again false is = let rest = again (subst (λ b. (b || list_any test xs) ≡ true) is e) in (rest.0, contains_later x xs rest.0 rest.1, rest.2)

pub and_true : (a b : Bool) → (a && b) ≡ true → (a ≡ true) × (b ≡ true)
and_true true b e = (refl, e)
and_true false b e = absurd (true≢false (sym e))

pub same_name : (table : ℕ) (name : List ℕ) (other : ℕ) (own : List ℕ) → is_same_name table name other own ≡ true → (table ≡ other) × (name ≡ own)
same_name table name other own e =
    let parts = and_true (table == other) (bytes_eq name own) e in
    ((Decides-eqb table other).0 parts.0, (bytes_eq-Decides name own).0 parts.1)

pub both_true : (a b : Bool) → a ≡ true → b ≡ true → (a && b) ≡ true
both_true true b e f = f
both_true false b e f = e

pub same_name_is : (table other : ℕ) (name own : List ℕ) → table ≡ other → name ≡ own → is_same_name table name other own ≡ true
same_name_is table other name own t n = both_true (table == other) (bytes_eq name own) ((Decides-eqb table other).1 t) ((bytes_eq-Decides name own).1 n)

-- ---- elements by name

found : {X : Type 0} (test : X → Bool) (xs : List X) (x : X) → find test xs ≡ Some x → Contains xs x × (test x ≡ true)
found test [] x e = absurd (not_both x None e refl)
found test (y ∷ ys) x e =
    elim (test y) as (λ b. test y ≡ b → cond b (Some y) (find test ys) ≡ Some x → Contains (y ∷ ys) x × (test x ≡ true)) [
      | true ↦ λ p q. (subst (Contains (y ∷ ys)) (some_same q) (contains_first y ys), ap test (sym (some_same q)) ∙ p)
      | false ↦ λ p q. let rest = found test ys x q in (contains_later y ys x rest.0, rest.1)
    ] refl e

not_found : {X : Type 0} (test : X → Bool) (xs : List X) (x : X) → find test xs ≡ None → Contains xs x → test x ≡ true → ⊥
not_found test [] x none has p = contains_none x has
not_found test (y ∷ ys) x none has p =
    elim (test y) as (λ b. test y ≡ b → cond b (Some y) (find test ys) ≡ None → ⊥) [
      | true ↦ λ q e. not_both y (Some y) refl e
      | false ↦ λ q e. elim (contains_cases y ys x has) [
        | inl is ↦ true≢false (sym p ∙ ap test (sym is) ∙ q)
        | inr more ↦ not_found test ys x e more p
      ]
    ] refl none

is_named_parts : (table : ℕ) (name : List ℕ) (e : ElementDef) → is_named table name e ≡ true → (e.table ≡ table) × (e.name ≡ name)
is_named_parts table name e h =
    let parts = and_true (e.table == table) (bytes_eq e.name name) h in
    ((Decides-eqb e.table table).0 parts.0, (bytes_eq-Decides e.name name).0 parts.1)

pub named_there : (v : Version) → IsOrdered v → (table : ℕ) (name : List ℕ) (e : ElementDef) → named v table name ≡ Some e → (element_at v e.number ≡ Some e) × (e.table ≡ table) × (e.name ≡ name)
named_there v ordered table name e is =
    let at = found (is_named table name) (live v) e is in
    let got = live_from v e at.0 in
    let parts = is_named_parts table name e at.1 in
    (subst (λ k. element_at v k ≡ Some e) (sym (ordered.numbered got.0 e got.1)) got.1, parts.0, parts.1)

pub not_named : (v : Version) (table : ℕ) (name : List ℕ) → named v table name ≡ None → (k : ℕ) (e : ElementDef) → element_at v k ≡ Some e → e.table ≡ table → e.name ≡ name → ⊥
not_named v table name none k e at is_table is_name =
    not_found (is_named table name) (live v) e none (live_has v k e at) (both_true _ _ ((Decides-eqb e.table table).1 is_table) ((bytes_eq-Decides e.name name).1 is_name))

-- what is true of every version has its elements under their numbers
pub ordered : {v : Version} → IsSoundVersion v → IsOrdered v
ordered sound = record { numbered = λ n e at. (sound.elements n e at).own; below = λ n e at. (sound.elements n e at).given }
