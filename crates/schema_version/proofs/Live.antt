-- The live elements of a version, by number and as a list.
use Rattle.std.proofs.Common.{◌≡◌, ℕ, ◌<◌, ◌≤◌, Bool, true, false, cond, T, List, [], ◌∷◌, Some, None, inl, inr, refl, sym, ap, subst, ◌∙◌, arith, nat_eq, Contains}
use Rattle.std.specs.Ordering.{nat_cmp}
use Rattle.std.specs.List.{find as find_by}
use Rattle.std.specs.Map.{lookup, values_of}
use Rattle.std.specs.FinMap as map
use Rattle.std.specs.FinMap.Entries.{is_sorted}
use Rattle.schema_version.specs.declared.element.ElementDef.{ElementDef}
use Rattle.schema_version.specs.Version.{Version, element_at, live}
use Rattle.schema_version.proofs.Entries.{find-lookup, found_above, tells, one, other}
use Rattle.schema_version.proofs.Lists.{here, later, here_or_later, some_same, not_both}

module _ {X : Type 0} where
  -- past the head of the list
  beyond : (q : ℕ) (e : ℕ × X) (es : List (ℕ × X)) (x : X) → nat_eq q e.0 ≡ false → lookup (nat_eq q) (e ∷ es) ≡ Some x → lookup (nat_eq q) es ≡ Some x
  beyond q e es x p found = sym (ap (λ b. cond b (Some e.1) (lookup (nat_eq q) es)) p) ∙ found

  at_head : (q : ℕ) (e : ℕ × X) (es : List (ℕ × X)) (x : X) → nat_eq q e.0 ≡ true → lookup (nat_eq q) (e ∷ es) ≡ Some x → e.1 ≡ x
  at_head q e es x p found = some_same (sym (ap (λ b. cond b (Some e.1) (lookup (nat_eq q) es)) p) ∙ found)

  -- what is above the head is found after it
  pub behind : (q : ℕ) (e : ℕ × X) (es : List (ℕ × X)) (x : X) → e.0 < q → lookup (nat_eq q) es ≡ Some x → lookup (nat_eq q) (e ∷ es) ≡ Some x
  behind q e es x up found =
      elim (tells q e.0) [
        | inl p ↦ absurd (omega (arith, p.1, up))
        | inr p ↦ ap (λ b. cond b (Some e.1) (lookup (nat_eq q) es)) p.0 ∙ found
      ]

  pub among_values : (q : ℕ) (es : List (ℕ × X)) (x : X) → lookup (nat_eq q) es ≡ Some x → Contains (values_of es) x
  among_values q [] x found = cc
  among_values q (e ∷ es) x found =
      elim (tells q e.0) [
        | inl p ↦ subst (Contains (e.1 ∷ values_of es)) (at_head q e es x p.0 found) (here e.1 (values_of es))
        | inr p ↦ later e.1 x (values_of es) (among_values q es x (beyond q e es x p.0 found))
      ]

  pub found_itself : (e : ℕ × X) (es : List (ℕ × X)) → lookup (nat_eq e.0) (e ∷ es) ≡ Some e.1
  found_itself e es =
      elim (tells e.0 e.0) [
        | inl p ↦ ap (λ b. cond b (Some e.1) (lookup (nat_eq e.0) es)) p.0
        | inr p ↦ absurd (p.1 refl)
      ]

  pub from_values : (es : List (ℕ × X)) (x : X) → T (is_sorted nat_cmp es) → Contains (values_of es) x → (q : ℕ) × (lookup (nat_eq q) es ≡ Some x)
  from_values [] x sorted (k, below, is) = absurd (omega (arith, below))
  from_values (e ∷ es) x sorted there =
      elim (here_or_later e.1 x (values_of es) there) [
        | inl is ↦ (e.0, found_itself e es ∙ ap Some is)
        | inr more ↦ let r = from_values es x (other _ _ sorted) more in (r.0, behind r.0 e es x (found_above e.0 r.0 es x (one _ _ sorted) r.1) r.1)
      ]

  -- the first value that passes a test stands under the least number
  pub record IsLeast (test : X → Bool) (es : List (ℕ × X)) (x : X) : Type 0 where
    pub number : ℕ
    pub found : lookup (nat_eq number) es ≡ Some x
    pub passes : test x ≡ true
    pub least : (q : ℕ) (y : X) → lookup (nat_eq q) es ≡ Some y → test y ≡ true → number ≤ q

  pub first_is_least : (test : X → Bool) (es : List (ℕ × X)) (x : X) → T (is_sorted nat_cmp es) → find_by test (values_of es) ≡ Some x → IsLeast test es x
  first_is_least test [] x sorted found = cc
  first_is_least test (e ∷ es) x sorted found =
      elim (test e.1) as (λ b. test e.1 ≡ b → cond b (Some e.1) (find_by test (values_of es)) ≡ Some x → IsLeast test (e ∷ es) x) [
        | true ↦ λ p f. record {
          number = e.0;
          found = found_itself e es ∙ f;
          passes = ap test (sym (some_same f)) ∙ p;
          least = λ q y at passes. elim (tells q e.0) [
            | inl s ↦ omega (arith, s.1)
            | inr s ↦ (let up : e.0 < q = found_above e.0 q es y (one _ _ sorted) (beyond q e es y s.0 at) in omega (arith, up))
          ];
        }
        | false ↦ λ p f.
            let r : IsLeast test es x = first_is_least test es x (other _ _ sorted) f in
            record {
              number = r.number;
              found = behind r.number e es x (found_above e.0 r.number es x (one _ _ sorted) r.found) r.found;
              passes = r.passes;
              least = λ q y at passes. elim (tells q e.0) [
                | inl s ↦ absurd (not_both (ap test (at_head q e es y s.0 at) ∙ passes) p)
                | inr s ↦ r.least q y (beyond q e es y s.0 at) passes
              ];
            }
      ] refl found

  pub none_passes : (test : X → Bool) (es : List (ℕ × X)) (q : ℕ) (x : X) → find_by test (values_of es) ≡ None → lookup (nat_eq q) es ≡ Some x → test x ≡ true → ⊥
  none_passes test [] q x none found p = cc
  none_passes test (e ∷ es) q x none found p =
      elim (test e.1) as (λ b. test e.1 ≡ b → cond b (Some e.1) (find_by test (values_of es)) ≡ None → ⊥) [
        | true ↦ λ _ n. cc
        | false ↦ λ s n. elim (tells q e.0) [
          | inl at ↦ absurd (not_both (ap test (at_head q e es x at.0 found) ∙ p) s)
          | inr at ↦ none_passes test es q x n (beyond q e es x at.0 found) p
        ]
      ] refl none

-- an element of a version is what its number finds among the entries
pub element_at-lookup : (v : Version) (n : ℕ) → element_at v n ≡ lookup (nat_eq n) (map.entries v.elements)
element_at-lookup v n = map.get-entries v.elements n ∙ find-lookup n (map.entries v.elements)

pub live_has : (v : Version) (n : ℕ) (e : ElementDef) → element_at v n ≡ Some e → Contains (live v) e
live_has v n e at = among_values n (map.entries v.elements) e (sym (element_at-lookup v n) ∙ at)

pub live_from : (v : Version) (e : ElementDef) → Contains (live v) e → (n : ℕ) × (element_at v n ≡ Some e)
live_from v e there = let r = from_values (map.entries v.elements) e (map.entries_sorted v.elements) there in (r.0, element_at-lookup v r.0 ∙ r.1)
