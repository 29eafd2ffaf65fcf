-- Cited by proofs and by the specs that need them: ColumnLaws, IndexLaws.
-- The entries of a map that a test picks, and the tests of a range.
use Rattle.std.specs.Prelude.{◌≡◌, ◌≢◌, Bool, true, false, ◌&&◌, not, cond, List, [], ◌∷◌, Some, filter, refl}
use Rattle.std.specs.List.{AllByRecursion}
use Rattle.std.specs.Cmp.{IsTotalOrder}
use Rattle.std.specs.FinMap.{FinMap, IsAntisymmetric, get, find, entries, get-entries}
use Rattle.std.specs.declared.cmp.Ordering.{Ordering}
use Rattle.std.specs.declared.cmp.Ordering.TheVariants.{Less, Equal, Greater}
use Rattle.std.specs.Ordering.{is_lt, eq_by_cmp}
use Rattle.std.proofs.Common.{sym, ap, ◌∙◌, inl, inr}
use Rattle.keycode.specs.Order.{bytes_cmp}
use Rattle.row_map.specs.Rows.{Bytes}
use Rattle.row_map.specs.Ranges.{is_within}
use Rattle.byte_map.proofs.Written.{same_or_apart, tied, apart}
use Rattle.element_state.specs.Items.{Between, AmongEntries}
use Rattle.element_state.specs.lemmas.Apart.{false_true, none_some, other_not_less, some_one}

-- ---- tests

pub both_true : (a b : Bool) → a ≡ true → b ≡ true → (a && b) ≡ true
both_true true b p q = q
both_true false b p q = absurd (false_true p)

pub left_true : (a b : Bool) → (a && b) ≡ true → a ≡ true
left_true true b h = refl
left_true false b h = h

pub right_true : (a b : Bool) → (a && b) ≡ true → b ≡ true
right_true true b h = h
right_true false b h = absurd (false_true h)

not_less : (o : Ordering) → o ≢ Less → not (is_lt o) ≡ true
not_less Less h = absurd (h refl)
not_less Equal h = refl
not_less Greater h = refl

less : (o : Ordering) → o ≡ Less → is_lt o ≡ true
less o e = ap is_lt e

is_less : (o : Ordering) → is_lt o ≡ true → o ≡ Less
is_less Less e = refl
is_less Equal e = absurd (false_true e)
is_less Greater e = absurd (false_true e)

is_not_less : (o : Ordering) → not (is_lt o) ≡ true → o ≢ Less
is_not_less Less e f = false_true e
is_not_less Equal e f = other_not_less Equal tt f
is_not_less Greater e f = other_not_less Greater tt f

pub test_between : (from to x : Bytes) → Between from to x → is_within from to x ≡ true
test_between from to x b = both_true _ _ (not_less (bytes_cmp x from) b.0) (less (bytes_cmp x to) b.1)

pub between_test : (from to x : Bytes) → is_within from to x ≡ true → Between from to x
between_test from to x h = (is_not_less (bytes_cmp x from) (left_true _ _ h), is_less (bytes_cmp x to) (right_true _ _ h))

-- ---- entries

module _ {K X : Type 0} {R : K → K → Ordering} (o : IsTotalOrder R) (a : IsAntisymmetric R) (test : K × X → Bool) where
  kept_here : (e : K × X) (es : List (K × X)) (k : K) → e.0 ≡ k → (b : Bool) → b ≡ true → AmongEntries k (cond b (e ∷ filter test es) (filter test es))
  kept_here e es k s true t = inl s
  kept_here e es k s false t = absurd (false_true t)

  kept_later : (e : K × X) (es : List (K × X)) (k : K) (b : Bool) → AmongEntries k (filter test es) → AmongEntries k (cond b (e ∷ filter test es) (filter test es))
  kept_later e es k true h = inr h
  kept_later e es k false h = h

  found_kept : (es : List (K × X)) (k : K) (x : X) → find R k es ≡ Some x → test (k, x) ≡ true → AmongEntries k (filter test es)
  found_kept [] k x is t = absurd (none_some x is)
  found_kept (e ∷ es) k x is t = elim (same_or_apart o a k e.0) [
    | inl s ↦
        let here : find R k (e ∷ es) ≡ Some e.1 = ap (λ b. cond b (Some e.1) (find R k es)) (ap (λ y. eq_by_cmp R k y) (sym s) ∙ tied o a k) in
        let same : x ≡ e.1 = some_one x e.1 (sym is ∙ here) in
        kept_here e es k (sym s) (test e) (sym (λ i. test (s i, same i)) ∙ t)
    | inr ne ↦ kept_later e es k (test e) (found_kept es k x (sym (ap (λ b. cond b (Some e.1) (find R k es)) (apart o a k e.0 ne)) ∙ is) t)
  ]

  pub entry_kept : (m : FinMap R X) (k : K) (x : X) → get m k ≡ Some x → test (k, x) ≡ true → AmongEntries k (filter test (entries m))
  entry_kept m k x is t = found_kept (entries m) k x (sym (get-entries m k) ∙ is) t

  pub facts_kept : (P : K × X → Type 0) (es : List (K × X)) → AllByRecursion P es → AllByRecursion (λ e. P e × (test e ≡ true)) (filter test es)
  facts_kept P [] h = tt
  facts_kept P (e ∷ es) h = elim (test e) as (λ b. test e ≡ b → AllByRecursion (λ e. P e × (test e ≡ true)) (cond b (e ∷ filter test es) (filter test es))) [
    | true ↦ λ t. ((h.0, t), facts_kept P es h.1)
    | false ↦ λ t. facts_kept P es h.1
  ] refl

pub first_facts : {A : Type 0} (P Q : A → Type 0) (es : List A) → AllByRecursion (λ e. P e × Q e) es → AllByRecursion P es
first_facts P Q [] h = tt
first_facts P Q (e ∷ es) h = (h.0.0, first_facts P Q es h.1)
