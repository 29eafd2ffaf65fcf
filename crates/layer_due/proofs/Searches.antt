-- Looking through the live elements, and through the reorganisations that were found.
use Rattle.std.proofs.Common.{◌≡◌, ℕ, Bool, true, false, cond, T, zero, suc, ◌+◌, ◌<◌, ◌==◌, List, [], ◌∷◌, ◌++◌, length, Option, Some, None, inl, inr, refl, sym, ap, subst, ◌∙◌, arith, take, Contains, eqb-true, nat_eq, slice_get}
use Rattle.std.proofs.Math.ListN.{get_or}
use Rattle.std.proofs.Math.Seq.{take-suc}
use Rattle.std.proofs.lemmas.List.Elements.{Contains-append_cases}
use Rattle.std.specs.List.{find}
use Rattle.std.specs.FinMap as map
use Rattle.std.specs.FinMap.Entries.{is_sorted, below_all}
use Rattle.std.specs.Map.{lookup, values_of}
use Rattle.std.specs.Ordering.{nat_cmp}
use Rattle.std.proofs.lemmas.Option.{slice_get_read}
use Rattle.schema_version.specs.declared.element.ElementDef.{ElementDef}
use Rattle.schema_version.specs.Sound.{IsSoundVersion}
use Rattle.schema_version.specs.Version.{Version, element_at, live}
use Rattle.schema_version.proofs.Entries.{found_above, one, other}
use Rattle.schema_version.proofs.Lists.{here, later, here_or_later, some_same}
use Rattle.schema_version.proofs.Live.{behind, from_values, found_itself, live_has, element_at-lookup}
use Rattle.drafts.specs.declared.record.Reorg.{Reorg}
use Rattle.drafts.specs.Publish.{found_in}
use Rattle.layer_due.specs.Records.{Records, open_in, open_piece}
use Rattle.layer_due.specs.Due.{NoneOpen}

module _ {A : Type 0} (P : A → Type 0) where
  abbrev pub AllIn : List A → Type 0
  AllIn xs = (x : A) → Contains xs x → P x

  last_one : (x y : A) → Contains (x ∷ []) y → x ≡ y
  last_one x y (zero, below, is) = is
  last_one x y (suc k, below, is) = absurd (omega (arith, below))

  pub one_more : (xs : List A) (i : ℕ) (x : A) → i < length xs → get_or xs i x ≡ x → AllIn (take i xs) → P x → AllIn (take (i + 1) xs)
  one_more xs i x below is before this =
      subst AllIn (sym (ap (λ (n : ℕ). take n xs) (next i) ∙ take-suc xs i x below ∙ ap (λ (y : A). take i xs ++ y ∷ []) is)) more
    where
      next : (n : ℕ) → n + 1 ≡ suc n
      next n = omega arith

      more : AllIn (take i xs ++ x ∷ [])
      more y there = elim (Contains-append_cases (take i xs) (x ∷ []) y there) [
        | inl h ↦ before y h
        | inr h ↦ subst P (last_one x y h) this
      ]

find_says : {A : Type 0} (test : A → Bool) (xs : List A) (x : A) → find test xs ≡ Some x → Contains xs x × (test x ≡ true)
find_says test [] x e = absurd cc
find_says test (y ∷ ys) x e =
    elim (test y) as (λ b. test y ≡ b → cond b (Some y) (find test ys) ≡ Some x → Contains (y ∷ ys) x × (test x ≡ true)) [
      | true ↦ λ p q. (subst (Contains (y ∷ ys)) (some_same q) (here y ys), ap test (sym (some_same q)) ∙ p)
      | false ↦ λ p q. let r = find_says test ys x q in (later y x ys r.0, r.1)
    ] refl e

pub none_at_all : (v : Version) (P : ℕ → Type 0) → IsSoundVersion v → ((n : ℕ) → P n → (e : ElementDef) × (element_at v n ≡ Some e)) → AllIn (λ (e : ElementDef). ¬ (P e.number)) (live v) → (n : ℕ) → ¬ (P n)
none_at_all v P sound there none n h =
    let r = there n h in
    none r.0 (live_has v n r.0 r.1) (subst P (sym ((sound.elements n r.0 r.1).own)) h)

pub none_open : (records : Records) → AllIn (λ (reorg : Reorg). open_piece records reorg.element.number ≡ None) records.reorgs → NoneOpen records
none_open records all number = by (found_in records.reorgs number) refl
  where
    by : (o : Option Reorg) → found_in records.reorgs number ≡ o → open_piece records number ≡ None
    by None is = ap (open_in records.cursors number) is
    by (Some reorg) is =
        let found = find_says (λ (r : Reorg). r.element.number == number) records.reorgs reorg is in
        subst (λ (n : ℕ). open_piece records n ≡ None) (eqb-true reorg.element.number number found.1) (all reorg found.0)

-- ---- which comes first

module _ {X : Type 0} (number : X → ℕ) where
  -- each has the number under which it is found
  abbrev AreOwn : List (ℕ × X) → Type 0
  AreOwn es = (q : ℕ) (x : X) → lookup (nat_eq q) es ≡ Some x → number x ≡ q

  own_later : (e : ℕ × X) (es : List (ℕ × X)) → T (is_sorted nat_cmp (e ∷ es)) → AreOwn (e ∷ es) → AreOwn es
  own_later e es sorted own q x at = own q x (behind q e es x (found_above e.0 q es x (one (below_all nat_cmp e.0 es) (is_sorted nat_cmp es) sorted) at) at)

  none_below : (e : ℕ × X) (es : List (ℕ × X)) (y : X) → T (is_sorted nat_cmp (e ∷ es)) → AreOwn (e ∷ es) → Contains (e.1 ∷ values_of es) y → ¬ (number y < e.0)
  none_below e es y sorted own there low =
      elim (here_or_later e.1 y (values_of es) there) [
        | inl is ↦ (let same = ap number (sym is) ∙ own e.0 e.1 (found_itself e es) in absurd (omega (arith, low, same)))
        | inr more ↦
            let r : (q : ℕ) × (lookup (nat_eq q) es ≡ Some y) = from_values es y (other (below_all nat_cmp e.0 es) (is_sorted nat_cmp es) sorted) more in
            let above : e.0 < r.0 = found_above e.0 r.0 es y (one (below_all nat_cmp e.0 es) (is_sorted nat_cmp es) sorted) r.1 in
            let same : number y ≡ r.0 = own_later e es sorted own r.0 y r.1 in
            absurd (omega (arith, low, above, same))
      ]

  -- what has a lower number than the one at this place comes before it
  before : (es : List (ℕ × X)) (i : ℕ) (x y : X) → T (is_sorted nat_cmp es) → AreOwn es → slice_get (values_of es) i ≡ Some x → Contains (values_of es) y → number y < number x → Contains (take i (values_of es)) y
  before [] i x y sorted own at there low = absurd cc
  before (e ∷ es) zero x y sorted own at there low =
      let same = ap number (sym (some_same at)) ∙ own e.0 e.1 (found_itself e es) in
      absurd (none_below e es y sorted own there (omega (arith, low, same)))
  before (e ∷ es) (suc i) x y sorted own at there low =
      elim (here_or_later e.1 y (values_of es) there) [
        | inl is ↦ subst (Contains (e.1 ∷ take i (values_of es))) is (here e.1 (take i (values_of es)))
        | inr more ↦ later e.1 y (take i (values_of es)) (before es i x y (other (below_all nat_cmp e.0 es) (is_sorted nat_cmp es) sorted) (own_later e es sorted own) at more low)
      ]

-- if none before an element is so, none of a lower number is
pub none_lower : (v : Version) (P : ℕ → Type 0) (i : ℕ) (x : ElementDef) → IsSoundVersion v → ((n : ℕ) → P n → (e : ElementDef) × (element_at v n ≡ Some e)) → i < length (live v) → x ≡ get_or (live v) i x
    → AllIn (λ (e : ElementDef). ¬ (P e.number)) (take i (live v)) → (n : ℕ) → n < x.number → ¬ (P n)
none_lower v P i x sound there below is none n low h =
    let r = there n h in
    let own : (m : ℕ) (e : ElementDef) → element_at v m ≡ Some e → e.number ≡ m = λ m e at. (sound.elements m e at).own in
    let lower : r.0.number < x.number = omega (arith, low, own n r.0 r.1) in
    let found = before (λ (e : ElementDef). e.number) (map.entries v.elements) i x r.0 (map.entries_sorted v.elements) (λ m e at. own m e (element_at-lookup v m ∙ at)) (slice_get_read (live v) (length (live v)) i x refl below is) (live_has v n r.0 r.1) lower in
    none r.0 found (subst P (sym (own n r.0 r.1)) h)
