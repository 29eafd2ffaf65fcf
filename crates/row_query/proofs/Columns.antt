-- The public columns of a table, by number and as a list.
use Rattle.std.proofs.Common.{◌≡◌, ◌==◌, ◌&&◌, ◌||◌, ℕ, Bool, true, false, cond, T, List, [], ◌∷◌, Some, None, filter, inl, inr, refl, sym, ap, subst, ◌∙◌, eqb-true, eq-eqb, Contains, arith, true≢false, is_some}
use Rattle.std.specs.declared.cmp.Ordering.TheVariants.{Less}
use Rattle.std.specs.List.{find, AllByRecursion}
use Rattle.std.specs.List.Sorted.{IsStrictlySortedBy}
use Rattle.std.specs.Ordering.{nat_cmp}
use Rattle.std.specs.FinMap.{entries, entries_sorted, is_sorted, nat_cmp-IsAntisymmetric}
use Rattle.std.specs.FinMap.Entries.{below_all}
use Rattle.std.specs.Cmp.{nat_cmp_total}
use mathlib.Core.List.{map as each}
use Rattle.byte_map.proofs.Order.{first, second, to_less}
use Rattle.row_map.specs.declared.shape.ColumnType.{ColumnType}
use Rattle.row_map.proofs.Entries.{each_entry}
use Rattle.schema_version.specs.declared.element.ElementState.{ElementState}
use Rattle.schema_version.specs.declared.element.ElementState.TheVariants.{Absent, DeleteOnly, WriteOnly, Public}
use Rattle.schema_version.specs.declared.element.Kind.{Kind}
use Rattle.schema_version.specs.declared.element.Kind.TheVariants.{Index, Optional, Required}
use Rattle.schema_version.specs.declared.element.ElementDef.{ElementDef}
use Rattle.schema_version.specs.Sound.{IsSoundVersion}
use Rattle.schema_version.specs.Version.{Version, element_at, live, is_public, is_column, type_of_kind, is_public_column}
use Rattle.schema_version.proofs.Lists.{here, later, here_or_later, some_same}
use Rattle.schema_version.proofs.Live.{live_has, live_from}
use Rattle.row_query.specs.Answer.{is_named}
use Rattle.schema_version.specs.Columns.{is_shown, type_in, column_type}
use Rattle.row_query.specs.inner.Checks.{public_numbers}
use Rattle.row_query.specs.Refused.{IsColumn}

-- ---- lists

module _ {X : Type 0} (test : X → Bool) where
  pub find_says : (xs : List X) (x : X) → find test xs ≡ Some x → Contains xs x × (test x ≡ true)
  find_says [] x e = absurd cc
  find_says (y ∷ ys) x e =
      elim (test y) as (λ b. test y ≡ b → cond b (Some y) (find test ys) ≡ Some x → Contains (y ∷ ys) x × (test x ≡ true)) [
        | true ↦ λ p q. (subst (Contains (y ∷ ys)) (some_same q) (here y ys), ap test (sym (some_same q)) ∙ p)
        | false ↦ λ p q. let r = find_says ys x q in (later y x ys r.0, r.1)
      ] refl e

  find_none : (xs : List X) (x : X) → find test xs ≡ None → Contains xs x → test x ≡ true → ⊥
  find_none [] x e (k, below, is) p = absurd (omega (arith, below))
  find_none (y ∷ ys) x e there p =
      elim (test y) as (λ b. test y ≡ b → cond b (Some y) (find test ys) ≡ None → ⊥) [
        | true ↦ λ _ q. cc
        | false ↦ λ s q. elim (here_or_later y x ys there) [
          | inl same ↦ (let wrong : true ≡ false = sym p ∙ ap test (sym same) ∙ s in cc)
          | inr more ↦ find_none ys x q more p
        ]
      ] refl e

-- ---- one element

pub both_true : (a b : Bool) → (a && b) ≡ true → (a ≡ true) × (b ≡ true)
both_true true b e = (refl, e)
both_true false b e = absurd (true≢false (sym e))

pub and_true : (a b : Bool) → a ≡ true → b ≡ true → (a && b) ≡ true
and_true a b p q = ap (λ x. x && b) p ∙ q

or_true : (a b : Bool) → b ≡ true → (a || b) ≡ true
or_true true b e = refl
or_true false b e = e

pub public_is : (s : ElementState) → is_public s ≡ true → s ≡ Public
public_is Absent e = absurd cc
public_is DeleteOnly e = absurd cc
public_is WriteOnly e = absurd cc
public_is Public e = refl

column_kind : (k : Kind) → is_column k ≡ true → (type : ColumnType) × (type_of_kind k ≡ Some type)
column_kind (Index columns) e = absurd cc
column_kind (Optional type) e = (type, refl)
column_kind (Required type fallback) e = (type, refl)

kind_column : (k : Kind) (type : ColumnType) → type_of_kind k ≡ Some type → is_column k ≡ true
kind_column (Index columns) type e = absurd cc
kind_column (Optional t) type e = refl
kind_column (Required t fallback) type e = refl

record Shown (table number : ℕ) (element : ElementDef) : Type 0 where
  named : element.number ≡ number
  home : element.table ≡ table
  public : element.state ≡ Public

shown_says : (table number : ℕ) (element : ElementDef) → is_shown table number element ≡ true → Shown table number element
shown_says table number element e =
    let a = both_true (element.number == number) ((element.table == table) && is_public element.state) e in
    let b = both_true (element.table == table) (is_public element.state) a.1 in
    record { named = eqb-true element.number number a.0; home = eqb-true element.table table b.0; public = public_is element.state b.1 }

shown_from : (table number : ℕ) (element : ElementDef) → Shown table number element → is_shown table number element ≡ true
shown_from table number element s =
    and_true (element.number == number) _ (eq-eqb element.number number s.named)
    (and_true (element.table == table) _ (eq-eqb element.table table s.home) (ap is_public s.public))

-- ---- the numbers of public columns among elements

abbrev numbers : List ElementDef → List ℕ
numbers es = each (λ (e : ElementDef). e.number) es

named_in : (table : ℕ) (es : List ElementDef) (e : ElementDef) → Contains es e → is_public_column table e ≡ true → is_named (public_numbers es table) e.number ≡ true
named_in table [] e (k, below, is) p = absurd (omega (arith, below))
named_in table (x ∷ es) e there p =
    elim (here_or_later x e es there) [
      | inl same ↦
          ap (λ b. is_named (numbers (cond b (x ∷ filter (is_public_column table) es) (filter (is_public_column table) es))) e.number) (ap (is_public_column table) same ∙ p)
          ∙ ap (λ b. b || is_named (public_numbers es table) e.number) (eq-eqb e.number x.number (ap (λ (y : ElementDef). y.number) (sym same)))
      | inr more ↦ elim (is_public_column table x) as (λ b. is_named (numbers (cond b (x ∷ filter (is_public_column table) es) (filter (is_public_column table) es))) e.number ≡ true) [
        | true ↦ or_true (e.number == x.number) _ (named_in table es e more p)
        | false ↦ named_in table es e more p
      ]
    ]

abbrev HasPublic : ℕ → List ElementDef → ℕ → Type 0
HasPublic table es n = (e : ElementDef) × Contains es e × (is_public_column table e ≡ true) × (e.number ≡ n)

behind : (table n : ℕ) (x : ElementDef) (es : List ElementDef) → HasPublic table es n → HasPublic table (x ∷ es) n
behind table n x es r = (r.0, later x r.0 es r.1, r.2, r.3)

named_says : (table : ℕ) (es : List ElementDef) (n : ℕ) → is_named (public_numbers es table) n ≡ true → HasPublic table es n
named_says table [] n e = absurd (true≢false (sym e))
named_says table (x ∷ es) n e =
    elim (is_public_column table x) as (λ b. is_public_column table x ≡ b → is_named (numbers (cond b (x ∷ filter (is_public_column table) es) (filter (is_public_column table) es))) n ≡ true → HasPublic table (x ∷ es) n) [
      | true ↦ λ t g. elim (n == x.number) as (λ b. (n == x.number) ≡ b → (b || is_named (public_numbers es table) n) ≡ true → HasPublic table (x ∷ es) n) [
        | true ↦ λ s _. (x, here x es, t, sym (eqb-true n x.number s))
        | false ↦ λ _ h. behind table n x es (named_says table es n h)
      ] refl g
      | false ↦ λ t g. behind table n x es (named_says table es n g)
    ] refl e

abbrev Numbered : List (ℕ × ElementDef) → Type 0
Numbered = AllByRecursion (λ e. e.1.number ≡ e.0)

abbrev elements_in : List (ℕ × ElementDef) → List ElementDef
elements_in es = each (λ (e : ℕ × ElementDef). e.1) es

below_columns : (table q : ℕ) (es : List (ℕ × ElementDef)) → Numbered es → T (below_all nat_cmp q es) → AllByRecursion (λ l. nat_cmp q l ≡ Less) (public_numbers (elements_in es) table)
below_columns table q [] n h = tt
below_columns table q (e ∷ es) n h =
    let rest = below_columns table q es n.1 (second _ _ h) in
    elim (is_public_column table e.1) as (λ b. AllByRecursion (λ l. nat_cmp q l ≡ Less) (numbers (cond b (e.1 ∷ filter (is_public_column table) (elements_in es)) (filter (is_public_column table) (elements_in es))))) [
      | true ↦ (subst (λ m. nat_cmp q m ≡ Less) (sym n.0) (to_less _ (first _ _ h)), rest)
      | false ↦ rest
    ]

rising : (table : ℕ) (es : List (ℕ × ElementDef)) → Numbered es → T (is_sorted nat_cmp es) → IsStrictlySortedBy nat_cmp (public_numbers (elements_in es) table)
unfolding IsStrictlySortedBy
rising table [] n h = tt
rising table (e ∷ es) n h =
    let rest = rising table es n.1 (second _ _ h) in
    elim (is_public_column table e.1) as (λ b. IsStrictlySortedBy nat_cmp (numbers (cond b (e.1 ∷ filter (is_public_column table) (elements_in es)) (filter (is_public_column table) (elements_in es))))) [
      | true ↦ (subst (λ m. AllByRecursion (λ l. nat_cmp m l ≡ Less) (public_numbers (elements_in es) table)) (sym n.0) (below_columns table e.0 es n.1 (first _ _ h)), rest)
      | false ↦ rest
    ]

-- ---- in a version

module _ (v : Version) (sound : IsSoundVersion v) where
  own : (n : ℕ) (e : ElementDef) → element_at v n ≡ Some e → e.number ≡ n
  own n e at = (sound.elements n e at).own

  pub found_at : (element : ElementDef) → Contains (live v) element → element_at v element.number ≡ Some element
  found_at element there =
      let r = live_from v element there in
      ap (element_at v) (own r.0 element r.1) ∙ r.1

  pub column_says : (table number : ℕ) (type : ColumnType) → column_type (live v) table number ≡ Some type → IsColumn v table number type
  column_says table number type =
      elim (find (is_shown table number) (live v)) as (λ o. find (is_shown table number) (live v) ≡ o → type_in o ≡ Some type → IsColumn v table number type) [
        | None ↦ λ f e. absurd (let x : None ≡ Some type = e in cc)
        | Some element ↦ λ f e.
            let s = find_says (is_shown table number) (live v) element f in
            let p = shown_says table number element s.1 in
            record {
              element = element;
              known = ap (element_at v) (sym p.named) ∙ found_at element s.0;
              home = p.home;
              column = e;
              public = p.public;
            }
      ] refl

  pub column_from : (table number : ℕ) (type : ColumnType) → IsColumn v table number type → column_type (live v) table number ≡ Some type
  column_from table number type p =
      let there : Contains (live v) p.element = live_has v number p.element p.known in
      let shown : is_shown table number p.element ≡ true = shown_from table number p.element (record { named = own number p.element p.known; home = p.home; public = p.public }) in
      elim (find (is_shown table number) (live v)) as (λ o. find (is_shown table number) (live v) ≡ o → type_in o ≡ Some type) [
        | None ↦ λ f. absurd (find_none (is_shown table number) (live v) p.element f there shown)
        | Some element ↦ λ f.
            let s = find_says (is_shown table number) (live v) element f in
            let q = shown_says table number element s.1 in
            let same : element ≡ p.element = some_same (sym (ap (element_at v) (sym q.named) ∙ found_at element s.0) ∙ p.known) in
            ap (λ (e : ElementDef). type_of_kind e.kind) same ∙ p.column
      ] refl

  -- a public column is among the numbers
  pub column_named : (table number : ℕ) (type : ColumnType) → IsColumn v table number type → is_named (public_numbers (live v) table) number ≡ true
  column_named table number type p =
      let public : is_public_column table p.element ≡ true =
      and_true ((p.element.table == table) && is_public p.element.state) _ (and_true (p.element.table == table) _ (eq-eqb p.element.table table p.home) (ap is_public p.public)) (kind_column p.element.kind type p.column) in
      subst (λ n. is_named (public_numbers (live v) table) n ≡ true) (own number p.element p.known) (named_in table (live v) p.element (live_has v number p.element p.known) public)

  pub type_named : (table number : ℕ) → is_some (column_type (live v) table number) ≡ true → is_named (public_numbers (live v) table) number ≡ true
  type_named table number =
      elim (column_type (live v) table number) as (λ o. column_type (live v) table number ≡ o → is_some o ≡ true → is_named (public_numbers (live v) table) number ≡ true) [
        | None ↦ λ _ e. absurd (true≢false (sym e))
        | Some type ↦ λ is _. column_named table number type (column_says table number type is)
      ] refl

  pub named_column : (table number : ℕ) → is_named (public_numbers (live v) table) number ≡ true → (type : ColumnType) × IsColumn v table number type
  named_column table number e =
      let r = named_says table (live v) number e in
      let a = both_true ((r.0.table == table) && is_public r.0.state) (is_column r.0.kind) r.2 in
      let b = both_true (r.0.table == table) (is_public r.0.state) a.0 in
      let k = column_kind r.0.kind a.1 in (
        k.0,
        record {
          element = r.0;
          known = ap (element_at v) (sym r.3) ∙ found_at r.0 r.1;
          home = eqb-true r.0.table table b.0;
          column = k.1;
          public = public_is r.0.state b.1;
        },
      )

  pub numbers_rise : (table : ℕ) → IsStrictlySortedBy nat_cmp (public_numbers (live v) table)
  numbers_rise table =
      rising table (entries v.elements) (each_entry nat_cmp nat_cmp_total nat_cmp-IsAntisymmetric (λ n e. e.number ≡ n) v.elements own) (entries_sorted v.elements)
