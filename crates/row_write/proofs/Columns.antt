-- The public columns of a table, by number and as a list.
use Rattle.std.proofs.Common.{◌≡◌, ◌==◌, ◌&&◌, ℕ, Bool, true, false, cond, T, List, [], ◌∷◌, Option, Some, None, option_map, inl, inr, refl, sym, ap, subst, ◌∙◌, eqb-true, eq-eqb, Contains, arith}
use Rattle.std.specs.List.{find, filter_map, cons_option, AllByRecursion}
use Rattle.std.specs.Ordering.{nat_cmp, is_lt}
use Rattle.std.specs.FinMap.{entries, entries_sorted, is_sorted, nat_cmp-IsAntisymmetric}
use Rattle.std.specs.FinMap.Entries.{below_all}
use Rattle.std.specs.Cmp.{nat_cmp_total}
use mathlib.Core.List.{map as each}
use Rattle.row_map.specs.declared.shape.ColumnType.{ColumnType}
use Rattle.row_map.proofs.Entries.{each_entry}
use Rattle.schema_version.specs.declared.element.ElementState.{ElementState}
use Rattle.schema_version.specs.declared.element.ElementState.TheVariants.{Absent, DeleteOnly, WriteOnly, Public}
use Rattle.schema_version.specs.declared.element.ElementDef.{ElementDef}
use Rattle.schema_version.specs.Version.{Version, element_at, live, is_public, type_of_kind}
use Rattle.schema_version.specs.Shape.{public_column, column_types}
use Rattle.schema_version.proofs.Lists.{here, later, here_or_later, some_same}
use Rattle.schema_version.proofs.Live.{live_has, live_from}
use Rattle.row_write.specs.Reads.{IsPublicColumn}
use Rattle.row_write.specs.inner.IndexedColumns.{IsServed}
use Rattle.schema_version.specs.Columns.{is_shown, type_in, column_type}

-- ---- lists

module _ {X : Type 0} (test : X → Bool) where
  find_says : (xs : List X) (x : X) → find test xs ≡ Some x → Contains xs x × (test x ≡ true)
  find_says [] x e = absurd cc
  find_says (y ∷ ys) x e =
      elim (test y) as (λ b. test y ≡ b → cond b (Some y) (find test ys) ≡ Some x → Contains (y ∷ ys) x × (test x ≡ true)) [
        | true ↦ λ p q. (subst (Contains (y ∷ ys)) (some_same q) (here y ys), ap test (sym (some_same q)) ∙ p)
        | false ↦ λ p q. let r = find_says ys x q in (later y x ys r.0, r.1)
      ] refl e

  find_none : (xs : List X) (x : X) → find test xs ≡ None → Contains xs x → test x ≡ true → ⊥
  find_none [] x e (k, below, is) p = absurd (omega (arith, below))
  find_none (y ∷ ys) x e there p =
      elim (test y) as (λ b. test y ≡ b → cond b (Some y) (find test ys) ≡ None → ⊥) [
        | true ↦ λ _ q. cc
        | false ↦ λ s q. elim (here_or_later y x ys there) [
          | inl same ↦ (let wrong : true ≡ false = sym p ∙ ap test (sym same) ∙ s in cc)
          | inr more ↦ find_none ys x q more p
        ]
      ] refl e

module _ {X Y : Type 0} (h : X → Option Y) where
  pub mapped_has : (xs : List X) (x : X) (y : Y) → Contains xs x → h x ≡ Some y → Contains (filter_map h xs) y
  mapped_has [] x y (k, below, is) e = absurd (omega (arith, below))
  mapped_has (z ∷ xs) x y there e =
      elim (here_or_later z x xs there) [
        | inl same ↦ subst (λ o. Contains (cons_option o (filter_map h xs)) y) (sym (ap h same ∙ e)) (here y (filter_map h xs))
        | inr more ↦ elim (h z) as (λ o. Contains (cons_option o (filter_map h xs)) y) [
          | None ↦ mapped_has xs x y more e
          | Some w ↦ later w y (filter_map h xs) (mapped_has xs x y more e)
        ]
      ]

  pub mapped_from : (xs : List X) (y : Y) → Contains (filter_map h xs) y → (x : X) × Contains xs x × (h x ≡ Some y)
  mapped_from [] y (k, below, is) = absurd (omega (arith, below))
  mapped_from (z ∷ xs) y there =
      elim (h z) as (λ o. h z ≡ o → Contains (cons_option o (filter_map h xs)) y → (x : X) × Contains (z ∷ xs) x × (h x ≡ Some y)) [
        | None ↦ λ _ t. let r = mapped_from xs y t in (r.0, later z r.0 xs r.1, r.2)
        | Some w ↦ λ e t. elim (here_or_later w y (filter_map h xs) t) [
          | inl same ↦ (z, here z xs, e ∙ ap Some same)
          | inr more ↦ let r = mapped_from xs y more in (r.0, later z r.0 xs r.1, r.2)
        ]
      ] refl there

-- ---- one element

both_true : (a b : Bool) → (a && b) ≡ true → (a ≡ true) × (b ≡ true)
both_true true b e = (refl, e)
both_true false b e = absurd cc

and_true : (a b : Bool) → a ≡ true → b ≡ true → (a && b) ≡ true
and_true a b p q = ap (λ x. x && b) p ∙ q

public_is : (s : ElementState) → is_public s ≡ true → s ≡ Public
public_is Absent e = absurd cc
public_is DeleteOnly e = absurd cc
public_is WriteOnly e = absurd cc
public_is Public e = refl

record Shown (table number : ℕ) (element : ElementDef) : Type 0 where
  named : element.number ≡ number
  home : element.table ≡ table
  public : element.state ≡ Public

shown_says : (table number : ℕ) (element : ElementDef) → is_shown table number element ≡ true → Shown table number element
shown_says table number element e =
    let a = both_true (element.number == number) ((element.table == table) && is_public element.state) e in
    let b = both_true (element.table == table) (is_public element.state) a.1 in
    record { named = eqb-true element.number number a.0; home = eqb-true element.table table b.0; public = public_is element.state b.1 }

shown_from : (table number : ℕ) (element : ElementDef) → Shown table number element → is_shown table number element ≡ true
shown_from table number element s =
    and_true (element.number == number) _ (eq-eqb element.number number s.named)
    (and_true (element.table == table) _ (eq-eqb element.table table s.home) (ap is_public s.public))

-- ---- by number

module _ (v : Version) (served : IsServed v) where
  found_at : (element : ElementDef) → Contains (live v) element → element_at v element.number ≡ Some element
  found_at element there =
      let r = live_from v element there in
      ap (element_at v) (served.own r.0 element r.1) ∙ r.1

  pub column_says : (table number : ℕ) (type : ColumnType) → column_type (live v) table number ≡ Some type → IsPublicColumn v table number type
  column_says table number type =
      elim (find (is_shown table number) (live v)) as (λ o. find (is_shown table number) (live v) ≡ o → type_in o ≡ Some type → IsPublicColumn v table number type) [
        | None ↦ λ f e. absurd (let x : None ≡ Some type = e in cc)
        | Some element ↦ λ f e.
            let s = find_says (is_shown table number) (live v) element f in
            let p = shown_says table number element s.1 in
            record {
              element = element;
              known = ap (element_at v) (sym p.named) ∙ found_at element s.0;
              home = p.home;
              column = e;
              public = p.public;
            }
      ] refl

  pub column_from : (table number : ℕ) (type : ColumnType) → IsPublicColumn v table number type → column_type (live v) table number ≡ Some type
  column_from table number type p =
      let there : Contains (live v) p.element = live_has v number p.element p.known in
      let shown : is_shown table number p.element ≡ true = shown_from table number p.element (record { named = served.own number p.element p.known; home = p.home; public = p.public }) in
      elim (find (is_shown table number) (live v)) as (λ o. find (is_shown table number) (live v) ≡ o → type_in o ≡ Some type) [
        | None ↦ λ f. absurd (find_none (is_shown table number) (live v) p.element f there shown)
        | Some element ↦ λ f.
            let s = find_says (is_shown table number) (live v) element f in
            let q = shown_says table number element s.1 in
            let same : element ≡ p.element = some_same (sym (ap (element_at v) (sym q.named) ∙ found_at element s.0) ∙ p.known) in
            ap (λ (e : ElementDef). type_of_kind e.kind) same ∙ p.column
      ] refl

  -- ---- as a list

  pub column_listed : (table number : ℕ) (type : ColumnType) → IsPublicColumn v table number type → Contains (column_types v table) (number, type)
  column_listed table number type p =
      let there : Contains (live v) p.element = live_has v number p.element p.known in
      let test : ((p.element.table == table) && is_public p.element.state) ≡ true = and_true (p.element.table == table) _ (eq-eqb p.element.table table p.home) (ap is_public p.public) in
      let is : public_column table p.element ≡ Some (number, type) =
      ap (λ b. cond b (option_map (λ (t : ColumnType). (p.element.number, t)) (type_of_kind p.element.kind)) None) test
      ∙ ap (option_map (λ (t : ColumnType). (p.element.number, t))) p.column
      ∙ ap (λ n. Some (n, type)) (served.own number p.element p.known) in
      mapped_has (public_column table) (live v) p.element (number, type) there is

  listed_one : (table : ℕ) (element : ElementDef) (number : ℕ) (type : ColumnType) → public_column table element ≡ Some (number, type)
      → (element.table ≡ table) × (element.state ≡ Public) × (type_of_kind element.kind ≡ Some type) × (element.number ≡ number)
  listed_one table element number type =
      elim ((element.table == table) && is_public element.state) as (λ b. ((element.table == table) && is_public element.state) ≡ b → cond b (option_map {U = ℕ × ColumnType} (λ (t : ColumnType). (element.number, t)) (type_of_kind element.kind)) None ≡ Some (number, type)
      → (element.table ≡ table) × (element.state ≡ Public) × (type_of_kind element.kind ≡ Some type) × (element.number ≡ number)) [
        | true ↦ λ p e.
            let b = both_true (element.table == table) (is_public element.state) p in
            let k = typed (type_of_kind element.kind) e in
            (eqb-true element.table table b.0, public_is element.state b.1, k.0, k.1)
        | false ↦ λ p e. absurd (let x : None ≡ Some (number, type) = e in cc)
      ] refl
    where
      typed : (o : Option ColumnType) → option_map {U = ℕ × ColumnType} (λ (t : ColumnType). (element.number, t)) o ≡ Some (number, type) → (o ≡ Some type) × (element.number ≡ number)
      typed None e = absurd cc
      typed (Some t) e = let pair : (element.number, t) ≡ (number, type) = some_same e in (λ i. Some (pair i).1, λ i. (pair i).0)

  pub listed_column : (table number : ℕ) (type : ColumnType) → Contains (column_types v table) (number, type) → IsPublicColumn v table number type
  listed_column table number type there =
      let r = mapped_from (public_column table) (live v) (number, type) there in
      let p = listed_one table r.0 number type r.2 in
      record { element = r.0; known = ap (element_at v) (sym p.3) ∙ found_at r.0 r.1; home = p.0; column = p.2; public = p.1 }

  -- ---- the columns' numbers rise

  second : (a b : Bool) → T (a && b) → T b
  second true b h = h
  second false b h = absurd h

  first : (a b : Bool) → T (a && b) → T a
  first true b h = tt
  first false b h = absurd h

  both : (a b : Bool) → T a → T b → T (a && b)
  both true b p q = q
  both false b p q = p

  abbrev Numbered : List (ℕ × ElementDef) → Type 0
  Numbered = AllByRecursion (λ e. e.1.number ≡ e.0)

  below_columns : (table q : ℕ) (es : List (ℕ × ElementDef)) → Numbered es → T (below_all nat_cmp q es) → T (below_all nat_cmp q (filter_map (public_column table) (each (λ (e : ℕ × ElementDef). e.1) es)))
  below_columns table q [] n h = tt
  below_columns table q (e ∷ es) n h =
      let rest = below_columns table q es n.1 (second _ _ h) in
      elim (public_column table e.1) as (λ o. public_column table e.1 ≡ o → T (below_all nat_cmp q (cons_option o (filter_map (public_column table) (each (λ (e : ℕ × ElementDef). e.1) es))))) [
        | None ↦ λ _. rest
        | Some c ↦ λ is. both _ _ (subst (λ m. T (is_lt (nat_cmp q m))) (sym n.0 ∙ (listed_one table e.1 c.0 c.1 is).3) (first _ _ h)) rest
      ] refl

  rising : (table : ℕ) (es : List (ℕ × ElementDef)) → Numbered es → T (is_sorted nat_cmp es) → T (is_sorted nat_cmp (filter_map (public_column table) (each (λ (e : ℕ × ElementDef). e.1) es)))
  rising table [] n h = tt
  rising table (e ∷ es) n h =
      let rest = rising table es n.1 (second _ _ h) in
      elim (public_column table e.1) as (λ o. public_column table e.1 ≡ o → T (is_sorted nat_cmp (cons_option o (filter_map (public_column table) (each (λ (e : ℕ × ElementDef). e.1) es))))) [
        | None ↦ λ _. rest
        | Some c ↦ λ is. both _ _ (subst (λ m. T (below_all nat_cmp m (filter_map (public_column table) (each (λ (e : ℕ × ElementDef). e.1) es)))) (sym n.0 ∙ (listed_one table e.1 c.0 c.1 is).3) (below_columns table e.0 es n.1 (first _ _ h))) rest
      ] refl

  pub columns_rise : (table : ℕ) → T (is_sorted nat_cmp (column_types v table))
  columns_rise table =
      rising table (entries v.elements) (each_entry nat_cmp nat_cmp_total nat_cmp-IsAntisymmetric (λ n e. e.number ≡ n) v.elements served.own) (entries_sorted v.elements)
