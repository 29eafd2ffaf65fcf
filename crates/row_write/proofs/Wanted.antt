-- What a version's elements write, one after another, and that it depends on the public columns of the table alone.
use Rattle.std.proofs.Common.{◌≡◌, ◌&&◌, ◌≤◌, ◌++◌, ℕ, zero, suc, Bool, true, false, cond, T, List, [], ◌∷◌, Option, Some, None, is_some, refl, sym, ap, ap₂, subst, ◌∙◌, arith, eqb, eqb-true, Contains, IsTrue}
use Rattle.std.proofs.lemmas.Bool.Decides.{nat_tests}
use Rattle.std.specs.List.{AllByRecursion}
use Rattle.std.specs.declared.cmp.Ordering.TheVariants.{Less}
use Rattle.std.specs.Ordering.{nat_cmp, is_lt}
use Rattle.std.specs.Cmp.{nat_cmp_total}
use Rattle.std.specs.FinMap.{get, entries, entries_sorted, from_entries, from_sorted, is_sorted, same_map, get-from_entries, get-from_sorted, entries-from_sorted, nat_cmp-IsAntisymmetric}
use Rattle.std.specs.FinMap.Entries.{below_all}
use mathlib.Core.List.{map as each}
use Rattle.row_map.specs.declared.shape.ColumnType.{ColumnType}
use Rattle.std.specs.Prelude.{option_to_list, unwrap_or}
use Rattle.keycode.specs.declared.value.Value.{Value}
use Rattle.row_map.specs.Rows.{RowKey, Cells}
use Rattle.row_map.specs.Writes.{Writes, Batch, noted}
use Rattle.row_map.proofs.Entries.{each_entry}
use Rattle.byte_map.proofs.Written.{noted-append}
use Rattle.schema_version.specs.declared.element.ElementState.{ElementState}
use Rattle.schema_version.specs.declared.element.ElementState.TheVariants.{Absent, DeleteOnly, WriteOnly, Public}
use Rattle.schema_version.specs.declared.element.Kind.{Kind}
use Rattle.schema_version.specs.declared.element.Kind.TheVariants.{Index, Optional, Required}
use Rattle.schema_version.specs.declared.element.ElementDef.{ElementDef}
use Rattle.schema_version.specs.Version.{Version, element_at, live, indexed_columns, type_of_kind}
use Rattle.schema_version.proofs.Lists.{here, later}
use Rattle.element_state.specs.Elements.{Change, Alike, Meaning}
use Rattle.element_state.specs.Exists.{exists_by}
use Rattle.element_state.specs.lemmas.ExistsLaws.{exists_facts}
use Rattle.element_state.specs.Index.{value_in, indexed}
use Rattle.element_state.specs.Visible.{visible_value}
use Rattle.element_state.specs.Sources.{source_in, default_value_at}
use Rattle.element_state.proofs.Visible.{stands_for, optional_visible, required_visible}
use Rattle.element_state.proofs.Sources.{lawful_source}
use Rattle.element_state.specs.Kinds.{kind_meaning, IsLawfulKind, kind_laws}
use Rattle.element_state.specs.Schemas.{Entry, writes_of, version_writes}
use Rattle.element_state.specs.Tables.{within}
use Rattle.element_state.specs.Versions.{ElementKind, meaning_of, the_kinds, entry_of, row_entry, schema_of}
use Rattle.row_write.specs.Prepare.{HasColumn}
use Rattle.row_write.specs.inner.IndexedColumns.{IsServed}
use Rattle.schema_version.specs.Columns.{column_type}
use Rattle.row_write.specs.inner.Run.{element_writes, live_writes}
use Rattle.row_write.proofs.Columns.{column_says, column_from}

-- ---- the entries of a version

both : (a b : Bool) → T a → T b → T (a && b)
both true b p q = q
both false b p q = p

second : (a b : Bool) → T (a && b) → T b
second true b h = h
second false b h = absurd h

first : (a b : Bool) → T (a && b) → T a
first true b h = tt
first false b h = absurd h

above_zero : (b : ℕ) → nat_cmp 0 (suc b) ≡ Less
above_zero b = grind (arith, nat_tests)

zero_below : (n : ℕ) → 1 ≤ n → T (is_lt (nat_cmp 0 n))
zero_below zero h = absurd (omega arith)
zero_below (suc n) h = subst (λ r. T (is_lt r)) (sym (above_zero n)) tt

entries_of : {X : Type 0} (es : List (ℕ × X)) → T (is_sorted nat_cmp es) → entries (from_entries {R = nat_cmp} es) ≡ es
entries_of es h =
    ap entries (same_map nat_cmp_total nat_cmp-IsAntisymmetric (from_entries {R = nat_cmp} es) (from_sorted {R = nat_cmp} es) (λ q. get-from_entries nat_cmp_total es q ∙ sym (get-from_sorted nat_cmp es q h)))
    ∙ entries-from_sorted nat_cmp es h

abbrev as_entries : Version → List (ℕ × ElementDef) → List (ℕ × Entry ElementKind)
as_entries v es = each (λ (e : ℕ × ElementDef). (e.0, entry_of v e.1)) es

below_each : (v : Version) (q : ℕ) (es : List (ℕ × ElementDef)) → T (below_all nat_cmp q es) → T (below_all nat_cmp q (as_entries v es))
below_each v q [] h = tt
below_each v q (e ∷ es) h = both _ _ (first _ _ h) (below_each v q es (second _ _ h))

sorted_each : (v : Version) (es : List (ℕ × ElementDef)) → T (is_sorted nat_cmp es) → T (is_sorted nat_cmp (as_entries v es))
sorted_each v [] h = tt
sorted_each v (e ∷ es) h = both _ _ (below_each v e.0 es (first _ _ h)) (sorted_each v es (second _ _ h))

all_above : (v : Version) (es : List (ℕ × ElementDef)) → AllByRecursion (λ (e : ℕ × ElementDef). 1 ≤ e.0) es → T (below_all nat_cmp 0 (as_entries v es))
all_above v [] h = tt
all_above v (e ∷ es) h = both _ _ (zero_below e.0 h.0) (all_above v es h.1)

live_are : (v : Version) (es : List (ℕ × ElementDef)) (c : Change) → AllByRecursion (λ (e : ℕ × ElementDef). e.1.number ≡ e.0) es → writes_of meaning_of (as_entries v es) c ≡ live_writes v (each (λ (e : ℕ × ElementDef). e.1) es) c
live_are v [] c h = refl
live_are v (e ∷ es) c h =
    ap₂ (λ (a b : Writes). a ++ b) (ap (λ n. (within e.1.table (kind_meaning n (source_in v e.1.kind))).writes e.1.state c) (sym h.0)) (live_are v es c h.1)

-- ---- rows that agree on the public columns of a table

-- two rows, or none, in which the same is visible where the test holds
abbrev pub VisibleAlike : (ℕ → Bool) → (ℕ → Option Value → Option Value) → Option Cells → Option Cells → Type 0
VisibleAlike test as_visible None None = Unit {0}
VisibleAlike test as_visible (Some r) (Some s) = (i : ℕ) → IsTrue (test i) → as_visible i (get r i) ≡ as_visible i (get s i)
VisibleAlike test as_visible _ _ = ⊥

alike_from : (test : ℕ → Bool) (as_visible : ℕ → Option Value → Option Value) (sees : Cells → List Value) → ((r s : Cells) → ((i : ℕ) → IsTrue (test i) → as_visible i (get r i) ≡ as_visible i (get s i)) → sees r ≡ sees s)
    → (a b : Option Cells) → VisibleAlike test as_visible a b → Alike sees a b
alike_from test as_visible sees h None None x = tt
alike_from test as_visible sees h (Some r) (Some s) x = h r s x
alike_from test as_visible sees h None (Some s) x = absurd x
alike_from test as_visible sees h (Some r) None x = absurd x

-- whether the number is one of a public column of the table
abbrev pub shown : Version → ℕ → ℕ → Bool
shown v table number = is_some (column_type (live v) table number)

module _ (v : Version) (served : IsServed v) where
  pub version_are : (c : Change) → version_writes the_kinds (schema_of v) c ≡ exists_by c.key c.old c.new ++ live_writes v (live v) c
  version_are c =
      let each_is = λ (P : ℕ → ElementDef → Type 0) (h : (n : ℕ) (e : ElementDef) → get v.elements n ≡ Some e → P n e). each_entry nat_cmp nat_cmp_total nat_cmp-IsAntisymmetric P v.elements h in
      let sorted : T (is_sorted nat_cmp ((0, row_entry) ∷ as_entries v (entries v.elements))) =
      both _ _ (all_above v (entries v.elements) (each_is (λ n e. 1 ≤ n) served.first)) (sorted_each v (entries v.elements) (entries_sorted v.elements)) in
      ap (λ es. writes_of meaning_of es c) (entries_of ((0, row_entry) ∷ as_entries v (entries v.elements)) sorted)
      ∙ ap (λ (ws : Writes). exists_by c.key c.old c.new ++ ws) (live_are v (entries v.elements) c (each_is (λ n e. e.number ≡ n) served.own))

  pub noted_all : (c : Change) (b middle last : Batch) → middle ≡ noted b (exists_by c.key c.old c.new) → last ≡ noted middle (live_writes v (live v) c) → last ≡ noted b (version_writes the_kinds (schema_of v) c)
  noted_all c b middle last one two =
      two ∙ ap (λ (m : Batch). noted m (live_writes v (live v) c)) one ∙ sym (noted-append (exists_by c.key c.old c.new) (live_writes v (live v) c) b)
      ∙ ap (λ (ws : Writes). noted b ws) (sym (version_are c))

  pub shown_column : (table number : ℕ) → HasColumn v table number → shown v table number ≡ true
  shown_column table number has = ap is_some (column_from v served table number has.0 has.1)

  pub column_shown : (table number : ℕ) → shown v table number ≡ true → HasColumn v table number
  column_shown table number e = by (column_type (live v) table number) refl e
    where
      by : (o : Option ColumnType) → column_type (live v) table number ≡ o → is_some o ≡ true → HasColumn v table number
      by None is t = absurd (let x : false ≡ true = t in cc)
      by (Some type) is t = (type, column_says v served table number type is)

  lawful_kind : (n : ℕ) (e : ElementDef) → element_at v n ≡ Some e → IsLawfulKind n (source_in v e.kind)
  lawful_kind n e at = lawful_source v served.fair n (served.first n e at) (served.given n e at) e.kind (served.fair n e at)

  -- rows in which the same is visible in the public columns of a table
  abbrev VisibleSame : ℕ → Cells → Cells → Type 0
  VisibleSame table r s = (i : ℕ) → IsTrue (shown v table i) → visible_value v table i (get r i) ≡ visible_value v table i (get s i)

  same_value_in : (table c : ℕ) (r s : Cells) → HasColumn v table c → VisibleSame table r s → value_in r (c, default_value_at v c) ≡ value_in s (c, default_value_at v c)
  same_value_in table c r s has h =
      sym (stands_for v table c (get r c)) ∙ ap (λ o. unwrap_or o (default_value_at v c)) (h c (shown_column table c has)) ∙ stands_for v table c (get s c)

  same_indexed : (table : ℕ) (r s : Cells) (cs : List ℕ) → AllByRecursion (HasColumn v table) cs → VisibleSame table r s → indexed (each (λ c. (c, default_value_at v c)) cs) r ≡ indexed (each (λ c. (c, default_value_at v c)) cs) s
  same_indexed table r s [] has h = refl
  same_indexed table r s (c ∷ cs) has h = ap₂ (λ (x : Value) (xs : List Value). x ∷ xs) (same_value_in table c r s has.0 h) (same_indexed table r s cs has.1 h)

  all_contained : {X : Type 0} (P : X → Type 0) (xs : List X) → ((x : X) → Contains xs x → P x) → AllByRecursion P xs
  all_contained P [] h = tt
  all_contained P (x ∷ xs) h = (h x (here x xs), all_contained P xs (λ y there. h y (later x y xs there)))

  -- an element writes the same for them
  sees_same : (n : ℕ) (e : ElementDef) → element_at v n ≡ Some e → (k : Kind) → e.kind ≡ k → (q : ElementState) → e.state ≡ q → (r s : Cells) → VisibleSame e.table r s → (kind_meaning n (source_in v k)).sees q r ≡ (kind_meaning n (source_in v k)).sees q s
  sees_same n e at (Index columns) is q state r s h =
      same_indexed e.table r s columns (all_contained (HasColumn v e.table) columns (λ c there. served.columns n e at c (subst (λ k. Contains (indexed_columns k) c) (sym is) there))) h
  sees_same n e at (Optional type) is Absent state r s h = refl
  sees_same n e at (Optional type) is DeleteOnly state r s h = refl
  sees_same n e at (Optional type) is WriteOnly state r s h = refl
  sees_same n e at (Optional type) is Public state r s h =
      let shows = shown_column e.table n (type, record { element = e; known = at; home = refl; column = ap type_of_kind is; public = state }) in
      ap option_to_list (sym (optional_visible v n e type e.table (get r n) at is) ∙ h n shows ∙ optional_visible v n e type e.table (get s n) at is)
  sees_same n e at (Required type fallback) is Absent state r s h = refl
  sees_same n e at (Required type fallback) is DeleteOnly state r s h = refl
  sees_same n e at (Required type fallback) is WriteOnly state r s h = refl
  sees_same n e at (Required type fallback) is Public state r s h =
      let shows = shown_column e.table n (type, record { element = e; known = at; home = refl; column = ap type_of_kind is; public = state }) in
      ap (λ (x : Value). x ∷ []) (sym (required_visible v n e type fallback e.table (get r n) at is) ∙ ap (λ o. unwrap_or o fallback) (h n shows) ∙ required_visible v n e type fallback e.table (get s n) at is)

  module _ (c d : Change) (key : c.key ≡ d.key) (old : VisibleAlike (shown v c.key.0) (visible_value v c.key.0) c.old d.old) (new : VisibleAlike (shown v c.key.0) (visible_value v c.key.0) c.new d.new) where
    one_same : (e : ElementDef) → element_at v e.number ≡ Some e → element_writes v e c ≡ element_writes v e d
    one_same e at = by (eqb c.key.0 e.table) refl
      where
        other : (b : Bool) → b ≡ false → (m : Meaning) (x : Change) → cond b (m.writes e.state x) [] ≡ []
        other true p m x = absurd (let y : true ≡ false = p in cc)
        other false p m x = refl

        by : (b : Bool) → eqb c.key.0 e.table ≡ b → element_writes v e c ≡ element_writes v e d
        by false p =
            let q : eqb d.key.0 e.table ≡ false = ap (λ (k : RowKey). eqb k.0 e.table) (sym key) ∙ p in
            other (eqb c.key.0 e.table) p (kind_meaning e.number (source_in v e.kind)) c ∙ sym (other (eqb d.key.0 e.table) q (kind_meaning e.number (source_in v e.kind)) d)
        by true p =
            let home : c.key.0 ≡ e.table = eqb-true c.key.0 e.table p in
            let m = kind_meaning e.number (source_in v e.kind) in
            let sees = λ (r s : Cells) (h : VisibleSame c.key.0 r s). sees_same e.number e at e.kind refl e.state refl r s (subst (λ table. VisibleSame table r s) home h) in
            (kind_laws e.table e.number (source_in v e.kind) (lawful_kind e.number e at)).same_writes e.state c d key
            (alike_from (shown v c.key.0) (visible_value v c.key.0) (m.sees e.state) sees c.old d.old old)
            (alike_from (shown v c.key.0) (visible_value v c.key.0) (m.sees e.state) sees c.new d.new new)

    live_same : (es : List (ℕ × ElementDef)) → AllByRecursion (λ (e : ℕ × ElementDef). element_at v e.1.number ≡ Some e.1) es → live_writes v (each (λ (e : ℕ × ElementDef). e.1) es) c ≡ live_writes v (each (λ (e : ℕ × ElementDef). e.1) es) d
    live_same [] h = refl
    live_same (e ∷ es) h = ap₂ (λ (a b : Writes). a ++ b) (one_same e.1 h.0) (live_same es h.1)

    exists_same : exists_by c.key c.old c.new ≡ exists_by d.key d.old d.new
    exists_same = exists_facts.same_writes Public c d key
        (alike_from (shown v c.key.0) (visible_value v c.key.0) (λ r. []) (λ r s h. refl) c.old d.old old)
        (alike_from (shown v c.key.0) (visible_value v c.key.0) (λ r. []) (λ r s h. refl) c.new d.new new)

    -- changes of rows that agree so write the same
    pub same_writes : version_writes the_kinds (schema_of v) c ≡ version_writes the_kinds (schema_of v) d
    same_writes =
        version_are c
        ∙ ap₂ (λ (a b : Writes). a ++ b) exists_same (live_same (entries v.elements) (each_entry nat_cmp nat_cmp_total nat_cmp-IsAntisymmetric (λ n e. element_at v e.number ≡ Some e) v.elements (λ n e at. ap (element_at v) (served.own n e at) ∙ at)))
        ∙ sym (version_are d)
