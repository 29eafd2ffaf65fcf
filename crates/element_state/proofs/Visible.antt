-- What is visible of rows, and that pairs agree with it.
use Rattle.std.specs.Prelude.{◌≡◌, ◌≢◌, ◌⊎◌, ℕ, ◌<◌, ◌≤◌, ◌==◌, ◌&&◌, Bool, true, false, T, IsTrue, cond, eqb, List, [], ◌∷◌, ◌++◌, length, Option, Some, None, is_some, option_map, unwrap_or, nat_le, refl}
use Rattle.std.specs.FinMap.{get, find, insert, is_sorted, entries, entries_sorted, get-entries, get-insert, get-from_sorted, entries-from_sorted, nat_cmp-IsAntisymmetric}
use Rattle.std.specs.FinMap.Entries.{below_all}
use Rattle.std.specs.Cmp.{nat_cmp_total}
use Rattle.std.specs.Ordering.{nat_cmp, eq_by_cmp, is_lt}
use Rattle.std.proofs.Common.{sym, ap, ap₂, subst, ◌∙◌, inl, inr}
use Rattle.std.proofs.lemmas.Bool.Decides.{leb_tells}
use mathlib.Core.List.{map as each}
use Rattle.keycode.specs.declared.value.Value.{Value}
use Rattle.keycode.specs.declared.value.Value.TheVariants.{Null, Int, Text, Bool as Flag}
use Rattle.keycode.specs.Valid.{IsValue, IsShort, IsStorable}
use Rattle.row_map.specs.declared.shape.ColumnType.{ColumnType}
use Rattle.row_map.specs.declared.shape.ColumnType.TheVariants as kind
use Rattle.row_map.specs.Rows.{RowKey, Cells, Rows, Pairs, row_cmp}
use Rattle.row_map.specs.Keys.{index_code}
use Rattle.row_map.specs.Shape.{has_type}
use Rattle.keycode.specs.Code.{code}
use Rattle.row_map.proofs.Orders.{row_cmp_total, row_cmp-IsAntisymmetric}
use Rattle.byte_map.proofs.Written.{same_or_apart, tied, apart}
use Rattle.schema_version.specs.declared.element.ElementState.{ElementState}
use Rattle.schema_version.specs.declared.element.ElementState.TheVariants.{Absent, DeleteOnly, WriteOnly, Public}
use Rattle.schema_version.specs.declared.element.Kind.{Kind}
use Rattle.schema_version.specs.declared.element.Kind.TheVariants.{Index, Optional, Required}
use Rattle.schema_version.specs.declared.element.ElementDef.{ElementDef}
use Rattle.schema_version.specs.Version.{Version, element_at, is_public, type_of_kind, default_value_of}
use Rattle.schema_version.specs.Moves.{IsFairKind}
use Rattle.schema_version.specs.Sound.{IsSoundVersion}
use Rattle.element_state.specs.lemmas.Apart.{false_true, none_some, some_one}
use Rattle.element_state.specs.Elements.{Meaning, IsFromScratch, Subset, Exact, Demand}
use Rattle.element_state.specs.Tables.{within}
use Rattle.element_state.specs.Index.{value_in, indexed}
use Rattle.element_state.specs.Column.{coded}
use Rattle.element_state.specs.Exists.{exists_meaning}
use Rattle.element_state.specs.Sources.{source_in, default_value_at, default_or_null}
use Rattle.element_state.specs.Kinds.{kind_meaning}
use Rattle.element_state.specs.Consistent.{DemandOf, IsLawfulRow, AreLawfulRows}
use Rattle.element_state.specs.Visible.{default_of, default_in, default_at, own_or, visible_value, with_default, with_defaults, visible_cells, as_visible, visible_rows, VisibleAgree}
use Rattle.element_state.proofs.Schemas.{not_found, first, second, found}

pub own_or_none : (o : Option Value) → own_or o None ≡ o
own_or_none None = refl
own_or_none (Some v) = refl

-- ---- one row

default_apart : (m : ℕ) (d : Option Value) (cells : Cells) (n : ℕ) → n ≢ m → get (with_default m d cells) n ≡ get cells n
default_apart m None cells n ne = refl
default_apart m (Some v) cells n ne = elim (is_some (get cells m)) as (λ b. get (cond b cells (insert cells m v)) n ≡ get cells n) [
  | true ↦ refl
  | false ↦ get-insert nat_cmp_total cells m v n ∙ ap (λ b. cond b (Some v) (get cells n)) (apart nat_cmp_total nat_cmp-IsAntisymmetric n m ne)
]

default_here : (m : ℕ) (d : Option Value) (cells : Cells) → get (with_default m d cells) m ≡ own_or (get cells m) d
default_here m None cells = sym (own_or_none (get cells m))
default_here m (Some v) cells = by (get cells m) refl
  where
    by : (o : Option Value) → get cells m ≡ o → get (cond (is_some o) cells (insert cells m v)) m ≡ own_or o (Some v)
    by None e = get-insert nat_cmp_total cells m v m ∙ ap (λ b. cond b (Some v) (get cells m)) (tied nat_cmp_total nat_cmp-IsAntisymmetric m)
    by (Some w) e = e

later : (n : ℕ) (e : ℕ × ElementDef) (es : List (ℕ × ElementDef)) (o : Option ElementDef) → n ≢ e.0 → find nat_cmp n (e ∷ es) ≡ o → find nat_cmp n es ≡ o
later n e es o ne is = sym (ap (λ t. cond t (Some e.1) (find nat_cmp n es)) (apart nat_cmp_total nat_cmp-IsAntisymmetric n e.0 ne)) ∙ is

others : (table n : ℕ) (es : List (ℕ × ElementDef)) (cells : Cells) → find nat_cmp n es ≡ None → get (with_defaults table es cells) n ≡ get cells n
others table n [] cells none = refl
others table n (e ∷ es) cells none = elim (same_or_apart nat_cmp_total nat_cmp-IsAntisymmetric n e.0) [
  | inl s ↦ absurd (found n e es s none)
  | inr ne ↦ others table n es (with_default e.0 (default_in table e.1) cells) (later n e es None ne none) ∙ default_apart e.0 (default_in table e.1) cells n ne
]

its_own : (table n : ℕ) (d : ElementDef) (es : List (ℕ × ElementDef)) (cells : Cells) → T (is_sorted nat_cmp es) → find nat_cmp n es ≡ Some d → get (with_defaults table es cells) n ≡ own_or (get cells n) (default_in table d)
its_own table n d [] cells sorted is = absurd (none_some d is)
its_own table n d (e ∷ es) cells sorted is = elim (same_or_apart nat_cmp_total nat_cmp-IsAntisymmetric n e.0) [
  | inl s ↦
      let here : find nat_cmp n (e ∷ es) ≡ Some e.1 = ap (λ t. cond t (Some e.1) (find nat_cmp n es)) (ap (λ y. eq_by_cmp nat_cmp n y) (sym s) ∙ tied nat_cmp_total nat_cmp-IsAntisymmetric n) in
      let same : e.1 ≡ d = some_one e.1 d (sym here ∙ is) in
      others table n es (with_default e.0 (default_in table e.1) cells) (ap (λ y. find nat_cmp y es) s ∙ not_found e.0 es (first _ _ sorted))
      ∙ ap (get (with_default e.0 (default_in table e.1) cells)) s
      ∙ default_here e.0 (default_in table e.1) cells
      ∙ ap₂ (λ y x. own_or (get cells y) (default_in table x)) (sym s) same
  | inr ne ↦
      its_own table n d es (with_default e.0 (default_in table e.1) cells) (second _ _ sorted) (later n e es (Some d) ne is)
      ∙ ap (λ o. own_or o (default_in table d)) (default_apart e.0 (default_in table e.1) cells n ne)
]

-- what is visible in a column is the row's own value, or the default
pub visible_get : (version : Version) (table : ℕ) (cells : Cells) (n : ℕ) → get (visible_cells version table cells) n ≡ visible_value version table n (get cells n)
visible_get version table cells n = by (find nat_cmp n (entries version.elements)) refl
  where
    by : (o : Option ElementDef) → find nat_cmp n (entries version.elements) ≡ o → get (visible_cells version table cells) n ≡ visible_value version table n (get cells n)
    by None none = others table n (entries version.elements) cells none ∙ sym (ap (λ o. own_or (get cells n) (default_at table o)) (get-entries version.elements n ∙ none) ∙ own_or_none (get cells n))
    by (Some d) is = its_own table n d (entries version.elements) cells (entries_sorted version.elements) is ∙ sym (ap (λ o. own_or (get cells n) (default_at table o)) (get-entries version.elements n ∙ is))

-- ---- all rows

below_visible : (version : Version) (k : RowKey) (es : List (RowKey × Cells)) → below_all row_cmp k (each (as_visible version) es) ≡ below_all row_cmp k es
below_visible version k [] = refl
below_visible version k (e ∷ es) = ap (λ b. is_lt (row_cmp k e.0) && b) (below_visible version k es)

sorted_visible : (version : Version) (es : List (RowKey × Cells)) → is_sorted row_cmp (each (as_visible version) es) ≡ is_sorted row_cmp es
sorted_visible version [] = refl
sorted_visible version (e ∷ es) = ap₂ (λ a b. a && b) (below_visible version e.0 es) (sorted_visible version es)

visible_sorted : (version : Version) (rows : Rows) → T (is_sorted row_cmp (each (as_visible version) (entries rows)))
visible_sorted version rows = subst T (sym (sorted_visible version (entries rows))) (entries_sorted rows)

-- in the order of their keys, as the rows
pub visible_entries : (version : Version) (rows : Rows) → entries (visible_rows version rows) ≡ each (as_visible version) (entries rows)
visible_entries version rows = entries-from_sorted row_cmp (each (as_visible version) (entries rows)) (visible_sorted version rows)

find_visible : (version : Version) (k : RowKey) (es : List (RowKey × Cells)) → find row_cmp k (each (as_visible version) es) ≡ option_map (visible_cells version k.0) (find row_cmp k es)
find_visible version k [] = refl
find_visible version k (e ∷ es) = elim (same_or_apart row_cmp_total row_cmp-IsAntisymmetric k e.0) [
  | inl s ↦
      let equal : eq_by_cmp row_cmp k e.0 ≡ true = ap (λ y. eq_by_cmp row_cmp k y) (sym s) ∙ tied row_cmp_total row_cmp-IsAntisymmetric k in
      ap (λ b. cond b (Some (visible_cells version e.0.0 e.1)) (find row_cmp k (each (as_visible version) es))) equal
      ∙ ap (λ (y : RowKey). Some (visible_cells version y.0 e.1)) (sym s)
      ∙ sym (ap (λ b. option_map (visible_cells version k.0) (cond b (Some e.1) (find row_cmp k es))) equal)
  | inr ne ↦
      let unequal : eq_by_cmp row_cmp k e.0 ≡ false = apart row_cmp_total row_cmp-IsAntisymmetric k e.0 ne in
      ap (λ b. cond b (Some (visible_cells version e.0.0 e.1)) (find row_cmp k (each (as_visible version) es))) unequal
      ∙ find_visible version k es
      ∙ sym (ap (λ b. option_map (visible_cells version k.0) (cond b (Some e.1) (find row_cmp k es))) unequal)
]

-- the row of a key, as it is visible
pub visible_row : (version : Version) (rows : Rows) (k : RowKey) → get (visible_rows version rows) k ≡ option_map (visible_cells version k.0) (get rows k)
visible_row version rows k =
    get-from_sorted row_cmp (each (as_visible version) (entries rows)) k (visible_sorted version rows) ∙ find_visible version k (entries rows) ∙ ap (option_map (visible_cells version k.0)) (sym (get-entries rows k))

-- a row that is visible is that of a row
pub visible_from : (version : Version) (rows : Rows) (k : RowKey) (s : Cells) → get (visible_rows version rows) k ≡ Some s → (r : Cells) × (get rows k ≡ Some r) × (s ≡ visible_cells version k.0 r)
visible_from version rows k s at = by (get rows k) refl
  where
    by : (o : Option Cells) → get rows k ≡ o → (r : Cells) × (get rows k ≡ Some r) × (s ≡ visible_cells version k.0 r)
    by None none = absurd (none_some s (sym (ap (option_map (visible_cells version k.0)) none) ∙ sym (visible_row version rows k) ∙ at))
    by (Some r) is = (r, is, some_one s (visible_cells version k.0 r) (sym at ∙ visible_row version rows k ∙ ap (option_map (visible_cells version k.0)) is))

pub visible_there : (version : Version) (rows : Rows) (k : RowKey) (r : Cells) → get rows k ≡ Some r → get (visible_rows version rows) k ≡ Some (visible_cells version k.0 r)
visible_there version rows k r at = visible_row version rows k ∙ ap (option_map (visible_cells version k.0)) at

-- ---- the pairs of an element are those of the rows that are visible

-- the element has the same pair for a row and for what is visible of it
pub record IsBlind (version : Version) (m : Meaning) : Type 0 where
  pub key : (k : RowKey) (r : Cells) → m.pair_key k (visible_cells version k.0 r) ≡ m.pair_key k r
  pub value : (k : RowKey) (r : Cells) → m.pair_value k (visible_cells version k.0 r) ≡ m.pair_value k r

blind_within : (version : Version) (table : ℕ) (m : Meaning) → IsBlind version m → IsBlind version (within table m)
blind_within version table m blind = record { key = blind.key; value = λ k r. ap (λ v. cond (eqb k.0 table) v None) (blind.value k r) }

module _ (version : Version) (m : Meaning) (blind : IsBlind version m) (P : Pairs) (R : Rows) where
  subset_visible : Subset m P R → Subset m P (visible_rows version R)
  subset_visible sub x v own at =
      let s : IsFromScratch m R x v = sub x v own at in
      record { key = s.key; cells = visible_cells version s.key.0 s.cells; there = visible_there version R s.key s.cells s.there; key_is = blind.key s.key s.cells ∙ s.key_is; value_is = blind.value s.key s.cells ∙ s.value_is }

  exact_visible : Exact m P R → Exact m P (visible_rows version R)
  exact_visible exact = record {
    subset = subset_visible exact.subset;
    covered = λ k s v at val.
        let r = visible_from version R k s at in
        let same : m.pair_value k r.0 ≡ Some v = sym (blind.value k r.0) ∙ ap (m.pair_value k) (sym r.2) ∙ val in
        ap (λ y. get P (m.pair_key k y)) r.2 ∙ ap (get P) (blind.key k r.0) ∙ exact.covered k r.0 v r.1 same;
  }

  demand_visible : (q : ElementState) → Demand m q P R → Demand m q P (visible_rows version R)
  demand_visible Absent d = d
  demand_visible DeleteOnly d = subset_visible d
  demand_visible WriteOnly d = subset_visible d
  demand_visible Public d = exact_visible d

-- a default that is visible is what stands for a missing value
default_stands : (table : ℕ) (o : Option ElementDef) (v : Value) → default_at table o ≡ Some v → default_or_null o ≡ v
default_stands table None v e = absurd (none_some v e)
default_stands table (Some element) v e = by ((element.table == table) && is_public element.state) element.kind e
  where
    by : (b : Bool) (k : Kind) → cond b (default_of k) None ≡ Some v → default_value_of k ≡ v
    by true (Index columns) e = absurd (none_some v e)
    by true (Optional type) e = absurd (none_some v e)
    by true (Required type fallback) e = some_one fallback v e
    by false k e = absurd (none_some v e)

-- what stands for a missing value stands for one that isn't seen too
pub stands_for : (version : Version) (table c : ℕ) (own : Option Value) → unwrap_or (visible_value version table c own) (default_value_at version c) ≡ unwrap_or own (default_value_at version c)
stands_for version table c own = by own (default_at table (element_at version c)) refl
  where
    by : (o d : Option Value) → default_at table (element_at version c) ≡ d → unwrap_or (own_or o d) (default_value_at version c) ≡ unwrap_or o (default_value_at version c)
    by (Some v) d e = refl
    by None None e = refl
    by None (Some v) e = sym (default_stands table (element_at version c) v e)

value_visible : (version : Version) (table : ℕ) (r : Cells) (c : ℕ) → value_in (visible_cells version table r) (c, default_value_at version c) ≡ value_in r (c, default_value_at version c)
value_visible version table r c = ap (λ o. unwrap_or o (default_value_at version c)) (visible_get version table r c) ∙ stands_for version table c (get r c)

indexed_visible : (version : Version) (table : ℕ) (r : Cells) (cs : List ℕ) → indexed (each (λ c. (c, default_value_at version c)) cs) (visible_cells version table r) ≡ indexed (each (λ c. (c, default_value_at version c)) cs) r
indexed_visible version table r [] = refl
indexed_visible version table r (c ∷ cs) = ap₂ (λ (v : Value) (vs : List Value). v ∷ vs) (value_visible version table r c) (indexed_visible version table r cs)

-- in an optional column the row's own value is visible
pub optional_visible : (version : Version) (n : ℕ) (element : ElementDef) (type : ColumnType) (table : ℕ) (own : Option Value) → element_at version n ≡ Some element → element.kind ≡ Optional type → visible_value version table n own ≡ own
optional_visible version n element type table own at is = ap (own_or own) none ∙ own_or_none own
  where
    no_default : (b : Bool) → cond b (default_of (Optional type)) None ≡ None
    no_default true = refl
    no_default false = refl

    none : default_at table (element_at version n) ≡ None
    none = ap (default_at table) at ∙ ap (λ y. cond ((element.table == table) && is_public element.state) (default_of y) None) is ∙ no_default ((element.table == table) && is_public element.state)

-- the default of a required column is what stands for a missing value
pub required_stands_for : (version : Version) (n : ℕ) (element : ElementDef) (type : ColumnType) (fallback : Value) → element_at version n ≡ Some element → element.kind ≡ Required type fallback → default_value_at version n ≡ fallback
required_stands_for version n element type fallback at is = ap default_or_null at ∙ ap default_value_of is

-- so its value is that of what is visible
pub required_visible : (version : Version) (n : ℕ) (element : ElementDef) (type : ColumnType) (fallback : Value) (table : ℕ) (own : Option Value) → element_at version n ≡ Some element → element.kind ≡ Required type fallback
    → unwrap_or (visible_value version table n own) fallback ≡ unwrap_or own fallback
required_visible version n element type fallback table own at is =
    subst (λ (v : Value). unwrap_or (visible_value version table n own) v ≡ unwrap_or own v) (required_stands_for version n element type fallback at is) (stands_for version table n own)

-- no kind of element tells them apart
blind_kind : (version : Version) (n : ℕ) (element : ElementDef) → element_at version n ≡ Some element → (k : Kind) → element.kind ≡ k → IsBlind version (kind_meaning n (source_in version k))
blind_kind version n element at (Index columns) is = record {
  key = λ k r. ap (λ vs. index_code n (vs ++ k.1)) (indexed_visible version k.0 r columns);
  value = λ k r. refl;
}
blind_kind version n element at (Optional type) is = record {
  key = λ k r. refl;
  value = λ k r. ap coded (visible_get version k.0 r n ∙ optional_visible version n element type k.0 (get r n) at is);
}
blind_kind version n element at (Required type fallback) is = record {
  key = λ k r. refl;
  value = λ k r. ap (λ v. Some (code v)) (ap (λ o. unwrap_or o fallback) (visible_get version k.0 r n) ∙ required_visible version n element type fallback k.0 (get r n) at is);
}

-- ---- the rows that are visible are lawful

pub short_typed : (type : ColumnType) (v : Value) → has_type type v ≡ true → IsShort v × (v ≢ Null)
short_typed type Null e = absurd (false_true e)
short_typed type (Int n) e = (tt, λ is. cc)
short_typed kind.Int (Text t) e = absurd (false_true e)
short_typed kind.Text (Text t) e = (short (leb_tells (length t) 1024), λ is. cc)
  where
    short : ((nat_le (length t) 1024 ≡ true) × (length t ≤ 1024)) ⊎ ((nat_le (length t) 1024 ≡ false) × (1024 < length t)) → length t ≤ 1024
    short (inl p) = p.1
    short (inr p) = absurd (false_true (sym p.0 ∙ e))
short_typed kind.Bool (Text t) e = absurd (false_true e)
short_typed type (Flag b) e = (tt, λ is. cc)

-- a default that is visible is a value of its column's type
pub default_typed : (version : Version) (table c : ℕ) (v : Value) → IsSoundVersion version → default_at table (element_at version c) ≡ Some v
    → ((element : ElementDef) (type : ColumnType) → element_at version c ≡ Some element → type_of_kind element.kind ≡ Some type → IsTrue (has_type type v)) × IsStorable v × (v ≢ Null)
default_typed version table c v sound e = by (element_at version c) refl
  where
    fair : (b : Bool) (k : Kind) → IsFairKind k → cond b (default_of k) None ≡ Some v → ((type : ColumnType) → type_of_kind k ≡ Some type → IsTrue (has_type type v)) × IsStorable v × (v ≢ Null)
    fair true (Index columns) f e = absurd (none_some v e)
    fair true (Optional type) f e = absurd (none_some v e)
    fair true (Required type fallback) f e =
        let same : fallback ≡ v = some_one fallback v e in
        let typed : has_type type v ≡ true = ap (has_type type) (sym same) ∙ f.0 in
        let short = short_typed type v typed in
        (λ other is. ap (λ t. has_type t v) (sym (some_one type other is)) ∙ typed, (subst IsValue same f.1, short.0), short.1)
    fair false k f e = absurd (none_some v e)

    by : (o : Option ElementDef) → element_at version c ≡ o
        → ((element : ElementDef) (type : ColumnType) → element_at version c ≡ Some element → type_of_kind element.kind ≡ Some type → IsTrue (has_type type v)) × IsStorable v × (v ≢ Null)
    by None is = absurd (none_some v (sym (ap (default_at table) is) ∙ e))
    by (Some d) is =
        let f = fair ((d.table == table) && is_public d.state) d.kind (sound.elements c d is).fair (sym (ap (default_at table) is) ∙ e) in
        (λ element type at typed. f.0 type (ap (λ (x : ElementDef). type_of_kind x.kind) (some_one d element (sym is ∙ at)) ∙ typed), f.1, f.2)

pub lawful_visible : (version : Version) (rows : Rows) → IsSoundVersion version → AreLawfulRows version rows → AreLawfulRows version (visible_rows version rows)
lawful_visible version rows sound lawful k s at =
    let r = visible_from version rows k s at in
    let row : IsLawfulRow version k r.0 = lawful k r.0 r.1 in
    let cells : (c : ℕ) → get s c ≡ visible_value version k.0 c (get r.0 c) = λ c. ap (λ y. get y c) r.2 ∙ visible_get version k.0 r.0 c in
    record {
      table = row.table;
      known = row.known;
      primary = row.primary;
      types = λ c element type value is typed has. types c element type value is typed (get r.0 c) refl (sym (cells c) ∙ has) row;
      values = λ c value has. values c value (get r.0 c) refl (sym (cells c) ∙ has) row;
    }
  where
    types : {r : Cells} (c : ℕ) (element : ElementDef) (type : ColumnType) (value : Value) → element_at version c ≡ Some element → type_of_kind element.kind ≡ Some type → (o : Option Value) → get r c ≡ o → own_or o (default_at k.0 (element_at version c)) ≡ Some value → IsLawfulRow version k r → IsTrue (has_type type value)
    types c element type value is typed (Some w) own e row = row.types c element type value is typed (own ∙ e)
    types c element type value is typed None own e row = (default_typed version k.0 c value sound e).0 element type is typed

    values : {r : Cells} (c : ℕ) (value : Value) (o : Option Value) → get r c ≡ o → own_or o (default_at k.0 (element_at version c)) ≡ Some value → IsLawfulRow version k r → IsStorable value × (value ≢ Null)
    values c value (Some w) own e row = row.values c value (own ∙ e)
    values c value None own e row = let d = default_typed version k.0 c value sound e in (d.1, d.2)

demand_of : (version : Version) (n : ℕ) (pairs : Pairs) (rows : Rows) (o : Option ElementDef) → element_at version n ≡ o → DemandOf version n o pairs rows → DemandOf version n o pairs (visible_rows version rows)
demand_of version n pairs rows None is d = d
demand_of version n pairs rows (Some element) is d =
    demand_visible version (within element.table (kind_meaning n (source_in version element.kind))) (blind_within version element.table _ (blind_kind version n element is element.kind refl)) pairs rows element.state d

pub visible_agree : VisibleAgree
visible_agree version rows pairs sound agrees = record {
  elements = λ n first. demand_of version n pairs rows (element_at version n) refl (agrees.elements n first);
  exists = exact_visible version exists_meaning (record { key = λ k r. refl; value = λ k r. refl }) pairs rows agrees.exists;
  forms = agrees.forms;
  lawful = lawful_visible version rows sound agrees.lawful;
}
