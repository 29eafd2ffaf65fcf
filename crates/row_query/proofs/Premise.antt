-- What a query needs of pairs that agree with a version and rows.
use Rattle.std.proofs.Common.{◌≡◌, ℕ, zero, suc, ◌+◌, ◌-◌, ◌<◌, ◌≤◌, ◌^◌, ◌==◌, length, List, [], ◌∷◌, ◌++◌, Bool, true, false, cond, eqb, eqb-true, eq-eqb, Option, Some, None, option_map, is_some, refl, sym, ap, subst, ◌∙◌, Contains, arith, ap₂, unwrap_or}
use Rattle.element_state.proofs.Visible.{visible_get, visible_from, visible_agree}
use Rattle.element_state.specs.Visible.{default_of, default_at, own_or, visible_rows}
use Rattle.element_state.specs.Sources.{source_in, default_value_at, default_or_null}
use Rattle.element_state.specs.Required.{required_meaning}
use Rattle.schema_version.proofs.Lists.{here, later}
use Rattle.keycode.specs.declared.value.Value.TheVariants.{Null}
use Rattle.std.specs.Prelude.{slice_get, if◌then◌else◌}
use Rattle.std.specs.List.{AllByRecursion}
use Rattle.std.specs.List.Sorted.{IsStrictlySortedBy}
use Rattle.std.specs.Cmp.Lexicographic.{as_long}
use Rattle.std.specs.Ordering.{nat_cmp}
use Rattle.std.specs.FinMap as map
use mathlib.Core.List.{map as each}
use Rattle.keycode.specs.declared.value.Value.{Value}
use Rattle.keycode.specs.Code.{code}
use Rattle.keycode.specs.Valid.{IsValue, IsShort, IsStorable}
use Rattle.row_map.specs.declared.shape.ColumnType.{ColumnType}
use Rattle.row_map.specs.declared.key.KeyOf.{KeyOf}
use Rattle.row_map.specs.declared.key.KeyOf.TheVariants.{Exists, Column, Index}
use Rattle.row_map.specs.Keys.{IsKey, AreKeyValues, row_code, index_code}
use Rattle.row_map.specs.Rows.{Bytes, RowKey, Cells, Rows, Pairs, value_or_null, IsStorableRow, AreStorable}
use Rattle.row_map.specs.Shape.{has_type}
use Rattle.row_map.proofs.KeyLaws.{same_key}
use Rattle.schema_version.specs.declared.element.ElementState.{ElementState}
use Rattle.schema_version.specs.declared.element.ElementState.TheVariants.{Public}
use Rattle.schema_version.specs.declared.element.Kind.{Kind}
use Rattle.schema_version.specs.declared.element.Kind.TheVariants as kind
use Rattle.schema_version.specs.declared.element.ElementDef.{ElementDef}
use Rattle.schema_version.specs.Moves.{IsFairKind}
use Rattle.schema_version.specs.Sound.{IsSoundTable, IsSoundVersion}
use Rattle.schema_version.specs.Version.{Version, Table, table_at, element_at, live, is_public, type_of_kind, default_value_of, indexed_columns, IsPublicColumn}
use Rattle.element_state.specs.lemmas.Apart.{none_some, some_one, not_none}
use Rattle.element_state.specs.Column.{column_meaning, IsLawfulColumn, coded}
use Rattle.element_state.specs.lemmas.ColumnLaws.{column_laws}
use Rattle.element_state.specs.Consistent.{IsConsistent, DemandOf, IsKeyFor, IsLawfulRow}
use Rattle.element_state.specs.lemmas.Effects.{none_where}
use Rattle.element_state.specs.Elements.{AreFormed, Demand, Exact, IsFromScratch, owner, owner_named}
use Rattle.element_state.specs.Exists.{exists_meaning}
use Rattle.element_state.specs.lemmas.ExistsLaws.{one_key}
use Rattle.element_state.specs.Index.{indexed, index_meaning, IsLawfulIndex, value_in}
use Rattle.element_state.specs.lemmas.IndexLaws.{index_is_key}
use Rattle.element_state.specs.Kinds.{kind_meaning}
use Rattle.element_state.specs.Laws.{Laws}
use Rattle.element_state.specs.Tables.{within, some_in}
use Rattle.row_query.specs.Answer.{is_named}
use Rattle.row_query.specs.inner.Checks.{public_numbers}
use Rattle.row_query.specs.Refused.{IsColumn}
use Rattle.row_query.proofs.Columns.{public_is, found_at, named_column, numbers_rise, and_true}

-- a public index has exactly one pair per row of its table, Null where the row has no value
pub record HasExactly (rows : Rows) (pairs : Pairs) (table number : ℕ) (columns : List ℕ) : Type 0 where
  pub number_fits : number < 2 ^ 32
  pub most : length columns ≤ 4
  pub each_row : (key : List Value) (cells : Cells) → map.get rows (table, key) ≡ Some cells → map.get pairs (index_code number (each (value_or_null cells) columns ++ key)) ≡ Some []
  pub only_rows : (values : List Value) (value : Bytes) → IsKey (Index number values) → map.get pairs (index_code number values) ≡ Some value
      → (key : List Value) × (cells : Cells) × (map.get rows (table, key) ≡ Some cells) × (values ≡ each (value_or_null cells) columns ++ key)

abbrev pub IsIndexed : Rows → Pairs → ElementDef → Type 0
IsIndexed rows pairs element = (columns : List ℕ) → element.kind ≡ kind.Index columns → is_public element.state ≡ true → HasExactly rows pairs element.table element.number columns

-- what a query reads agrees with the rows
pub record Reads (version : Version) (rows : Rows) (pairs : Pairs) : Type 0 where
  -- a table's columns stand by rising number
  pub rising : (table : ℕ) → IsStrictlySortedBy nat_cmp (public_numbers (live version) table)
  -- a table's number is a number of 32 bits, and its key has 1 to 4 columns
  pub tables : (number : ℕ) (table : Table) → table_at version number ≡ Some table → (number < 2 ^ 32) × (1 ≤ length table.key) × (length table.key ≤ 4)
  -- every key has one of the three forms
  pub forms : AreFormed pairs
  -- the `exists` pairs are those of the rows
  pub each_row : (table : ℕ) (key : List Value) (cells : Cells) → map.get rows (table, key) ≡ Some cells → map.get pairs (row_code table key 0) ≡ Some []
  pub only_rows : (table : ℕ) (key : List Value) (value : Bytes) → IsKey (Exists table key) → map.get pairs (row_code table key 0) ≡ Some value → is_some (map.get rows (table, key)) ≡ true
  -- a public column has in each row the pair of its value
  pub columns : (table : ℕ) (key : List Value) (cells : Cells) (column : ℕ) → map.get rows (table, key) ≡ Some cells → is_named (public_numbers (live version) table) column ≡ true → map.get pairs (row_code table key column) ≡ option_map code (map.get cells column)
  -- public indexes have their pairs
  pub indexes : (element : ElementDef) → Contains (live version) element → IsIndexed rows pairs element
  -- rows can be stored
  pub keys : (table : ℕ) (key : List Value) (cells : Cells) → map.get rows (table, key) ≡ Some cells → IsKey (Exists table key)
  pub values : (table : ℕ) (key : List Value) (cells : Cells) (column : ℕ) (value : Value) → map.get rows (table, key) ≡ Some cells → map.get cells column ≡ Some value → IsValue value × IsShort value

-- ---- tables and their keys

at_place : {A : Type 0} (P : A → Type 0) (xs : List A) (i : ℕ) (x : A) → AllByRecursion P xs → slice_get xs i ≡ Some x → P x × (i < length xs)
at_place P [] i x all at = absurd (none_some x at)
at_place P (y ∷ ys) zero x all at = (subst P (some_one y x at) all.0, omega arith)
at_place P (y ∷ ys) (suc i) x all at = let rest = at_place P ys i x all.1 at in (rest.0, omega (arith, rest.1))

table_in : (tables : List Table) (number : ℕ) (table : Table) → AllByRecursion IsSoundTable tables → (if number == 0 then None else slice_get tables (number - 1)) ≡ Some table → IsSoundTable table × (number < length tables + 1)
table_in tables number table all at = by (number == 0) at
  where
    by : (b : Bool) → (if b then None else slice_get tables (number - 1)) ≡ Some table → IsSoundTable table × (number < length tables + 1)
    by true e = absurd (none_some table e)
    by false e = let found = at_place IsSoundTable tables (number - 1) table all e in (found.0, omega (arith, found.1))

length_each : {A B : Type 0} (f : A → B) (xs : List A) → length (each f xs) ≡ length xs
length_each f [] = refl
length_each f (x ∷ xs) = ap (λ (n : ℕ). suc n) (length_each f xs)

all_map : {A : Type 0} (P Q : A → Type 0) → ((x : A) → P x → Q x) → (xs : List A) → AllByRecursion P xs → AllByRecursion Q xs
all_map P Q f [] all = tt
all_map P Q f (x ∷ xs) all = (f x all.0, all_map P Q f xs all.1)

key_values : (columns : List (List ℕ × ColumnType)) (key : List Value) → 1 ≤ length columns → length columns ≤ 4 → IsKeyFor columns key → AreKeyValues 1 4 key
key_values columns key low high k =
    let same : length columns ≡ length key = sym (length_each (λ (column : List ℕ × ColumnType). column.1) columns) ∙ as_long has_type (each (λ (column : List ℕ × ColumnType). column.1) columns) key k.0 in
    record {
      low_number = subst (λ (n : ℕ). 1 ≤ n) same low;
      high_number = subst (λ (n : ℕ). n ≤ 4) same high;
      values = all_map IsStorable IsValue (λ v s. s.0) key k.1;
      short = all_map IsStorable IsShort (λ v s. s.1) key k.1;
    }

-- an index's columns with Null for a missing value
abbrev with_nulls : List ℕ → List (ℕ × Value)
with_nulls columns = each (λ c. (c, Null)) columns

storable_nulls : (columns : List ℕ) → AllByRecursion (λ (c : ℕ × Value). IsStorable c.1) (with_nulls columns)
storable_nulls [] = tt
storable_nulls (c ∷ columns) = ((tt, tt), storable_nulls columns)

indexed_nulls : (columns : List ℕ) (cells : Cells) → indexed (with_nulls columns) cells ≡ each (value_or_null cells) columns
indexed_nulls [] cells = refl
indexed_nulls (c ∷ columns) cells = ap (λ (vs : List Value). value_or_null cells c ∷ vs) (indexed_nulls columns cells)

index_lists : (n : ℕ) (columns : List ℕ) (k : Kind) → k ≡ kind.Index columns → n ≤ 1000000 → IsFairKind k → IsLawfulIndex n (with_nulls columns)
index_lists n columns k is few list =
    let l = subst IsFairKind is list in
    let same : length (with_nulls columns) ≡ length columns = length_each (λ c. (c, Null)) columns in
    record { number = omega (arith, few); some_columns = omega (arith, same, l.0); few_columns = omega (arith, same, l.1); default_values = storable_nulls columns }

in_table : (table : ℕ) (o : Option Bytes) (v : Bytes) → o ≡ Some v → cond (eqb table table) o None ≡ Some v
in_table table o v e = ap (λ (b : Bool). cond b o None) (eq-eqb table table refl) ∙ e

abbrev values_in : KeyOf → List Value
values_in (Exists table key) = key
values_in (Column table key element) = key
values_in (Index element values) = values

-- each row has a value in each public required column of its table
abbrev IsFull : Version → Rows → Type 0
IsFull version rows = (table : ℕ) (key : List Value) (cells : Cells) (column : ℕ) → map.get rows (table, key) ≡ Some cells → own_or (map.get cells column) (default_at table (element_at version column)) ≡ map.get cells column

own_twice : (o d : Option Value) → own_or (own_or o d) d ≡ own_or o d
own_twice None None = refl
own_twice None (Some v) = refl
own_twice (Some v) d = refl

visible_full : (version : Version) (rows : Rows) → IsFull version (visible_rows version rows)
visible_full version rows table key cells column here =
    let r = visible_from version rows (table, key) cells here in
    let default : Option Value = default_at table (element_at version column) in
    let is : map.get cells column ≡ own_or (map.get r.0 column) default = ap (λ (c : Cells). map.get c column) r.2 ∙ visible_get version table r.0 column in
    ap (λ o. own_or o default) is ∙ own_twice (map.get r.0 column) default ∙ sym is

module _ (version : Version) (sound : IsSoundVersion version) (rows : Rows) (pairs : Pairs) (agree : IsConsistent version rows pairs) (full : IsFull version rows) where
  small : (number : ℕ) (table : Table) → table_at version number ≡ Some table → (number < 2 ^ 32) × (1 ≤ length table.key) × (length table.key ≤ 4)
  small number table at =
      let found = table_in version.tables number table sound.tables at in
      (omega (arith, found.1, sound.few_tables), found.0.some_key, found.0.short_key)

  held : AreStorable rows
  held key cells at =
      let row : IsLawfulRow version key cells = agree.lawful key cells at in
      let t = small key.0 row.table row.known in
      record { table = t.0; primary = key_values row.table.key key.1 t.1 t.2 row.primary; values = λ column value is. (row.values column value is).0 }

  few : (number : ℕ) (element : ElementDef) → element_at version number ≡ Some element → (1 ≤ number) × (number ≤ 1000000)
  few number element at = let e = sound.elements number element at in (e.first, omega (arith, e.given, sound.few_elements))

  -- ---- rows

  row_pair : (table : ℕ) (key : List Value) (cells : Cells) → map.get rows (table, key) ≡ Some cells → map.get pairs (row_code table key 0) ≡ Some []
  row_pair table key cells here = agree.exists.covered (table, key) cells [] here refl

  pair_row : (table : ℕ) (key : List Value) (value : Bytes) → IsKey (Exists table key) → map.get pairs (row_code table key 0) ≡ Some value → is_some (map.get rows (table, key)) ≡ true
  pair_row table key value form is =
      let own : owner (row_code table key 0) ≡ Some 0 = owner_named 0 (row_code table key 0) (record { key = Exists table key; form = form; encoded = refl; names = refl }) in
      let s : IsFromScratch exists_meaning rows (row_code table key 0) value = agree.exists.subset (row_code table key 0) value own is in
      let row : IsStorableRow s.key s.cells = held s.key s.cells s.there in
      let same : s.key ≡ (table, key) = one_key s.key (table, key) row.table row.primary form s.key_is in
      ap (λ (k : RowKey). is_some (map.get rows k)) (sym same) ∙ ap is_some s.there

  -- ---- columns

  -- what an element's state demands, in the words of what it is
  public_demand : (element : ElementDef) (table n : ℕ) (k : Kind) → element_at version n ≡ Some element → element.table ≡ table → element.kind ≡ k → element.state ≡ Public → Exact (within table (kind_meaning n (source_in version k))) pairs rows
  public_demand element table n k at home of public =
      subst (λ (t : ℕ). Exact (within t (kind_meaning n (source_in version k))) pairs rows) home
      (subst (λ (k : Kind). Exact (within element.table (kind_meaning n (source_in version k))) pairs rows) of
      (subst (λ (q : ElementState). Demand (within element.table (kind_meaning n (source_in version element.kind))) q pairs rows) public
      (subst (λ (o : Option ElementDef). DemandOf version n o pairs rows) at (agree.elements n (few n element at).0))))

  -- the default of a public required column
  default_is : (element : ElementDef) (table n : ℕ) (type : ColumnType) (fallback : Value) → element_at version n ≡ Some element → element.table ≡ table → element.kind ≡ kind.Required type fallback → element.state ≡ Public → default_at table (element_at version n) ≡ Some fallback
  default_is element table n type fallback at home of public =
      ap (default_at table) at
      ∙ ap (λ (b : Bool). cond b (default_of element.kind) None) (and_true (element.table == table) (is_public element.state) (eq-eqb element.table table home) (ap is_public public))
      ∙ ap default_of of

  -- a row has a value in a public required column
  has_value : (element : ElementDef) (table n : ℕ) (type : ColumnType) (fallback : Value) (key : List Value) (cells : Cells) → map.get rows (table, key) ≡ Some cells
      → element_at version n ≡ Some element → element.table ≡ table → element.kind ≡ kind.Required type fallback → element.state ≡ Public → own_or (map.get cells n) (Some fallback) ≡ map.get cells n
  has_value element table n type fallback key cells here at home of public =
      sym (ap (own_or (map.get cells n)) (default_is element table n type fallback at home of public)) ∙ full table key cells n here

  -- its pair holds that value
  required_pair : (table : ℕ) (key : List Value) (cells : Cells) (n : ℕ) (type kept : ColumnType) (fallback : Value) → map.get rows (table, key) ≡ Some cells → (column : IsColumn version table n type) → column.element.kind ≡ kind.Required kept fallback
      → map.get pairs (row_code table key n) ≡ option_map code (map.get cells n)
  required_pair table key cells n type kept fallback here column of =
      exact.covered (table, key) cells (code (unwrap_or (map.get cells n) fallback)) here (in_table table (Some (code (unwrap_or (map.get cells n) fallback))) (code (unwrap_or (map.get cells n) fallback)) refl)
      ∙ by (map.get cells n) (has_value column.element table n kept fallback key cells here column.known column.home of column.public)
    where
      exact : Exact (within table (required_meaning n fallback)) pairs rows
      exact = public_demand column.element table n (kind.Required kept fallback) column.known column.home of column.public

      by : (o : Option Value) → own_or o (Some fallback) ≡ o → Some (code (unwrap_or o fallback)) ≡ option_map code o
      by None e = absurd (none_some fallback (sym e))
      by (Some v) e = refl

  -- an optional column has the pair of its value, and none if the row has no value
  optional_pair : (table : ℕ) (key : List Value) (cells : Cells) (n : ℕ) (type kept : ColumnType) → map.get rows (table, key) ≡ Some cells → (column : IsColumn version table n type) → column.element.kind ≡ kind.Optional kept → map.get pairs (row_code table key n) ≡ option_map code (map.get cells n)
  optional_pair table key cells n type kept here column of = by (map.get cells n) refl
    where
      lawful : IsLawfulColumn n
      lawful = let f = few n column.element column.known in record { above = omega (arith, f.0); below = omega (arith, f.1) }

      exact : Exact (within table (column_meaning n)) pairs rows
      exact = public_demand column.element table n (kind.Optional kept) column.known column.home of column.public

      named : IsStorableRow (table, key) cells
      named = held (table, key) cells here

      m_laws : Laws (within table (column_meaning n))
      m_laws = column_laws table n lawful

      -- a pair that is there is the one that the row gives
      gives : (v : Bytes) → map.get pairs (row_code table key n) ≡ Some v → coded (map.get cells n) ≡ Some v
      gives v is =
          let own : owner (row_code table key n) ≡ Some n = owner_named n (row_code table key n) (m_laws.owned (table, key) cells named) in
          let s : IsFromScratch (within table (column_meaning n)) rows (row_code table key n) v = exact.subset (row_code table key n) v own is in
          let same : s.key ≡ (table, key) = m_laws.one_row s.key (table, key) s.cells cells (held s.key s.cells s.there) named (m_laws.served s.key s.cells v s.value_is) (eq-eqb table table refl) s.key_is in
          let row : cells ≡ s.cells = some_one cells s.cells (sym here ∙ ap (map.get rows) (sym same) ∙ s.there) in
          ap (λ (c : Cells). coded (map.get c n)) row ∙ (some_in (eqb s.key.0 table) (coded (map.get s.cells n)) v s.value_is).1

      by : (o : Option Value) → map.get cells n ≡ o → map.get pairs (row_code table key n) ≡ coded o
      by None e = none_where (map.get pairs (row_code table key n)) (λ v is. not_none v (coded (map.get cells n)) (gives v is) (ap coded e))
      by (Some v) e = exact.covered (table, key) cells (code v) here (in_table table (coded (map.get cells n)) (code v) (ap coded e))

  column_pair : (table : ℕ) (key : List Value) (cells : Cells) (n : ℕ) (type : ColumnType) → map.get rows (table, key) ≡ Some cells → IsColumn version table n type → map.get pairs (row_code table key n) ≡ option_map code (map.get cells n)
  column_pair table key cells n type here column = by column.element.kind refl column.column
    where
      by : (k : Kind) → column.element.kind ≡ k → type_of_kind k ≡ Some type → map.get pairs (row_code table key n) ≡ option_map code (map.get cells n)
      by (kind.Index columns) of e = absurd (none_some type e)
      by (kind.Optional kept) of e = optional_pair table key cells n type kept here column of
      by (kind.Required kept fallback) of e = required_pair table key cells n type kept fallback here column of

  -- ---- indexes

  -- what an index has for a public column of a row is its value, or Null: no row lacks a value for which a default stands
  value_stands : (table : ℕ) (key : List Value) (cells : Cells) (c : ℕ) → map.get rows (table, key) ≡ Some cells → IsPublicColumn version table c → value_in cells (c, default_value_at version c) ≡ value_or_null cells c
  value_stands table key cells c here (element, type, at, home, typed, public) = by element.kind refl typed
    where
      by : (k : Kind) → element.kind ≡ k → type_of_kind k ≡ Some type → value_in cells (c, default_value_at version c) ≡ value_or_null cells c
      by (kind.Index columns) of e = absurd (none_some type e)
      by (kind.Optional kept) of e = ap (λ (v : Value). unwrap_or (map.get cells c) v) (ap default_or_null at ∙ ap default_value_of of)
      by (kind.Required kept fallback) of e = there (map.get cells c) (has_value element table c kept fallback key cells here at home of public)
        where
          there : (o : Option Value) → own_or o (Some fallback) ≡ o → unwrap_or o (default_value_at version c) ≡ unwrap_or o Null
          there None e = absurd (none_some fallback (sym e))
          there (Some v) e = refl

  values_stand : (table : ℕ) (key : List Value) (cells : Cells) (columns : List ℕ) → map.get rows (table, key) ≡ Some cells → ((c : ℕ) → Contains columns c → IsPublicColumn version table c) → indexed (each (λ c. (c, default_value_at version c)) columns) cells ≡ each (value_or_null cells) columns
  values_stand table key cells [] there all = refl
  values_stand table key cells (c ∷ columns) there all =
      ap₂ (λ (v : Value) (vs : List Value). v ∷ vs) (value_stands table key cells c there (all c (here c columns))) (values_stand table key cells columns there (λ x within. all x (later c x columns within)))

  module _ (element : ElementDef) (there : Contains (live version) element) (columns : List ℕ) (of : element.kind ≡ kind.Index columns) (public : is_public element.state ≡ true) where
    at : element_at version element.number ≡ Some element
    at = found_at version sound element there

    lawful_index : IsLawfulIndex element.number (with_nulls columns)
    lawful_index = index_lists element.number columns element.kind of (few element.number element at).1 (sound.elements element.number element at).fair

    -- an index's columns with what stands for a missing value
    abbrev sources : List (ℕ × Value)
    sources = each (λ c. (c, default_value_at version c)) columns

    listed_values : (key : List Value) (cells : Cells) → map.get rows (element.table, key) ≡ Some cells → indexed sources cells ≡ each (value_or_null cells) columns
    listed_values key cells row = values_stand element.table key cells columns row (λ c within. (sound.elements element.number element at).columns c (subst (λ (k : Kind). Contains (indexed_columns k) c) (sym of) within))

    exact_index : Exact (within element.table (index_meaning element.number sources)) pairs rows
    exact_index = public_demand element element.table element.number (kind.Index columns) at refl of (public_is element.state public)

    index_pair_row : (values : List Value) (value : Bytes) → IsKey (Index element.number values) → map.get pairs (index_code element.number values) ≡ Some value
        → (key : List Value) × (cells : Cells) × (map.get rows (element.table, key) ≡ Some cells) × (values ≡ each (value_or_null cells) columns ++ key)
    index_pair_row values value form is =
        let own : owner (index_code element.number values) ≡ Some element.number =
        owner_named element.number (index_code element.number values) (record { key = Index element.number values; form = form; encoded = refl; names = refl }) in
        let s : IsFromScratch (within element.table (index_meaning element.number sources)) rows (index_code element.number values) value = exact_index.subset (index_code element.number values) value own is in
        let home : s.key.0 ≡ element.table = eqb-true s.key.0 element.table (some_in (eqb s.key.0 element.table) (Some []) value s.value_is).0 in
        let row : IsStorableRow s.key s.cells = held s.key s.cells s.there in
        let there : map.get rows (element.table, s.key.1) ≡ Some s.cells = ap (λ (t : ℕ). map.get rows (t, s.key.1)) (sym home) ∙ s.there in
        let its_key : IsKey (Index element.number (each (value_or_null s.cells) columns ++ s.key.1)) =
        subst (λ (vs : List Value). IsKey (Index element.number (vs ++ s.key.1))) (indexed_nulls columns s.cells) (index_is_key element.number (with_nulls columns) lawful_index s.key s.cells row) in
        let same : Index element.number (each (value_or_null s.cells) columns ++ s.key.1) ≡ Index element.number values =
        same_key (Index element.number (each (value_or_null s.cells) columns ++ s.key.1)) (Index element.number values) its_key form
        (ap (λ (vs : List Value). index_code element.number (vs ++ s.key.1)) (sym (listed_values s.key.1 s.cells there)) ∙ s.key_is) in (
          s.key.1,
          s.cells,
          there,
          ap values_in (sym same),
        )

    index_exact : HasExactly rows pairs element.table element.number columns
    index_exact = record {
      number_fits = lawful_index.number;
      most = subst (λ (n : ℕ). n ≤ 4) (length_each (λ c. (c, Null)) columns) lawful_index.few_columns;
      each_row = λ key cells row.
          ap (λ (vs : List Value). map.get pairs (index_code element.number (vs ++ key))) (sym (listed_values key cells row))
          ∙ exact_index.covered (element.table, key) cells [] row (in_table element.table (Some []) [] refl);
      only_rows = index_pair_row;
    }

  reads : Reads version rows pairs
  reads = record {
    rising = numbers_rise version sound;
    tables = small;
    forms = agree.forms;
    each_row = row_pair;
    only_rows = pair_row;
    columns = λ table key cells column here named. (let c = named_column version sound table column named in column_pair table key cells column c.0 here c.1);
    indexes = index_exact;
    keys = λ table key cells here. (let row = held (table, key) cells here in (row.table, row.primary));
    values = λ table key cells column value here is. ((agree.lawful (table, key) cells here).values column value is).0;
  }

-- pairs that agree with rows are read as the rows that the version sees
pub reads_from : (version : Version) → IsSoundVersion version → (rows : Rows) (pairs : Pairs) → IsConsistent version rows pairs → Reads version (visible_rows version rows) pairs
reads_from version sound rows pairs agree = reads version sound (visible_rows version rows) pairs (visible_agree version rows pairs sound agree) (visible_full version rows)
