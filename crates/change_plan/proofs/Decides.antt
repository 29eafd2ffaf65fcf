-- The tests of a change decide why it can't be planned.
use Rattle.std.proofs.Common.{◌≡◌, ◌≢◌, ℕ, ◌+◌, Bool, true, false, not, ◌&&◌, ◌||◌, ◌==◌, List, length, Option, Some, None, refl, sym, subst, ◌∙◌, Contains, is_some}
use Rattle.std.specs.Prelude.{IsTrue, IsNone, bytes_eq, nat_lt, nat_le, count_by}
use Rattle.std.specs.Bool.{Decides}
use Rattle.std.specs.List.{list_any}
use Rattle.std.proofs.lemmas.Bool.Decides.{Decides-and, Decides-or, Decides-not, Decides-eqb, Decides-ltb, Decides-like}
use Rattle.std.proofs.lemmas.Slice.Eq.{bytes_eq-Decides}
use Rattle.row_map.specs.declared.shape.ColumnType.{ColumnType}
use Rattle.schema_version.specs.declared.element.ElementState.{ElementState}
use Rattle.schema_version.specs.declared.element.ElementState.TheVariants.{Absent, DeleteOnly, WriteOnly, Public}
use Rattle.schema_version.specs.declared.element.ElementDef.{ElementDef}
use Rattle.schema_version.specs.declared.element.Kind.{Kind}
use Rattle.schema_version.specs.declared.element.Kind.TheVariants.{Index, Optional, Required}
use Rattle.schema_version.specs.Names as names
use Rattle.schema_version.specs.Names.{is_name, is_name_list, max_listed, max_elements}
use Rattle.schema_version.specs.Version.{Version, Table, table_at, live, is_index, is_public, indexed_columns, IsKeyName, count_live}
use Rattle.schema_version.specs.Moves.{IsFairKind, is_distinct, max_like}
use Rattle.schema_version.specs.Defaults.{is_value}
use Rattle.row_map.specs.Shape.{has_type}
use Rattle.schema_version.specs.Checks.{has_key_column, is_fair_kind}
use Rattle.schema_version.proofs.Lists.{any_says, any_from, some_same}
use Rattle.schema_version.proofs.Live.{live_has, live_from}
use Rattle.schema_version.proofs.Decides.{word, at_most, itself, value_is}
use Rattle.change_plan.specs.declared.change.Change.{Change}
use Rattle.change_plan.specs.declared.change.Change.TheVariants.{AddIndex, DropIndex, AddColumn, DropColumn, Abandon}
use Rattle.change_plan.specs.Batches.{named, named_index, named_column, named_entering, adds, adds_column, drops, drops_index, drops_column, lists}
use Rattle.change_plan.specs.Refusals.{IsInChange, IsTaken, IsStillListed, AddsIndexOn, IsListed, adds_like, is_addition, IsOver, IsColumnList, ChangeFault}
use Rattle.change_plan.specs.inner.Checks.{lacks_column, is_taken, is_in_change, still_lists, adds_index_on, is_listed, is_over, change_check}
use Rattle.change_plan.proofs.Chain.{Says, chain_says}

never : Decides false ⊥
never = (λ e. cc, λ p. absurd p)

is_false : (b : Bool) → Decides (not b) (b ≡ false)
is_false true = (λ e. cc, λ e. cc)
is_false false = (λ e. refl, λ e. refl)

-- one of a list has what its test decides
any : {X : Type 0} (test : X → Bool) (P : X → Type 0) (xs : List X) → ((x : X) → Decides (test x) (P x)) → Decides (list_any test xs) ((x : X) × Contains xs x × P x)
any test P xs d = (
  λ e. (let r = any_says test xs e in (r.0, r.1, (d r.0).0 r.2)),
  λ (x, has, p). any_from test xs x has ((d x).1 p),
)

not_public : (s : ElementState) → Decides (not (is_public s)) (s ≢ Public)
not_public Public = (λ e. cc, λ h. absurd (h refl))
not_public Absent = (λ e p. cc, λ h. refl)
not_public DeleteOnly = (λ e p. cc, λ h. refl)
not_public WriteOnly = (λ e p. cc, λ h. refl)

in_change : (o : Option ElementDef) → Decides (is_in_change o) (IsInChange o)
in_change None = never
in_change (Some element) = not_public element.state

-- ---- names

key_taken : (v : Version) (n : ℕ) (name : List ℕ) → Decides (has_key_column (table_at v n) name) (IsKeyName v n name)
key_taken v n name = by (table_at v n) refl
  where
    by : (o : Option Table) → table_at v n ≡ o → Decides (has_key_column o name) (IsKeyName v n name)
    by None is = (λ e. cc, λ (t, type, at, there). let wrong : None ≡ Some t = sym is ∙ at in cc)
    by (Some t) is = (
      λ e. (let r = any_says (λ (c : List ℕ × ColumnType). bytes_eq c.0 name) t.key e in (t, r.0.1, is, subst (Contains t.key) (λ i. ((bytes_eq-Decides r.0.0 name).0 r.2 i, r.0.1)) r.1)),
      λ (u, type, at, there). any_from (λ (c : List ℕ × ColumnType). bytes_eq c.0 name) t.key (name, type) (subst (λ (x : Table). Contains x.key (name, type)) (some_same (sym at ∙ is)) there) ((bytes_eq-Decides name name).1 refl),
    )

taken : (old : Version) (earlier : List Change) (table : ℕ) (name : List ℕ) → Decides (is_taken old earlier table name) (IsTaken old earlier table name)
taken old earlier table name =
    Decides-or (has_key_column (table_at old table) name) (is_some (named old table name) || list_any (adds table name) earlier) (key_taken old table name)
    (Decides-or (is_some (named old table name)) (list_any (adds table name) earlier) (itself (is_some (named old table name))) (itself (list_any (adds table name) earlier)))

-- a column that there isn't
lacking : (old : Version) (all : List Change) (table : ℕ) (columns : List (List ℕ))
    → Decides (list_any (lacks_column old all table) columns) ((column : List ℕ) × Contains columns column × IsNone (named_column old table column) × (list_any (adds_column table column) all ≡ false))
lacking old all table columns =
    Decides-like (list_any (lacks_column old all table) columns) (λ (column, has, (none, not_added)). (column, has, none, not_added)) (λ (column, has, none, not_added). (column, has, (none, not_added)))
    (any (lacks_column old all table) (λ column. IsNone (named_column old table column) × (list_any (adds_column table column) all ≡ false)) columns
    (λ column. Decides-and (not (is_some (named_column old table column))) (not (list_any (adds_column table column) all)) (is_false (is_some (named_column old table column))) (is_false (list_any (adds_column table column) all))))

-- ---- limits

column_list : (columns : List (List ℕ)) → Decides (is_name_list columns) (IsColumnList columns)
column_list columns =
    Decides-like (is_name_list columns) (λ (some, (few, distinct)). (some, few, distinct)) (λ (some, few, distinct). (some, (few, distinct)))
    (Decides-and (nat_le 1 (length columns)) (nat_le (length columns) max_listed && names.is_distinct columns) (at_most 1 (length columns))
    (Decides-and (nat_le (length columns) max_listed) (names.is_distinct columns) (at_most (length columns) max_listed) (itself (names.is_distinct columns))))

pub fair_kind : (kind : Kind) → Decides (is_fair_kind kind) (IsFairKind kind)
fair_kind (Index columns) =
    Decides-like (nat_le 1 (length columns) && (nat_le (length columns) max_listed && is_distinct columns))
    (λ (some, (few, distinct)). (some, few, distinct)) (λ (some, few, distinct). (some, (few, distinct)))
    (Decides-and (nat_le 1 (length columns)) (nat_le (length columns) max_listed && is_distinct columns) (at_most 1 (length columns))
    (Decides-and (nat_le (length columns) max_listed) (is_distinct columns) (at_most (length columns) max_listed) (itself (is_distinct columns))))
fair_kind (Optional type) = (λ e. tt, λ h. refl)
fair_kind (Required type fallback) = Decides-and (has_type type fallback) (is_value fallback) (itself (has_type type fallback)) (value_is fallback)

over : (old : Version) (all : List Change) (table : ℕ) (index : Bool) → Decides (is_over old all table index) (IsOver old all table index)
over old all table index =
    let most = count_live old table index + count_by (adds_like table index) all in
    let ever = old.next + count_by is_addition all in
    Decides-or (nat_lt (max_like index) most) (nat_lt (max_elements + 1) ever) (Decides-ltb (max_like index) most) (Decides-ltb (max_elements + 1) ever)

-- ---- indexes on a column

listing : (column : ℕ) (index : ElementDef) → Decides (lists column index) (Contains (indexed_columns index.kind) column)
listing column index = (
  λ p. (let r = any_says (λ other. other == column) (indexed_columns index.kind) p in subst (Contains (indexed_columns index.kind)) ((Decides-eqb r.0 column).0 r.2) r.1),
  λ there. any_from (λ other. other == column) (indexed_columns index.kind) column there ((Decides-eqb column column).1 refl),
)

still : (old : Version) (all : List Change) (column : ElementDef) → Decides (list_any (still_lists all column.number) (live old)) (IsStillListed old all column)
still old all column =
    Decides-like (list_any (still_lists all column.number) (live old))
    (λ (index, has, (there, kept)). (let at = live_from old index has in (at.0, index, at.1, there, kept)))
    (λ (number, index, at, there, kept). (index, live_has old number index at, (there, kept)))
    (any (still_lists all column.number) (λ index. Contains (indexed_columns index.kind) column.number × (list_any (drops_index index.table index.name) all ≡ false)) (live old)
    (λ index. Decides-and (lists column.number index) (not (list_any (drops_index index.table index.name) all)) (listing column.number index) (is_false (list_any (drops_index index.table index.name) all))))

adds_on : (table : ℕ) (name : List ℕ) (change : Change) → Decides (adds_index_on table name change) (AddsIndexOn table name change)
adds_on table name (AddIndex other own columns) = Decides-and (other == table) (list_any (λ column. bytes_eq column name) columns) (Decides-eqb other table) (among columns)
  where
    among : (columns : List (List ℕ)) → Decides (list_any (λ column. bytes_eq column name) columns) (Contains columns name)
    among columns = (
      λ p. (let r = any_says (λ column. bytes_eq column name) columns p in subst (Contains columns) ((bytes_eq-Decides r.0 name).0 r.2) r.1),
      λ there. any_from (λ column. bytes_eq column name) columns name there ((bytes_eq-Decides name name).1 refl),
    )
adds_on table name change = never

on_column : (old : Version) (all : List Change) (table : ℕ) (name : List ℕ) (o : Option ElementDef) → Decides (is_listed old all table name o) (IsListed old all table name o)
on_column old all table name None = never
on_column old all table name (Some column) =
    Decides-or (list_any (still_lists all column.number) (live old)) (list_any (adds_index_on table name) all) (still old all column)
    (any (adds_index_on table name) (AddsIndexOn table name) all (adds_on table name))

-- ---- a whole change

pub change_says : (old : Version) (all earlier : List Change) (change : Change) → Says (ChangeFault old all earlier change) (change_check old all earlier change)
change_says old all earlier (AddIndex table name columns) =
    chain_says (ChangeFault old all earlier (AddIndex table name columns)) (not (is_some (table_at old table)) || list_any (lacks_column old all table) columns) (is_taken old earlier table name)
    (list_any (λ column. list_any (drops_column old table column) all) columns) (list_any (λ column. is_in_change (named_column old table column)) columns) (not (is_name name) || (not (is_name_list columns) || is_over old all table true))
    (record {
      unknown = Decides-or (not (is_some (table_at old table))) (list_any (lacks_column old all table) columns) (is_false (is_some (table_at old table))) (lacking old all table columns);
      taken = taken old earlier table name;
      indexed = any (λ column. list_any (drops_column old table column) all) (λ column. IsTrue (list_any (drops_column old table column) all)) columns (λ column. itself (list_any (drops_column old table column) all));
      moving = any (λ column. is_in_change (named_column old table column)) (λ column. IsInChange (named_column old table column)) columns (λ column. in_change (named_column old table column));
      over = Decides-or (not (is_name name)) (not (is_name_list columns) || is_over old all table true) (Decides-not (is_name name) (word name))
          (Decides-or (not (is_name_list columns)) (is_over old all table true) (Decides-not (is_name_list columns) (column_list columns)) (over old all table true));
      memory = λ h. h;
    })
change_says old all earlier (DropIndex table name) =
    chain_says (ChangeFault old all earlier (DropIndex table name)) (not (is_some (named_index old table name)) || list_any (drops table name) earlier) false false (is_in_change (named_index old table name)) false
    (record {
      unknown = Decides-or (not (is_some (named_index old table name))) (list_any (drops table name) earlier) (is_false (is_some (named_index old table name))) (itself (list_any (drops table name) earlier));
      taken = never;
      indexed = never;
      moving = in_change (named_index old table name);
      over = never;
      memory = λ h. h;
    })
change_says old all earlier (AddColumn table name kind) =
    chain_says (ChangeFault old all earlier (AddColumn table name kind)) (not (is_some (table_at old table)) || is_index kind) (is_taken old earlier table name) false false
    (not (is_name name) || (not (is_fair_kind kind) || is_over old all table false))
    (record {
      unknown = Decides-or (not (is_some (table_at old table))) (is_index kind) (is_false (is_some (table_at old table))) (itself (is_index kind));
      taken = taken old earlier table name;
      indexed = never;
      moving = never;
      over = Decides-or (not (is_name name)) (not (is_fair_kind kind) || is_over old all table false) (Decides-not (is_name name) (word name))
          (Decides-or (not (is_fair_kind kind)) (is_over old all table false) (Decides-not (is_fair_kind kind) (fair_kind kind)) (over old all table false));
      memory = λ h. h;
    })
change_says old all earlier (DropColumn table name) =
    chain_says (ChangeFault old all earlier (DropColumn table name)) (not (is_some (named_column old table name)) || list_any (drops table name) earlier) false (is_listed old all table name (named_column old table name)) (is_in_change (named_column old table name)) false
    (record {
      unknown = Decides-or (not (is_some (named_column old table name))) (list_any (drops table name) earlier) (is_false (is_some (named_column old table name))) (itself (list_any (drops table name) earlier));
      taken = never;
      indexed = on_column old all table name (named_column old table name);
      moving = in_change (named_column old table name);
      over = never;
      memory = λ h. h;
    })
change_says old all earlier (Abandon table name) =
    chain_says (ChangeFault old all earlier (Abandon table name)) (not (is_some (named_entering old table name)) || list_any (drops table name) earlier) false (is_listed old all table name (named_column old table name)) false false
    (record {
      unknown = Decides-or (not (is_some (named_entering old table name))) (list_any (drops table name) earlier) (is_false (is_some (named_entering old table name))) (itself (list_any (drops table name) earlier));
      taken = never;
      indexed = on_column old all table name (named_column old table name);
      moving = never;
      over = never;
      memory = λ h. h;
    })
