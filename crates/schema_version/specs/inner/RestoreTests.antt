-- Cited by private functions alone: is_key, are_tables, part_at, have_room and 9 more.
-- The tests by which a version's parts are accepted.
use Rattle.std.specs.Prelude.{ℕ, ◌+◌, ◌-◌, List, [], ◌∷◌, length, Bool, true, false, ◌&&◌, not, ◌==◌, nat_lt, nat_le, count_by, Option, Some, None, is_some, slice_get, if◌then◌else◌}
use Rattle.std.specs.List.{list_any, list_all}
use Rattle.row_map.specs.declared.shape.ColumnType.{ColumnType}
use Rattle.schema_version.specs.declared.element.ElementState.{ElementState}
use Rattle.schema_version.specs.declared.element.ElementState.TheVariants.{Absent, DeleteOnly, WriteOnly, Public}
use Rattle.schema_version.specs.declared.element.Way.{Way}
use Rattle.schema_version.specs.declared.element.Way.TheVariants.{Adding, Dropping}
use Rattle.schema_version.specs.declared.element.ElementDef.{ElementDef}
use Rattle.schema_version.specs.Names.{is_name, is_among, is_distinct, max_tables, max_key_columns, max_elements}
use Rattle.schema_version.specs.Edges.{is_filled}
use Rattle.schema_version.specs.Version.{is_like, is_named, indexed_columns}
use Rattle.schema_version.specs.Moves.{max_like}
use Rattle.schema_version.specs.Checks.{is_fair_kind}
use Rattle.schema_version.specs.Columns.{column_type}
use Rattle.schema_version.specs.Restored.{Part}
use Rattle.schema_version.specs.inner.AcceptTables.{names_in}

-- ---- tables

abbrev pub is_key : List (List ℕ × ColumnType) → Bool
is_key key = nat_le 1 (length key) && (nat_le (length key) max_key_columns && (list_all is_name (names_in key) && is_distinct (names_in key)))

abbrev pub is_table : Part → Bool
is_table part = is_name part.0 && is_key part.1

abbrev pub are_tables : List Part → Bool
are_tables tables = nat_le 1 (length tables) && (nat_le (length tables) max_tables && (list_all is_table tables && is_distinct (names_in tables)))

-- the table of this number, from 1
abbrev pub part_at : List Part → ℕ → Option Part
part_at tables number = if number == 0 then None else slice_get tables (number - 1)

-- ---- elements

abbrev pub is_placed : List Part → ElementDef → Bool
is_placed tables element = is_some (part_at tables element.table)

abbrev pub is_in_room : List ElementDef → ℕ → Bool → Bool
is_in_room elements table index = nat_le (count_by (λ (e : ElementDef). (e.table == table) && is_like index e.kind) elements) (max_like index)

-- whether there are few enough columns and indexes of each of these tables, which are numbered from this number on
abbrev pub have_room : ℕ → List Part → List ElementDef → Bool
have_room number [] elements = true
have_room number (table ∷ tables) elements = is_in_room elements number false && (is_in_room elements number true && have_room (number + 1) tables elements)

-- whether the numbers rise, from this number on, and were given
abbrev pub rise_from : ℕ → ℕ → List ElementDef → Bool
rise_from least next [] = true
rise_from least next (element ∷ elements) = nat_le least element.number && (nat_lt element.number next && rise_from (element.number + 1) next elements)

-- whether an element that is live may be in the state, on the way
abbrev pub may_stand : Bool → ElementState → Way → Bool
may_stand filled Absent way = false
may_stand filled DeleteOnly way = true
may_stand filled WriteOnly way = filled
may_stand filled Public Adding = true
may_stand filled Public Dropping = false

-- whether there is the table, and no column of its key has the name
abbrev pub key_lacks : Option Part → List ℕ → Bool
key_lacks None name = false
key_lacks (Some part) name = not (is_among name (names_in part.1))

-- whether each column that the element lists is a public one of its table
abbrev pub has_columns : List ElementDef → ElementDef → Bool
has_columns elements element = list_all (λ column. is_some (column_type elements element.table column)) (indexed_columns element.kind)

abbrev pub is_fair_element : List Part → List ElementDef → ElementDef → Bool
is_fair_element tables elements element =
    may_stand (is_filled element.kind) element.state element.way && (is_name element.name && (key_lacks (part_at tables element.table) element.name && (is_fair_kind element.kind && has_columns elements element)))

-- whether no two elements of a table have one name
abbrev pub have_own_names : List ElementDef → Bool
have_own_names [] = true
have_own_names (element ∷ elements) = not (list_any (is_named element.table element.name) elements) && have_own_names elements

-- ---- whole versions

-- all that bounds how much the other tests have to do
abbrev pub are_few : List Part → List ElementDef → ℕ → Bool
are_few tables elements next =
    nat_le 1 next && (nat_le next (max_elements + 1) && (are_tables tables && (list_all (is_placed tables) elements && have_room 1 tables elements)))

abbrev pub are_fair : List Part → List ElementDef → ℕ → Bool
are_fair tables elements next = rise_from 1 next elements && (list_all (is_fair_element tables elements) elements && have_own_names elements)

abbrev pub are_parts : List Part → List ElementDef → ℕ → Bool
are_parts tables elements next = are_few tables elements next && are_fair tables elements next

-- ---- a version's tables

-- each name with its key
abbrev pub paired : List (List ℕ) → List (List (List ℕ × ColumnType)) → List Part
paired [] keys = []
paired (name ∷ names) [] = []
paired (name ∷ names) (key ∷ keys) = (name, key) ∷ paired names keys
