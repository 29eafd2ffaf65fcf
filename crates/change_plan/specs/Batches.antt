-- Cited by the definitions of Checks, Refusals, Schedule.
-- What a batch of changes adds and takes out, by tables and names.
use Rattle.std.specs.Prelude.{ℕ, List, Bool, true, false, ◌&&◌, ◌==◌, not, Option, Some, None, is_some, if◌then◌else◌, bytes_eq}
use Rattle.std.specs.List.{list_any, find}
use Rattle.schema_version.specs.declared.element.Way.{Way}
use Rattle.schema_version.specs.declared.element.Way.TheVariants.{Adding, Dropping}
use Rattle.schema_version.specs.declared.element.Kind.{Kind}
use Rattle.schema_version.specs.declared.element.ElementDef.{ElementDef}
use Rattle.schema_version.specs.Version.{Version, live, is_index, is_column, is_public, is_named, indexed_columns}
use Rattle.change_plan.specs.declared.change.Change.{Change}
use Rattle.change_plan.specs.declared.change.Change.TheVariants.{AddIndex, DropIndex, AddColumn, DropColumn, Abandon}

-- the table's live element of this name
abbrev pub named : Version → ℕ → List ℕ → Option ElementDef
named version table name = find (is_named table name) (live version)

abbrev pub only_if : (Kind → Bool) → Option ElementDef → Option ElementDef
only_if test None = None
only_if test (Some element) = if test element.kind then Some element else None

abbrev pub named_index : Version → ℕ → List ℕ → Option ElementDef
named_index version table name = only_if is_index (named version table name)

abbrev pub named_column : Version → ℕ → List ℕ → Option ElementDef
named_column version table name = only_if is_column (named version table name)

abbrev pub is_adding : Way → Bool
is_adding Adding = true
is_adding Dropping = false

-- being added, and not public yet
abbrev pub is_entering : ElementDef → Bool
is_entering element = is_adding element.way && not (is_public element.state)

abbrev pub if_entering : Option ElementDef → Option ElementDef
if_entering None = None
if_entering (Some element) = if is_entering element then Some element else None

abbrev pub named_entering : Version → ℕ → List ℕ → Option ElementDef
named_entering version table name = if_entering (named version table name)

-- the live element that a change takes out
abbrev pub dropped_element : Version → Change → Option ElementDef
dropped_element version (DropIndex table name) = named_index version table name
dropped_element version (DropColumn table name) = named_column version table name
dropped_element version (Abandon table name) = named_entering version table name
dropped_element version change = None

abbrev pub is_same_name : ℕ → List ℕ → ℕ → List ℕ → Bool
is_same_name table name other own = (table == other) && bytes_eq name own

-- the table and the name that a change is of
abbrev pub place_of : Change → ℕ × List ℕ
place_of (AddIndex table name columns) = (table, name)
place_of (DropIndex table name) = (table, name)
place_of (AddColumn table name kind) = (table, name)
place_of (DropColumn table name) = (table, name)
place_of (Abandon table name) = (table, name)

-- whether a change is of the table's element of this name
abbrev pub is_of : ℕ → List ℕ → Change → Bool
is_of table name change = is_same_name table name (place_of change).0 (place_of change).1

-- whether the change adds the table's column of this name
abbrev pub adds_column : ℕ → List ℕ → Change → Bool
adds_column table name (AddColumn other own kind) = is_same_name table name other own
adds_column table name change = false

abbrev pub adds : ℕ → List ℕ → Change → Bool
adds table name (AddIndex other own columns) = is_same_name table name other own
adds table name (AddColumn other own kind) = is_same_name table name other own
adds table name change = false

-- whether the change takes an element of this name out of the table
abbrev pub drops : ℕ → List ℕ → Change → Bool
drops table name (DropIndex other own) = is_same_name table name other own
drops table name (DropColumn other own) = is_same_name table name other own
drops table name (Abandon other own) = is_same_name table name other own
drops table name change = false

-- whether the change takes the table's index of this name out; its live elements have names of their own
abbrev pub drops_index : ℕ → List ℕ → Change → Bool
drops_index table name (DropIndex other own) = is_same_name table name other own
drops_index table name (Abandon other own) = is_same_name table name other own
drops_index table name change = false

-- whether the change takes the table's column of this name out
abbrev pub drops_column : Version → ℕ → List ℕ → Change → Bool
drops_column version table name (DropColumn other own) = is_same_name table name other own
drops_column version table name (Abandon other own) = is_same_name table name other own && is_some (named_column version table name)
drops_column version table name change = false

-- whether the element is one that lists this column
abbrev pub lists : ℕ → ElementDef → Bool
lists column element = list_any (λ other. other == column) (indexed_columns element.kind)
