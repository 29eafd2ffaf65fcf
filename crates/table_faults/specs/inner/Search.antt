-- Cited by private functions alone: first_fault and those that it calls.
-- The search for the first fault of tables as they are declared.
use Rattle.std.specs.Prelude.{ℕ, ◌+◌, List, [], ◌∷◌, length, Option, Some, None, option_map, ◌&&◌, not, nat_le, if◌then◌else◌}
use mathlib.Core.List.{map as each}
use Rattle.schema_version.specs.declared.table.TableDef.{TableDef}
use Rattle.schema_version.specs.Names.{is_name, is_among, max_tables, max_key_columns, max_columns, max_indexes, max_listed}
use Rattle.schema_version.specs.Declare.{names_of}
use Rattle.table_faults.specs.declared.fault.TableCause.{TableCause}
use Rattle.table_faults.specs.declared.fault.TableCause.TheVariants.{NoTable, TooManyTables, TableName, TableTwice, KeyLength, TooManyColumns, TooManyIndexes, Name, NameTwice, ListLength, ListedTwice, NotAColumn}
use Rattle.table_faults.specs.declared.fault.TableFault.{TableFault}

-- one fault, or else the next
abbrev pub or_else : {X : Type 0} → Option X → Option X → Option X
or_else None next = next
or_else (Some first) next = Some first

-- of names, from this place on: the first that is no name, or that stands again after it
abbrev pub names_cause : ℕ → List (List ℕ) → Option TableCause
names_cause place [] = None
names_cause place (name ∷ later) =
    if not (is_name name) then Some (Name place)
    else if is_among name later then Some (NameTwice place)
    else names_cause (place + 1) later

-- of the columns that an index over such columns lists, from this place on: the first that is listed again after it, or that is no such column
abbrev pub listed_cause : ℕ → ℕ → List (List ℕ) → List (List ℕ) → Option TableCause
listed_cause index place columns [] = None
listed_cause index place columns (name ∷ later) =
    if is_among name later then Some (ListedTwice index place)
    else if not (is_among name columns) then Some (NotAColumn index place)
    else listed_cause index (place + 1) columns later

-- of an index over such columns: it lists too few or too many, or one that it may not
abbrev pub index_cause : ℕ → List (List ℕ) → List (List ℕ) → Option TableCause
index_cause index columns listed =
    if not (nat_le 1 (length listed) && nat_le (length listed) max_listed) then Some (ListLength index)
    else listed_cause index 0 columns listed

-- of indexes over such columns, from this number on: that of the first with one
abbrev pub indexes_cause : ℕ → List (List ℕ) → List (List ℕ × List (List ℕ)) → Option TableCause
indexes_cause number columns [] = None
indexes_cause number columns (index ∷ later) = or_else (index_cause number columns index.1) (indexes_cause (number + 1) columns later)

-- of a table: it has too few or too many of something
abbrev pub size_cause : TableDef → Option TableCause
size_cause table =
    if not (nat_le 1 (length table.key) && nat_le (length table.key) max_key_columns) then Some KeyLength
    else if not (nat_le (length table.columns) max_columns) then Some TooManyColumns
    else if not (nat_le (length table.indexes) max_indexes) then Some TooManyIndexes
    else None

-- of a table before others of these names
abbrev pub table_cause : List (List ℕ) → TableDef → Option TableCause
table_cause later_names table =
    if not (is_name table.name) then Some TableName
    else if is_among table.name later_names then Some TableTwice
    else or_else (size_cause table)
    (or_else (names_cause 0 (names_of table))
    (indexes_cause 0 (each (λ c. c.0) table.columns) table.indexes))

-- of tables, from this number on: that of the first with one
abbrev pub tables_cause : ℕ → List TableDef → Option TableFault
tables_cause number [] = None
tables_cause number (table ∷ later) =
    or_else (option_map (λ cause. record { table = number; cause = cause }) (table_cause (each (λ (t : TableDef). t.name) later) table))
    (tables_cause (number + 1) later)

-- of the tables that are declared
abbrev pub declaration_fault : List TableDef → Option TableFault
declaration_fault tables =
    if not (nat_le 1 (length tables)) then Some (record { table = 0; cause = NoTable })
    else if not (nat_le (length tables) max_tables) then Some (record { table = max_tables; cause = TooManyTables })
    else tables_cause 0 tables
