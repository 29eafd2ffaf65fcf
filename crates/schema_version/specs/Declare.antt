-- Cited by the contracts of Schema::declared, locked_store::Brand.
-- The version that declared tables give.
use Rattle.std.specs.Prelude.{ℕ, ◌+◌, ◌≤◌, List, [], ◌∷◌, ◌++◌, length, IsTrue, if◌then◌else◌, bytes_eq}
use Rattle.std.specs.List.{list_all, AllByRecursion}
use mathlib.Core.List.{map as each}
use Rattle.std.specs.FinMap as map
use Rattle.row_map.specs.declared.shape.ColumnType.{ColumnType}
use Rattle.schema_version.specs.declared.element.ElementState.TheVariants.{Public}
use Rattle.schema_version.specs.declared.element.Kind.TheVariants.{Index, Optional}
use Rattle.schema_version.specs.declared.element.NewElement.{NewElement}
use Rattle.schema_version.specs.declared.table.TableDef.{TableDef}
use Rattle.schema_version.specs.declared.step.Move.{Move}
use Rattle.schema_version.specs.declared.step.Move.TheVariants.{Enter}
use Rattle.schema_version.specs.Version.{Version, Table}
use Rattle.schema_version.specs.Moves.{entered}
use Rattle.schema_version.specs.Names.{IsName, is_among, is_distinct, max_tables, max_key_columns, max_columns, max_indexes, max_listed}

abbrev pub table_of : TableDef → Table
table_of table = record { name = table.name; key = table.key }

-- the number of the column of this name, where the first of these columns has this number; 0 if there is none
abbrev pub number_of : ℕ → List (List ℕ × ColumnType) → List ℕ → ℕ
number_of first [] name = 0
number_of first (column ∷ columns) name = if bytes_eq column.0 name then first else number_of (first + 1) columns name

abbrev pub column_entry : ℕ → List ℕ × ColumnType → NewElement
column_entry table column = record { table = table; name = column.0; kind = Optional column.1 }

abbrev pub index_entry : ℕ → ℕ → List (List ℕ × ColumnType) → List ℕ × List (List ℕ) → NewElement
index_entry table first columns index = record { table = table; name = index.0; kind = Index (each (number_of first columns) index.1) }

abbrev pub column_move : ℕ → List ℕ × ColumnType → Move
column_move table column = Enter (column_entry table column) Public

abbrev pub index_move : ℕ → ℕ → List (List ℕ × ColumnType) → List ℕ × List (List ℕ) → Move
index_move table first columns index = Enter (index_entry table first columns index) Public

-- what enters with a table, as the moves of a step
abbrev pub moves_of : ℕ → ℕ → TableDef → List Move
moves_of number first table = each (column_move number) table.columns ++ each (index_move number first table.columns) table.indexes

abbrev pub enter_public : Version → List NewElement → Version
enter_public version [] = version
enter_public version (fresh ∷ rest) = enter_public (entered version fresh Public) rest

-- a table's columns, and then its indexes
abbrev pub entries_of : ℕ → ℕ → TableDef → List NewElement
entries_of table first def = each (column_entry table) def.columns ++ each (index_entry table first def.columns) def.indexes

-- the tables from this number on
abbrev pub enter_tables : ℕ → Version → List TableDef → Version
enter_tables number version [] = version
enter_tables number version (table ∷ tables) = enter_tables (number + 1) (enter_public version (entries_of number version.next table)) tables

-- version 1: every declared element is public, and numbers go table by table from 1
abbrev pub declared : List TableDef → Version
declared tables = enter_tables 1 (record { tables = each table_of tables; elements = map.empty; next = 1 }) tables

abbrev pub names_of : TableDef → List (List ℕ)
names_of table = each (λ c. c.0) table.key ++ each (λ c. c.0) table.columns ++ each (λ i. i.0) table.indexes

-- an index lists 1 to 4 distinct columns of its table, none of them in the key
pub record IsLawfulIndex (table : TableDef) (index : List ℕ × List (List ℕ)) : Type 0 where
  pub some_columns : 1 ≤ length index.1
  pub few_columns : length index.1 ≤ max_listed
  pub distinct : IsTrue (is_distinct index.1)
  pub known : IsTrue (list_all (λ name. is_among name (each (λ c. c.0) table.columns)) index.1)

pub record IsLawfulTable (table : TableDef) : Type 0 where
  pub name : IsName table.name
  pub some_key : 1 ≤ length table.key
  pub short_key : length table.key ≤ max_key_columns
  pub few_columns : length table.columns ≤ max_columns
  pub few_indexes : length table.indexes ≤ max_indexes
  pub names : AllByRecursion IsName (names_of table)
  pub distinct : IsTrue (is_distinct (names_of table))
  pub indexes : AllByRecursion (IsLawfulIndex table) table.indexes

-- what may be declared at opening
pub record IsLawful (tables : List TableDef) : Type 0 where
  pub some_tables : 1 ≤ length tables
  pub few_tables : length tables ≤ max_tables
  pub distinct : IsTrue (is_distinct (each (λ (t : TableDef). t.name) tables))
  pub lawful : AllByRecursion IsLawfulTable tables
