-- Cited by private functions alone: enter_table, enter_tables, hold_tables, has_named and 16 more.
-- The tests by which declared tables are accepted.
use Rattle.std.specs.Prelude.{ℕ, List, length, Bool, ◌&&◌, not, nat_le}
use Rattle.std.specs.List.{list_all}
use mathlib.Core.List.{map as each}
use Rattle.schema_version.specs.declared.table.TableDef.{TableDef}
use Rattle.schema_version.specs.Names.{is_name, is_among, is_distinct, max_tables, max_key_columns, max_columns, max_indexes, max_listed}

abbrev pub names_in : {X : Type 0} → List (List ℕ × X) → List (List ℕ)
names_in items = each (λ i. i.0) items

-- no name of these is among those
abbrev pub are_apart : List (List ℕ) → List (List ℕ) → Bool
are_apart names others = list_all (λ name. not (is_among name others)) names

abbrev pub has_fair_sizes : TableDef → Bool
has_fair_sizes table = nat_le 1 (length table.key) && (nat_le (length table.key) max_key_columns && (nat_le (length table.columns) max_columns && nat_le (length table.indexes) max_indexes))

abbrev pub has_names : TableDef → Bool
has_names table = is_name table.name && (list_all is_name (names_in table.key) && (list_all is_name (names_in table.columns) && list_all is_name (names_in table.indexes)))

abbrev pub has_own_names : TableDef → Bool
has_own_names table = is_distinct (names_in table.key) && (is_distinct (names_in table.columns) && is_distinct (names_in table.indexes))

abbrev pub has_names_apart : TableDef → Bool
has_names_apart table =
    are_apart (names_in table.key) (names_in table.columns) && (are_apart (names_in table.key) (names_in table.indexes) && are_apart (names_in table.columns) (names_in table.indexes))

abbrev pub is_lawful_list : List (List ℕ) → List (List ℕ) → Bool
is_lawful_list columns names = nat_le 1 (length names) && (nat_le (length names) max_listed && (is_distinct names && list_all (λ name. is_among name columns) names))

abbrev pub has_lawful_lists : TableDef → Bool
has_lawful_lists table = list_all (λ index. is_lawful_list (names_in table.columns) index.1) table.indexes

abbrev pub is_lawful_table : TableDef → Bool
is_lawful_table table = has_fair_sizes table && (has_names table && (has_own_names table && (has_names_apart table && has_lawful_lists table)))

abbrev pub table_names : List TableDef → List (List ℕ)
table_names tables = each (λ (t : TableDef). t.name) tables

abbrev pub are_lawful : List TableDef → Bool
are_lawful tables = nat_le 1 (length tables) && (nat_le (length tables) max_tables && (is_distinct (table_names tables) && list_all is_lawful_table tables))
