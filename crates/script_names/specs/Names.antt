-- Cited by the contracts of table_number, element_number, element_of, resolved_all and 1 more.
-- What the names of a script stand for in a version of the schema. A name that isn't found becomes number 0, which names nothing.
use Rattle.std.specs.Prelude.{ℕ, ◌+◌, List, Option, Some, None, option_map, unwrap_or, position, bytes_eq}
use Rattle.std.specs.List.{find}
use mathlib.Core.List.{map as each}
use Rattle.keycode.specs.declared.value.Value.{Value}
use Rattle.script_grammar.specs.declared.element.ElementName.{ElementName}
use Rattle.script_grammar.specs.declared.operation.Operation.{Operation}
use Rattle.script_grammar.specs.declared.operation.Operation.TheVariants as operation
use Rattle.script_grammar.specs.declared.selection.Condition.{Condition}
use Rattle.script_grammar.specs.declared.selection.Condition.TheVariants as condition
use Rattle.script_grammar.specs.declared.selection.Selection.{Selection}
use Rattle.row_query.specs.declared.query.Cond.{Cond}
use Rattle.row_query.specs.declared.query.Cond.TheVariants as cond
use Rattle.row_query.specs.declared.query.Query.{Query}
use Rattle.row_write.specs.declared.op.RowOp.{RowOp}
use Rattle.row_write.specs.declared.op.RowOp.TheVariants as row
use Rattle.schema_version.specs.declared.element.ElementDef.{ElementDef}
use Rattle.schema_version.specs.Version.{Version, Table, live, is_named, public_columns}

abbrev pub table_number : Version → List ℕ → ℕ
table_number version name = unwrap_or (option_map (λ place. place + 1) (position (λ (t : Table). bytes_eq name t.name) version.tables)) 0

abbrev pub number_or_zero : Option ElementDef → ℕ
number_or_zero None = 0
number_or_zero (Some element) = element.number

abbrev pub element_number : Version → ℕ → List ℕ → ℕ
element_number version table name = number_or_zero (find (is_named table name) (live version))

abbrev pub numbered : Version → ElementName → ℕ
numbered version element = element_number version (table_number version element.table) element.name

abbrev pub named_cell : Version → ℕ → List ℕ × Value → ℕ × Value
named_cell version table set = (element_number version table set.0, set.1)

abbrev pub named_cells : Version → ℕ → List (List ℕ × Value) → List (ℕ × Value)
named_cells version table sets = each (named_cell version table) sets

-- an operation with its names looked up
abbrev pub resolved : Version → Operation → RowOp
resolved version (operation.Insert table key sets) = row.Insert (table_number version table) key (named_cells version (table_number version table) sets)
resolved version (operation.Update table key sets) = row.Update (table_number version table) key (named_cells version (table_number version table) sets)
resolved version (operation.Delete table key) = row.Delete (table_number version table) key

abbrev pub resolved_all : Version → List Operation → List RowOp
resolved_all version operations = each (resolved version) operations

-- `*` stands for the public columns by rising number
abbrev pub column_numbers : Version → ℕ → Option (List (List ℕ)) → List ℕ
column_numbers version table None = each (λ (e : ElementDef). e.number) (public_columns version table)
column_numbers version table (Some names) = each (element_number version table) names

abbrev pub looked_up : Version → ℕ → Condition → Cond
looked_up version table (condition.Key key) = cond.Key key
looked_up version table (condition.Equal column value) = cond.Equal (element_number version table column) value
looked_up version table (condition.Between column low high) = cond.Between (element_number version table column) low high

-- a query of the table of this number
abbrev pub asked_of : Version → ℕ → Selection → Query
asked_of version table selection =
    record { table = table; columns = column_numbers version table selection.columns; conditions = each (looked_up version table) selection.conditions }

-- a selection with its names looked up
abbrev pub asked : Version → Selection → Query
asked version selection = asked_of version (table_number version selection.table) selection
