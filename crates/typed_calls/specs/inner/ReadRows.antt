-- Cited by private functions alone: cell_read, is_wanted, named_cell, cells_read and 2 more.
-- A row as a transaction read it.
use Rattle.std.specs.Prelude.{ℕ, List, [], ◌∷◌, Option, None, Bool, ◌&&◌, is_some, option_map, unwrap_or, if◌then◌else◌}
use Rattle.std.specs.List.{filter_map}
use Rattle.std.specs.FinMap as map
use Rattle.keycode.specs.declared.value.Value.{Value}
use Rattle.row_map.specs.declared.shape.Row.{Row}
use Rattle.row_map.specs.Cell.{value_from}
use Rattle.row_map.specs.Expect.{View}
use Rattle.row_map.specs.Keys.{row_code}
use Rattle.row_query.specs.Answer.{is_named}
use Rattle.row_query.specs.declared.query.Query.{Query}
use Rattle.schema_version.specs.declared.element.ElementDef.{ElementDef}
use Rattle.schema_version.specs.Version.{is_public_column}

-- the value of a row in a column
abbrev pub cell_read : View → ℕ → List Value → ℕ → Option Value
cell_read view table key column = value_from (unwrap_or (map.get view (row_code table key column)) None)

-- a public column that the query names
abbrev pub is_wanted : Query → ElementDef → Bool
is_wanted query element = is_public_column query.table element && is_named query.columns element.number

abbrev pub named_cell : View → Query → List Value → ElementDef → Option (ℕ × Value)
named_cell view query key element = if is_wanted query element then option_map (λ v. (element.number, v)) (cell_read view query.table key element.number) else None

abbrev pub cells_read : View → Query → List Value → List ElementDef → List (ℕ × Value)
cells_read view query key elements = filter_map (named_cell view query key) elements

abbrev pub was_there : View → ℕ → List Value → Bool
was_there view table key = is_some (unwrap_or (map.get view (row_code table key 0)) None)

-- the row, if it was there
abbrev pub rows_read : View → Query → List Value → List ElementDef → List Row
rows_read view query key elements = if was_there view query.table key then (record { key = key; cells = cells_read view query key elements }) ∷ [] else []
