-- Cited by the contracts of Schema::shape.
-- The shape of a table as a version's public columns give it.
use Rattle.std.specs.Prelude.{ℕ, List, Option, None, ◌==◌, ◌&&◌, option_map, if◌then◌else◌}
use Rattle.std.specs.List.{filter_map}
use mathlib.Core.List.{map as each}
use Rattle.row_map.specs.declared.shape.ColumnType.{ColumnType}
use Rattle.row_map.specs.declared.shape.TableShape.{TableShape}
use Rattle.schema_version.specs.declared.element.ElementDef.{ElementDef}
use Rattle.schema_version.specs.Version.{Version, Table, table_at, live, is_public, type_of_kind}

-- the number and the type of a public column of the table
abbrev pub public_column : ℕ → ElementDef → Option (ℕ × ColumnType)
public_column table element = if (element.table == table) && is_public element.state then option_map (λ type. (element.number, type)) (type_of_kind element.kind) else None

-- of all public columns, by rising number
abbrev pub column_types : Version → ℕ → List (ℕ × ColumnType)
column_types version table = filter_map (public_column table) (live version)

abbrev pub key_types : List (List ℕ × ColumnType) → List ColumnType
key_types key = each (λ column. column.1) key

abbrev pub shape_of : Version → ℕ → Option TableShape
shape_of version number = option_map (λ (table : Table). record { number = number; key = key_types table.key; columns = column_types version number }) (table_at version number)
