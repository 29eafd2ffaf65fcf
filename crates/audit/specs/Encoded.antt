-- Cited by the contracts of key_of, is_row, row_at, and by the definitions of Audit, Meaning, Met.
-- The rows that the pairs of a store encode.
use Rattle.std.specs.Prelude.{ℕ, ◌==◌, Bool, true, false, ◌&&◌, List, Option, Some, None, Result, Ok, Err, if◌then◌else◌, option_map, is_some, filter_map}
use Rattle.std.specs.FinMap as map
use Rattle.keycode.specs.declared.fault.KeyFault.{KeyFault}
use Rattle.keycode.specs.declared.value.Value.{Value}
use Rattle.row_map.specs.declared.key.KeyOf.{KeyOf}
use Rattle.row_map.specs.declared.key.KeyOf.TheVariants.{Exists}
use Rattle.row_map.specs.declared.shape.ColumnType.{ColumnType}
use Rattle.row_map.specs.declared.shape.Row.{Row}
use Rattle.row_map.specs.Cell.{typed_value}
use Rattle.row_map.specs.Keys.{row_code}
use Rattle.row_map.specs.ReadKey.{key_at}
use Rattle.row_map.specs.Rows.{Bytes, Pairs}
use Rattle.schema_version.specs.declared.element.ElementDef.{ElementDef}
use Rattle.schema_version.specs.Version.{Version, live, is_public, type_of_kind}

abbrev pub found : Result KeyOf KeyFault → Option KeyOf
found (Ok key) = Some key
found (Err fault) = None

-- what bytes are the key of, if they are a key
abbrev pub key_read : Bytes → Option KeyOf
key_read bytes = found (key_at bytes)

abbrev pub is_exists : Option KeyOf → Bool
is_exists (Some (Exists table primary)) = true
is_exists _ = false

-- whether the store has the `exists` pair of this row
abbrev pub is_row : Pairs → ℕ → List Value → Bool
is_row pairs table primary = is_exists (key_read (row_code table primary 0)) && is_some (map.get pairs (row_code table primary 0))

-- the value that a column's pair encodes, if that is just one value of the column's type
abbrev pub encoded : ColumnType → Option Bytes → Option Value
encoded type None = None
encoded type (Some bytes) = typed_value type bytes

-- the type of an element that is a public column of the table
abbrev pub public_type : ℕ → ElementDef → Option ColumnType
public_type table element = if (element.table == table) && is_public element.state then type_of_kind element.kind else None

abbrev pub cell_by : Pairs → ℕ → List Value → ℕ → Option ColumnType → Option (ℕ × Value)
cell_by pairs table primary number None = None
cell_by pairs table primary number (Some type) = option_map (λ value. (number, value)) (encoded type (map.get pairs (row_code table primary number)))

-- the cell that a row has for an element: the value of a public column of its table
abbrev pub stored_cell : Pairs → ℕ → List Value → ElementDef → Option (ℕ × Value)
stored_cell pairs table primary element = cell_by pairs table primary element.number (public_type table element)

-- the row of a primary key, with the values of its table's public columns
abbrev pub row_at : Version → Pairs → ℕ → List Value → Row
row_at version pairs table primary = record { key = primary; cells = filter_map (stored_cell pairs table primary) (live version) }
