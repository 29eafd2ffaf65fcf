-- Cited by the contracts of public_column_type.
-- The columns that transactions read.
use Rattle.std.specs.Prelude.{ℕ, List, Bool, ◌&&◌, ◌==◌, Option, Some, None}
use Rattle.std.specs.List.{find}
use Rattle.row_map.specs.declared.shape.ColumnType.{ColumnType}
use Rattle.schema_version.specs.declared.element.ElementDef.{ElementDef}
use Rattle.schema_version.specs.Version.{is_public, type_of_kind}

-- whether this is the public element of this number in the table
abbrev pub is_shown : ℕ → ℕ → ElementDef → Bool
is_shown table number element = (element.number == number) && ((element.table == table) && is_public element.state)

abbrev pub type_in : Option ElementDef → Option ColumnType
type_in None = None
type_in (Some element) = type_of_kind element.kind

-- the type of a public column of the table
abbrev pub column_type : List ElementDef → ℕ → ℕ → Option ColumnType
column_type elements table number = type_in (find (is_shown table number) elements)
