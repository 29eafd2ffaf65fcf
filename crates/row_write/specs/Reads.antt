-- Cited by the contracts of reads_of.
-- What a transaction reads.
use Rattle.std.specs.Prelude.{◌≡◌, ℕ, List, Contains, ◌⊎◌}
use Rattle.keycode.specs.declared.value.Value.{Value}
use Rattle.row_map.specs.declared.shape.ColumnType.{ColumnType}
use Rattle.row_map.specs.Keys.{row_code}
use Rattle.row_map.specs.Rows.{Bytes}
use Rattle.schema_version.specs.declared.element.ElementState.TheVariants.{Public}
use Rattle.schema_version.specs.declared.element.ElementDef.{ElementDef}
use Rattle.schema_version.specs.Version.{Version, Table, table_at, element_at, type_of_kind}
use Rattle.std.specs.Prelude.{Some}
use Rattle.row_write.specs.declared.op.RowOp.{RowOp}
use Rattle.row_write.specs.Plain.{table_of, key_of}

-- the number names a public column of the table, of this type
pub record IsPublicColumn (version : Version) (table number : ℕ) (type : ColumnType) : Type 0 where
  pub element : ElementDef
  pub known : element_at version number ≡ Some element
  pub home : element.table ≡ table
  pub column : type_of_kind element.kind ≡ Some type
  pub public : element.state ≡ Public

-- the key of the row's `exists` pair, or of its pair for a public column
abbrev pub IsRowKey : Version → ℕ → List Value → Bytes → Type 0
IsRowKey version table primary key =
    (key ≡ row_code table primary 0) ⊎ ((number : ℕ) × (type : ColumnType) × IsPublicColumn version table number type × (key ≡ row_code table primary number))

-- the keys of each operation's row. A table that the version lacks adds nothing
abbrev pub IsRead : Version → List RowOp → Bytes → Type 0
IsRead version ops key =
    (op : RowOp) × Contains ops op × ((table : Table) × (table_at version (table_of op) ≡ Some table)) × IsRowKey version (table_of op) (key_of op) key
