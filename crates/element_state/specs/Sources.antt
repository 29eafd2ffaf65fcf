-- Cited by the contracts of AnyElement::of, AnyElement::alone.
-- What the pairs of an element are built from: its kind, in which an index knows what stands for a value that a row lacks in its columns.
use Rattle.std.specs.Prelude.{ℕ, List, Option, Some, None}
use mathlib.Core.List.{map as each}
use Rattle.keycode.specs.declared.value.Value.{Value}
use Rattle.keycode.specs.declared.value.Value.TheVariants.{Null}
use Rattle.row_map.specs.declared.shape.ColumnType.{ColumnType}
use Rattle.schema_version.specs.declared.element.Kind.{Kind}
use Rattle.schema_version.specs.declared.element.Kind.TheVariants.{Index, Optional, Required}
use Rattle.schema_version.specs.declared.element.ElementDef.{ElementDef}
use Rattle.schema_version.specs.Version.{Version, element_at, default_value_of, indexed_columns}

-- an index's columns, each with what stands for a missing value; a column's type, and of a required one its default
pub data Source : Type 0 where
  IndexOn : (columns : List (ℕ × Value)) → Source
  OptionalIn : (type : ColumnType) → Source
  RequiredIn : (type : ColumnType) (fallback : Value) → Source

-- that of a kind, if these are its columns
abbrev pub source_with : List (ℕ × Value) → Kind → Source
source_with columns (Index numbers) = IndexOn columns
source_with columns (Optional type) = OptionalIn type
source_with columns (Required type fallback) = RequiredIn type fallback

-- with what stands for a missing value in each listed column
abbrev pub source_by : (ℕ → Value) → Kind → Source
source_by default_value kind = source_with (each (λ c. (c, default_value c)) (indexed_columns kind)) kind

abbrev pub default_or_null : Option ElementDef → Value
default_or_null None = Null
default_or_null (Some element) = default_value_of element.kind

-- the default in a version for a value that a row lacks in a column: that of a required one, else Null
abbrev pub default_value_at : Version → ℕ → Value
default_value_at version column = default_or_null (element_at version column)

-- what the pairs of an element of this kind are built from in a version
abbrev pub source_in : Version → Kind → Source
source_in version kind = source_by (default_value_at version) kind

-- and where no default is asked for, since each row has its values
abbrev pub source_alone : Kind → Source
source_alone kind = source_by (λ column. Null) kind
