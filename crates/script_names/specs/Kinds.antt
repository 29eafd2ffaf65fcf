-- Cited by the definitions of Changes, Moves.
-- What kind of column a script's line adds.
use Rattle.std.specs.Prelude.{Option, Some, None}
use Rattle.keycode.specs.declared.value.Value.{Value}
use Rattle.row_map.specs.declared.shape.ColumnType.{ColumnType}
use Rattle.schema_version.specs.declared.element.Kind.{Kind}
use Rattle.schema_version.specs.declared.element.Kind.TheVariants.{Optional, Required}

-- a column with a default is required, and one without is optional
abbrev pub column_kind : ColumnType → Option Value → Kind
column_kind type None = Optional type
column_kind type (Some fallback) = Required type fallback
