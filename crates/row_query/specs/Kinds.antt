-- Cited by the definitions of Checks, Refused.
-- Of which kind a value is.
use Rattle.std.specs.Prelude.{Bool, true, false}
use Rattle.keycode.specs.declared.value.Value.{Value}
use Rattle.keycode.specs.declared.value.Value.TheVariants.{Null, Int, Text, Bool as Flag}
use Rattle.row_map.specs.declared.shape.ColumnType.{ColumnType}
use Rattle.row_map.specs.declared.shape.ColumnType.TheVariants as kind

-- a value of the column's kind: a text of any length counts, since a query may ask for what no row can hold. Null is of no kind
abbrev pub has_kind : ColumnType → Value → Bool
has_kind type Null = false
has_kind kind.Int (Int n) = true
has_kind kind.Text (Int n) = false
has_kind kind.Bool (Int n) = false
has_kind kind.Int (Text t) = false
has_kind kind.Text (Text t) = true
has_kind kind.Bool (Text t) = false
has_kind kind.Int (Flag b) = false
has_kind kind.Text (Flag b) = false
has_kind kind.Bool (Flag b) = true
