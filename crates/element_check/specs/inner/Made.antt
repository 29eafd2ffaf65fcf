-- Cited by private functions alone: make, given, pair_of, lacks and 6 more.
-- The element of a check, made once for all rows.
use Rattle.std.specs.Prelude.{◌≡◌, Option, Some}
use Rattle.row_map.specs.declared.shape.Row.{Row}
use Rattle.row_map.specs.Rows.{Bytes}
use Rattle.schema_version.specs.declared.element.ElementDef.{ElementDef}
use Rattle.schema_version.specs.Version.{Version}
use Rattle.element_state.specs.Kinds.{kind_meaning, table_of_any, meaning_of_any}
use Rattle.element_state.specs.Operations.{cells_of, fill_pair}
use Rattle.element_state.specs.Sources.{source_in}
use Rattle.audit.specs.Audit.{numbered}
use Rattle.element_check.specs.declared.made.Made.{Made}

abbrev pub definition_of : Made → ElementDef
definition_of made = made.definition.now

-- the pair that a made element gives a row of its table
abbrev pub given_by : Made → Row → Option (Bytes × Bytes)
given_by made row = fill_pair (meaning_of_any made.element) (table_of_any made.element, row.key) (cells_of row)

-- the element is the live one of its number, and is made as its definition says in the version
pub record IsMade (version : Version) (made : Made) : Type 0 where
  pub live : numbered version made.definition.now.number ≡ Some made.definition.now
  pub table : table_of_any made.element ≡ made.definition.now.table
  pub meaning : meaning_of_any made.element ≡ kind_meaning made.definition.now.number (source_in version made.definition.now.kind)
