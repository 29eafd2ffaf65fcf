-- Cited by private functions alone: find_element, is_column, has_plain_reason, count_at and 7 more.
-- The elements of a version, made once for all rows.
use Rattle.std.specs.Prelude.{◌≡◌, List, Option, option_map}
use Rattle.std.specs.List.{AllByRecursion}
use mathlib.Core.List.{map as each}
use Rattle.row_map.specs.declared.shape.Row.{Row}
use Rattle.row_map.specs.Rows.{Bytes}
use Rattle.schema_version.specs.declared.element.ElementDef.{ElementDef}
use Rattle.schema_version.specs.Version.{Version, live as live_of}
use Rattle.element_state.specs.Kinds.{kind_meaning, table_of_any, meaning_of_any}
use Rattle.element_state.specs.Operations.{cells_of, fill_pair}
use Rattle.element_state.specs.Sources.{source_in}
use Rattle.audit.specs.declared.wanted.Made.{Made}

abbrev pub definition_of : Made → ElementDef
definition_of made = made.definition.now

abbrev pub definition_in : Option Made → Option ElementDef
definition_in made = option_map definition_of made

-- the pair that a made element gives a row of its table
abbrev pub given_by : Made → Row → Option (Bytes × Bytes)
given_by made row = fill_pair (meaning_of_any made.element) (table_of_any made.element, row.key) (cells_of row)

-- the element is the one that its definition says in the version
pub record IsMade (version : Version) (made : Made) : Type 0 where
  pub table : table_of_any made.element ≡ made.definition.now.table
  pub meaning : meaning_of_any made.element ≡ kind_meaning made.definition.now.number (source_in version made.definition.now.kind)

-- they are the live elements of the version, in their order
pub record AreMade (version : Version) (all : List Made) : Type 0 where
  pub made : AllByRecursion (IsMade version) all
  pub live : each definition_of all ≡ live_of version
