-- Cited by the contracts of push_element, and by the definitions of Explain.
-- How an element of a version is named.
use Rattle.std.specs.Prelude.{ℕ, List, ◌++◌, Option, Some, None, codes}
use Rattle.std.specs.Fmt.{decimal}
use Rattle.schema_version.specs.declared.element.ElementDef.{ElementDef}
use Rattle.schema_version.specs.Version.{Version, element_at}
use Rattle.script_session.specs.PlanLines.{dotted}

-- `TABLE.NAME`, or the number where there is no element
abbrev pub name_or_number : Version → ℕ → Option ElementDef → List ℕ
name_or_number version number None = codes "element " ++ decimal number
name_or_number version number (Some element) = dotted version element.table element.name

-- `TABLE.NAME` of the live element of this number, or `element N` if there is none
abbrev pub element_name : Version → ℕ → List ℕ
element_name version number = name_or_number version number (element_at version number)
