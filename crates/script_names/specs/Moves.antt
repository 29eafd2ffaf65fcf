-- Cited by the contracts of step_of.
-- What the names of a script's moves stand for in a version of the schema.
use Rattle.std.specs.Prelude.{ℕ, List}
use mathlib.Core.List.{map as each}
use Rattle.script_grammar.specs.declared.element.New.{New}
use Rattle.script_grammar.specs.declared.element.New.TheVariants as new
use Rattle.script_grammar.specs.declared.named.NamedMove.{NamedMove}
use Rattle.script_grammar.specs.declared.named.NamedMove.TheVariants as named
use Rattle.schema_version.specs.declared.element.Kind.TheVariants.{Index}
use Rattle.schema_version.specs.declared.element.NewElement.{NewElement}
use Rattle.schema_version.specs.declared.step.Move.{Move}
use Rattle.schema_version.specs.declared.step.Move.TheVariants.{Enter, Go, Turn}
use Rattle.schema_version.specs.Version.{Version}
use Rattle.script_names.specs.Names.{table_number, element_number, numbered}
use Rattle.script_names.specs.Kinds.{column_kind}

-- the elements of the table of this number under these names
abbrev pub element_numbers : Version → ℕ → List (List ℕ) → List ℕ
element_numbers version table names = each (element_number version table) names

-- what enters, with its names looked up
abbrev pub entered : Version → New → NewElement
entered version (new.Index name table columns) =
    record { table = table_number version table; name = name; kind = Index (element_numbers version (table_number version table) columns) }
entered version (new.Column name type fallback table) = record { table = table_number version table; name = name; kind = column_kind type fallback }

-- a move with its names looked up
abbrev pub moved : Version → NamedMove → Move
moved version (named.Enter fresh to) = Enter (entered version fresh) to
moved version (named.Go element to) = Go (numbered version element) to
moved version (named.Turn element) = Turn (numbered version element)

abbrev pub step_of : Version → List NamedMove → List Move
step_of version moves = each (moved version) moves
