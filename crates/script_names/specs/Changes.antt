-- Cited by the contracts of changes_of.
-- What the names of a plan's changes stand for in a version of the schema.
use Rattle.std.specs.Prelude.{List}
use mathlib.Core.List.{map as each}
use Rattle.change_plan.specs.declared.change.Change.{Change}
use Rattle.change_plan.specs.declared.change.Change.TheVariants.{AddIndex, DropIndex, AddColumn, DropColumn, Abandon}
use Rattle.script_grammar.specs.declared.element.New.{New}
use Rattle.script_grammar.specs.declared.element.New.TheVariants as new
use Rattle.script_grammar.specs.declared.named.NamedChange.{NamedChange}
use Rattle.script_grammar.specs.declared.named.NamedChange.TheVariants as named
use Rattle.schema_version.specs.Version.{Version}
use Rattle.script_names.specs.Names.{table_number}
use Rattle.script_names.specs.Kinds.{column_kind}

-- what is added, with its table looked up
abbrev pub added : Version → New → Change
added version (new.Index name table columns) = AddIndex (table_number version table) name columns
added version (new.Column name type fallback table) = AddColumn (table_number version table) name (column_kind type fallback)

-- a change with its table looked up: elements keep their names
abbrev pub changed : Version → NamedChange → Change
changed version (named.Add fresh) = added version fresh
changed version (named.DropIndex element) = DropIndex (table_number version element.table) element.name
changed version (named.DropColumn element) = DropColumn (table_number version element.table) element.name
changed version (named.Abandon element) = Abandon (table_number version element.table) element.name

abbrev pub changes_of : Version → List NamedChange → List Change
changes_of version changes = each (changed version) changes
