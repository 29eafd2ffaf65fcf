-- Cited by the contracts of path_of.
-- How the rows of a query are found.
use Rattle.std.specs.Prelude.{ℕ, List, [], ◌∷◌, Option, Some, None, Bool, true, false, ◌&&◌, ◌==◌, if◌then◌else◌}
use Rattle.std.specs.List.{list_any, find}
use Rattle.schema_version.specs.declared.element.ElementDef.{ElementDef}
use Rattle.schema_version.specs.Version.{Version, live, is_public, indexed_columns}
use Rattle.row_query.specs.declared.query.Cond.{Cond}
use Rattle.row_query.specs.declared.query.Cond.TheVariants.{Key, Equal, Between}
use Rattle.row_query.specs.declared.query.Query.{Query}
use Rattle.row_query.specs.declared.query.Path.{Path}
use Rattle.row_query.specs.declared.query.Path.TheVariants as path

abbrev pub is_on_key : Cond → Bool
is_on_key (Key wanted) = true
is_on_key (Equal column value) = false
is_on_key (Between column low high) = false

-- whether the condition is on the column
abbrev pub is_on : ℕ → Cond → Bool
is_on number (Key wanted) = false
is_on number (Equal column value) = column == number
is_on number (Between column low high) = column == number

-- whether there is a condition on the first of these columns
abbrev pub leads : List Cond → List ℕ → Bool
leads conditions [] = false
leads conditions (first ∷ others) = list_any (is_on first) conditions

-- a public index of the query's table with a condition on its first column
abbrev pub serves : Query → ElementDef → Bool
serves query element = (element.table == query.table) && is_public element.state && leads query.conditions (indexed_columns element.kind)

abbrev pub by_index : Option ElementDef → Path
by_index None = path.Scan
by_index (Some element) = path.Index element.number

-- by the key where a condition is on it; else by the least index that serves; else by going over the table
abbrev pub plain_path : Version → Query → Path
plain_path version query = if list_any is_on_key query.conditions then path.Key else by_index (find (serves query) (live version))
