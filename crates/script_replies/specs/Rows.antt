-- Cited by the contracts of unanswered_line, rows_text.
-- The rows of a query as a script prints them.
use Rattle.std.specs.Prelude.{ℕ, List, [], ◌∷◌, ◌++◌, length, Option, Some, None, Result, Ok, Err, Bool, ◌&&◌, ◌==◌, filter, codes}
use Rattle.std.specs.Fmt.{decimal}
use Rattle.std.specs.List.{flat_map, find}
use mathlib.Core.List.{map as each}
use Rattle.script_grammar.specs.Print.{value_text}
use Rattle.keycode.specs.declared.value.Value.{Value}
use Rattle.keycode.specs.declared.value.Value.TheVariants.{Null}
use Rattle.row_map.specs.declared.shape.Row.{Row}
use Rattle.row_query.specs.declared.fault.QueryFault.{QueryFault}
use Rattle.row_query.specs.declared.fault.QueryFault.TheVariants as query_fault
use Rattle.row_query.specs.declared.query.Query.{Query}
use Rattle.row_query.specs.Answer.{is_named}
use Rattle.schema_version.specs.declared.element.ElementDef.{ElementDef}
use Rattle.schema_version.specs.Version.{Version, live, is_public_column}
use Rattle.piece_work.specs.QueryRefusal.{QueryRefusal}
use Rattle.piece_work.specs.QueryRefusal.TheVariants as refusal
use Rattle.script_replies.specs.Texts.{line, refused}

-- the public columns that a query names, each once, by rising number
abbrev pub is_shown : Query → ElementDef → Bool
is_shown query element = is_public_column query.table element && is_named query.columns element.number

abbrev pub shown : Version → Query → List (ℕ × List ℕ)
shown version query = each (λ (e : ElementDef). (e.number, e.name)) (filter (is_shown query) (live version))

-- texts, with a comma between each two
abbrev pub joined : List (List ℕ) → List ℕ
joined [] = []
joined (text ∷ texts) = text ++ flat_map (λ t. codes ", " ++ t) texts

-- a column without a cell has the value Null
abbrev pub value_or_null : Option (ℕ × Value) → Value
value_or_null None = Null
value_or_null (Some cell) = cell.1

abbrev pub value_at : List (ℕ × Value) → ℕ → Value
value_at cells number = value_or_null (find (λ (cell : ℕ × Value). cell.0 == number) cells)

-- `COLUMN = VALUE`
abbrev pub cell_text : Row → ℕ × List ℕ → List ℕ
cell_text row column = column.1 ++ codes " = " ++ value_text (value_at row.cells column.0)

abbrev pub cells_text : List (List ℕ) → List ℕ
cells_text [] = []
cells_text (text ∷ texts) = codes " " ++ joined (text ∷ texts)

-- `row (KEY) COLUMN = VALUE, ...`, or `row (KEY)` where no column is shown
abbrev pub row_line : List (ℕ × List ℕ) → Row → List ℕ
row_line columns row = line (codes "row (" ++ joined (each value_text row.key) ++ codes ")" ++ cells_text (each (cell_text row) columns))

-- a fault of the query is reported by its own name
abbrev pub fault_name : QueryFault → List ℕ
fault_name query_fault.NoTable = codes "NoTable"
fault_name (query_fault.NotPublic column) = codes "NotPublic " ++ decimal column
fault_name query_fault.WrongType = codes "WrongType"
fault_name query_fault.Memory = codes "Memory"

abbrev pub refusal_name : QueryRefusal → List ℕ
refusal_name refusal.MomentTooLarge = codes "MomentTooLarge"
refusal_name refusal.BadLease = codes "BadLease"
refusal_name (refusal.LeaseEnded until now) = codes "LeaseEnded " ++ decimal until ++ codes " " ++ decimal now
refusal_name (refusal.Query fault) = fault_name fault

-- a line for each row, and then their number
abbrev pub rows_text : List (ℕ × List ℕ) → List Row → List ℕ
rows_text columns rows = flat_map (row_line columns) rows ++ line (codes "ok rows " ++ decimal (length rows))

abbrev pub queried_text : Version → Query → Result (List Row) QueryRefusal → List ℕ
queried_text version query (Ok rows) = rows_text (shown version query) rows
queried_text version query (Err fault) = line (refused (refusal_name fault))
