-- Cited by private functions alone: by_key, meets_one, meets_all, add_found and 7 more.
-- What a query finds in pairs.
use Rattle.std.specs.Prelude.{ℕ, List, [], ◌∷◌, Option, Some, None, filter, ◌==◌, unwrap_or, Result, Ok, Err, option_map, is_some, if◌then◌else◌}
use Rattle.std.specs.List.{list_all, filter_map}
use Rattle.std.specs.Ordering.{nat_cmp}
use Rattle.std.specs.FinMap as map
use Rattle.std.specs.FinMap.{find}
use Rattle.keycode.specs.declared.value.Value.{Value}
use Rattle.keycode.specs.declared.value.Value.TheVariants.{Null}
use Rattle.keycode.specs.declared.fault.KeyFault.{KeyFault}
use Rattle.row_map.specs.declared.shape.Row.{Row}
use Rattle.row_map.specs.declared.key.KeyOf.{KeyOf}
use Rattle.row_map.specs.declared.key.KeyOf.TheVariants.{Exists, Column, Index}
use Rattle.row_map.specs.Cell.{cell_in}
use Rattle.row_map.specs.Keys.{row_code}
use Rattle.row_map.specs.ReadKey.{key_at}
use Rattle.row_map.specs.Rows.{Bytes, Pairs}
use Rattle.row_query.specs.declared.query.Query.{Query}
use Rattle.row_query.specs.Answer.{meets, is_named}

-- the cells of a row in these columns
abbrev pub cells_in : Pairs → ℕ → List Value → List ℕ → List (ℕ × Value)
cells_in pairs table key columns = filter_map (λ column. option_map (λ v. (column, v)) (cell_in pairs table key column)) columns

-- the value of a column among cells, Null where it has none
abbrev pub value_in : List (ℕ × Value) → ℕ → Value
value_in cells column = unwrap_or (find nat_cmp column cells) Null

-- the row, if it meets every condition
abbrev pub row_of : Query → List Value → List (ℕ × Value) → Option Row
row_of query key cells =
    if list_all (meets key (value_in cells)) query.conditions
    then Some (record { key = key; cells = filter (λ cell. is_named query.columns cell.0) cells })
    else None

-- the row of a key, if it is there and meets every condition
unfoldable pub row_in : Pairs → List ℕ → Query → List Value → Option Row
row_in pairs columns query key =
    if is_some (map.get pairs (row_code query.table key 0))
    then row_of query key (cells_in pairs query.table key columns)
    else None

-- the primary key of an `exists` pair of the table
abbrev pub key_of_row : ℕ → Result KeyOf KeyFault → Option (List Value)
key_of_row table (Ok (Exists t key)) = if t == table then Some key else None
key_of_row table (Ok (Column t key element)) = None
key_of_row table (Ok (Index element values)) = None
key_of_row table (Err fault) = None

unfoldable pub row_key_in : ℕ → Bytes → Option (List Value)
row_key_in table bytes = key_of_row table (key_at bytes)

abbrev pub row_of_key : Pairs → List ℕ → Query → Option (List Value) → Option Row
row_of_key pairs columns query None = None
row_of_key pairs columns query (Some key) = row_in pairs columns query key

-- the row of an `exists` pair of the table
abbrev pub row_at : Pairs → List ℕ → Query → Bytes → Option Row
row_at pairs columns query bytes = row_of_key pairs columns query (row_key_in query.table bytes)

-- the rows of pairs that are in a walk
abbrev pub rows_at : Pairs → List ℕ → Query → List (Bytes × Bytes) → List Row
rows_at pairs columns query walked = filter_map (λ pair. row_at pairs columns query pair.0) walked

-- the row of one key, as a list
abbrev pub one_row : Option Row → List Row
one_row None = []
one_row (Some row) = row ∷ []

-- the rows of these keys
abbrev pub rows_in : Pairs → List ℕ → Query → List (List Value) → List Row
rows_in pairs columns query keys = filter_map (row_in pairs columns query) keys
