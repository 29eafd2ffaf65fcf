-- Cited by the contracts of begin, rows_of, scan_page, gather_page.
-- What a query has still to find in a store.
use Rattle.std.specs.Prelude.{◌≡◌, ℕ, List, [], ◌∷◌, Option, Some, None, length, if◌then◌else◌}
use Rattle.std.specs.Ordering.{is_le}
use Rattle.keycode.specs.Order.{bytes_cmp}
use Rattle.std.specs.List.{AllByRecursion, find}
use Rattle.keycode.specs.declared.value.Value.{Value}
use Rattle.row_map.specs.declared.shape.Row.{Row}
use Rattle.row_map.specs.Keys.{row_code}
use Rattle.row_map.specs.Ranges.{table_prefix}
use Rattle.row_map.specs.Rows.{Bytes, Pairs}
use Rattle.row_map.specs.Walk.{key_range}
use Rattle.schema_version.specs.Version.{Version, live, indexed_columns}
use Rattle.schema_version.specs.declared.element.ElementDef.{ElementDef}
use Rattle.row_query.specs.declared.query.Cond.{Cond}
use Rattle.row_query.specs.declared.query.Query.{Query}
use Rattle.row_query.specs.Path.{serves}
use Rattle.row_query.specs.declared.query.Path.{Path}
use Rattle.row_query.specs.declared.query.Path.TheVariants as path
use Rattle.row_query.specs.inner.Bounds.{table_end, gathered, first_key, leading, low_bound, high_bound}
use Rattle.row_query.specs.inner.Checks.{public_numbers}
use Rattle.row_query.specs.inner.Found.{rows_in, rows_at}
use Rattle.row_ask.specs.declared.remaining.Remaining.{Remaining}
use Rattle.row_ask.specs.declared.remaining.Remaining.TheVariants.{Rows, Index, Scan}
use Rattle.row_ask.specs.declared.remaining.IndexRange.{IndexRange}

-- what was read from low to below high is what the store has there
abbrev pub IsRead : Pairs → Pairs → Bytes → Bytes → Type 0
IsRead store read low high = key_range read low high ≡ key_range store low high

-- after the keys of a row's pairs: an element's number is below 2 ^ 24
abbrev pub row_end : ℕ → List Value → Bytes
row_end table key = row_code table key 16777216

-- each row's pairs were read
abbrev pub AreRowsRead : Pairs → Pairs → ℕ → List (List Value) → Type 0
AreRowsRead store read table keys = AllByRecursion (λ key. IsRead store read (row_code table key 0) (row_end table key)) keys

-- the rows of these keys that are asked for
abbrev pub rows_of_keys : Version → Pairs → Query → List (List Value) → List Row
rows_of_keys version store query keys = rows_in store (public_numbers (live version) query.table) query keys

-- the table's rows that are asked for, of those whose `exists` pair is from low to below high
abbrev pub rows_between : Version → Pairs → Query → Bytes → Bytes → List Row
rows_between version store query low high = rows_at store (public_numbers (live version) query.table) query (key_range store low high)

-- the primary keys so far, and those in the rest of the part of the index
abbrev pub keys_with_rest : Pairs → IndexRange → List (List Value) → List (List Value)
keys_with_rest store range keys = gathered range.number range.width keys (key_range store range.low range.high)

-- a part of an index without what is below this key
abbrev pub range_from : IndexRange → Bytes → IndexRange
range_from range to = record range { low = if is_le (bytes_cmp range.high to) then range.high else to }

-- by which path a query is answered
abbrev pub path_taken : Remaining → Path
path_taken (Rows keys) = path.Key
path_taken (Index range) = path.Index range.number
path_taken (Scan low) = path.Scan

-- the part of the index that a condition on its first column leads to
abbrev pub index_range : ElementDef → Cond → IndexRange
index_range element condition =
    record { number = element.number; width = length (indexed_columns element.kind); low = low_bound element.number condition; high = high_bound element.number condition }

abbrev pub by_condition : ℕ → ElementDef → Option Cond → Remaining
by_condition table element None = Scan (table_prefix table)
by_condition table element (Some condition) = Index (index_range element condition)

abbrev pub by_index : Query → Option ElementDef → Remaining
by_index query None = Scan (table_prefix query.table)
by_index query (Some element) = by_condition query.table element (leading query.conditions (indexed_columns element.kind))

abbrev pub by_key : Version → Query → Option (List Value) → Remaining
by_key version query (Some key) = Rows (key ∷ [])
by_key version query None = by_index query (find (serves query) (live version))

-- what a query reads first: the row of its first key; else the part of the least public index whose first column has a condition; else its table
abbrev pub remaining_of : Version → Query → Remaining
remaining_of version query = by_key version query (first_key query.conditions)

-- the rows that are still to be found
abbrev pub remaining_rows : Version → Pairs → Query → Remaining → List Row
remaining_rows version store query (Rows keys) = rows_of_keys version store query keys
remaining_rows version store query (Index range) = rows_of_keys version store query (keys_with_rest store range [])
remaining_rows version store query (Scan low) = rows_between version store query low (table_end query.table)

-- the rows from this key on, none after the last page
abbrev pub rows_after : Version → Pairs → Query → Option Bytes → List Row
rows_after version store query None = []
rows_after version store query (Some low) = rows_between version store query low (table_end query.table)
