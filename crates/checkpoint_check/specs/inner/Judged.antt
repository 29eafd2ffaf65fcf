-- Cited by private functions alone: stored_type, stored_cell, stored_row, own_pair, judge_pair and 6 more.
-- Whether a pair is one that a version allows, and an `exists` pair one whose row has what the version demands. Each pair is judged by itself.
use Rattle.std.specs.Prelude.{ℕ, ◌≡◌, ◌==◌, Bool, true, false, ◌&&◌, List, [], ◌∷◌, drop, length, Option, Some, None, option_map, filter_map, count_by}
use Rattle.std.specs.List.{AllByRecursion}
use Rattle.std.specs.Cmp.Lexicographic.{pointwise}
use mathlib.Core.List.{map as each}
use Rattle.std.specs.FinMap as map
use Rattle.keycode.specs.declared.value.Value.{Value}
use Rattle.row_map.specs.declared.key.KeyOf.{KeyOf}
use Rattle.row_map.specs.declared.key.KeyOf.TheVariants.{Exists, Column, Index}
use Rattle.row_map.specs.declared.shape.ColumnType.{ColumnType}
use Rattle.row_map.specs.declared.shape.Row.{Row}
use Rattle.row_map.specs.Keys.{row_code}
use Rattle.row_map.specs.Rows.{Bytes, RowKey, Cells, Pairs}
use Rattle.row_map.specs.Shape.{has_type}
use Rattle.schema_version.specs.declared.element.ElementDef.{ElementDef}
use Rattle.schema_version.specs.Version.{Version, Table, table_at, live, is_public, indexed_columns}
use Rattle.element_state.specs.Elements.{Meaning}
use Rattle.element_state.specs.Kinds.{kind_meaning}
use Rattle.element_state.specs.Operations.{cells_of}
use Rattle.element_state.specs.Sources.{source_in}
use Rattle.audit.specs.Audit.{Pair, is_absent, is_same_pair, numbered}
use Rattle.audit.specs.Encoded.{key_read, is_row}
use Rattle.audit.specs.inner.RowCounts.{AreStrings}
use Rattle.checkpoint.specs.Stored.{stored_type, value_of_pair}

-- ---- the row that the pairs store

abbrev pub cell_by : Pairs → ℕ → List Value → ℕ → Option ColumnType → Option (ℕ × Value)
cell_by pairs table primary number None = None
cell_by pairs table primary number (Some type) = option_map (λ value. (number, value)) (value_of_pair type (map.get pairs (row_code table primary number)))

abbrev pub stored_cell : Pairs → ℕ → List Value → ElementDef → Option (ℕ × Value)
stored_cell pairs table primary element = cell_by pairs table primary element.number (stored_type table element)

abbrev pub stored_row : Version → Pairs → ℕ → List Value → Row
stored_row newest pairs table primary = record { key = primary; cells = filter_map (stored_cell pairs table primary) (live newest) }

-- ---- the pair that an element gives a row

abbrev pub pair_by : Meaning → RowKey → Cells → Option Pair
pair_by m k r = option_map (λ v. (m.pair_key k r, v)) (m.pair_value k r)

abbrev pub own_pair : Version → ElementDef → Row → Option Pair
own_pair version element row = pair_by (kind_meaning element.number (source_in version element.kind)) (element.table, row.key) (cells_of row)

-- ---- an `exists` pair

-- whether the element is a public one of the table, and the store lacks the pair that it gives the row
abbrev pub lacks : Version → Pairs → ℕ → Row → ElementDef → Bool
lacks version pairs table row element = ((element.table == table) && is_public element.state) && is_absent pairs (own_pair version element row)

abbrev pub types_of : List (List ℕ × ColumnType) → List ColumnType
types_of columns = each (λ (column : List ℕ × ColumnType). column.1) columns

-- whether these are values of the types of a table's key
abbrev pub is_key_for : Option (List (List ℕ × ColumnType)) → List Value → Bool
is_key_for None primary = false
is_key_for (Some columns) primary = pointwise has_type (types_of columns) primary

abbrev pub key_columns : Version → ℕ → Option (List (List ℕ × ColumnType))
key_columns version table = option_map (λ (t : Table). t.key) (table_at version table)

abbrev pub count_lacking : Version → Version → Pairs → ℕ → List Value → ℕ
count_lacking version newest pairs table primary = count_by (lacks version pairs table (stored_row newest pairs table primary)) (live version)

abbrev pub is_good_row : Version → Version → Pairs → ℕ → List Value → Bytes → Bool
is_good_row version newest pairs table primary value =
    ((length value == 0) && is_key_for (key_columns version table) primary) && (count_lacking version newest pairs table primary == 0)

-- ---- a pair of an element

-- whether a row of its table is stored that gives the element this pair
abbrev pub is_given : Version → Version → Pairs → List Value → Pair → ElementDef → Bool
is_given version newest pairs primary pair element = is_row pairs element.table primary && is_same_pair (own_pair version element (stored_row newest pairs element.table primary)) pair

abbrev pub is_column_pair : Version → Version → Pairs → List Value → Pair → Option ElementDef → Bool
is_column_pair version newest pairs primary pair None = false
is_column_pair version newest pairs primary pair (Some element) = is_given version newest pairs primary pair element

-- the primary key comes after the indexed values
abbrev pub is_index_pair : Version → Version → Pairs → List Value → Pair → Option ElementDef → Bool
is_index_pair version newest pairs values pair None = false
is_index_pair version newest pairs values pair (Some element) = is_given version newest pairs (drop (length (indexed_columns element.kind)) values) pair element

-- ---- any pair

abbrev pub judged_by : Version → Version → Pairs → Pair → Option KeyOf → Bool
judged_by version newest pairs pair None = false
judged_by version newest pairs pair (Some (Exists table primary)) = is_good_row version newest pairs table primary pair.1
judged_by version newest pairs pair (Some (Column table primary number)) = is_column_pair version newest pairs primary pair (numbered version number)
judged_by version newest pairs pair (Some (Index number values)) = is_index_pair version newest pairs values pair (numbered version number)

abbrev pub judged : Version → Version → Pairs → Pair → Bool
judged version newest pairs pair = judged_by version newest pairs pair (key_read pair.0)

abbrev pub all_judged : Version → Version → Pairs → List Pair → Bool
all_judged version newest pairs [] = true
all_judged version newest pairs (pair ∷ more) = judged version newest pairs pair && all_judged version newest pairs more

abbrev pub AllStrings : List Pair → Type 0
AllStrings = AllByRecursion AreStrings

-- a pair of strings of bytes that the version allows
abbrev pub IsGood : Version → Version → Pairs → Pair → Type 0
IsGood version newest pairs pair = AreStrings pair × (judged version newest pairs pair ≡ true)

abbrev pub AreGood : Version → Version → Pairs → List Pair → Type 0
AreGood version newest pairs = AllByRecursion (IsGood version newest pairs)
