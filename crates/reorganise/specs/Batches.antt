-- Cited by the contracts of PreparedPiece, PreparedPiece::expect, PreparedPiece::batch.
-- What a piece writes.
use Rattle.std.specs.Prelude.{◌≡◌, ℕ, List, [], ◌∷◌, Option, Some, None, option_map, if◌then◌else◌, filter_map}
use Rattle.std.specs.List.{flat_map}
use Rattle.std.specs.FinMap as map
use Rattle.keycode.specs.declared.value.Value.{Value}
use Rattle.row_map.specs.declared.key.KeyOf.TheVariants.{Column}
use Rattle.row_map.specs.Cell.{value_from, typed_value}
use Rattle.row_map.specs.declared.shape.ColumnType.{ColumnType}
use Rattle.row_map.specs.Keys.{key_code}
use Rattle.row_map.specs.Rows.{Bytes, Pairs}
use Rattle.row_map.specs.Shape.{is_null}
use Rattle.row_map.specs.Writes.{Writes, Batch, noted}
use Rattle.row_map.specs.declared.shape.Row.{Row}
use Rattle.row_map.specs.declared.expect.KeyRange.{KeyRange}
use Rattle.row_map.specs.declared.expect.Expect.{Expect}
use Rattle.schema_version.specs.declared.element.Kind.{Kind}
use Rattle.schema_version.specs.declared.element.Kind.TheVariants.{Index, Optional, Required}
use Rattle.schema_version.specs.declared.element.ElementDef.{ElementDef}
use Rattle.element_state.specs.Items.{put_pair}
use Rattle.element_state.specs.Operations.{cells_of, fill_pair}
use Rattle.element_state.specs.Kinds.{kind_meaning}
use Rattle.element_state.specs.Sources.{source_alone}
use Rattle.schema_version.specs.declared.element.Work.{Work}
use Rattle.schema_version.specs.declared.element.Work.TheVariants.{Fill, Clear}
use Rattle.reorganise.specs.declared.scan_range.ScanRange.TheVariants.{Entries}
use Rattle.reorganise.specs.declared.read.Reading.{Reading}
use Rattle.reorganise.specs.ScanRanges.{row_at, is_item}
use Rattle.reorganise.specs.Pieces.{IsReading}

-- ---- the row of an item

-- a value that isn't Null
abbrev pub but_null : Option Value → Option Value
but_null None = None
but_null (Some v) = if is_null v then None else Some v

-- the value that a column's pair encodes, if there is one
abbrev pub encoded : Option Bytes → Option Value
encoded pair = but_null (value_from pair)

-- the value of a row in a column, as the pairs have it
abbrev pub cell_in : Pairs → ℕ → List Value → ℕ → Option Value
cell_in pairs table key column = encoded (map.get pairs (key_code (Column table key column)))

-- the cells of a row in these columns
abbrev pub cells_in : Pairs → ℕ → List Value → List ℕ → List (ℕ × Value)
cells_in pairs table key columns = filter_map (λ c. option_map (λ v. (c, v)) (cell_in pairs table key c)) columns

-- the value of the type that a column's pair encodes, if there is one
abbrev pub typed : ColumnType → Option Bytes → Option Value
typed type None = None
typed type (Some bytes) = typed_value type bytes

abbrev pub typed_in : Pairs → ColumnType → ℕ → List Value → ℕ → Option Value
typed_in pairs type table key column = typed type (map.get pairs (key_code (Column table key column)))

-- one cell, if there is a value for it
abbrev pub one_cell : ℕ → Option Value → List (ℕ × Value)
one_cell column None = []
one_cell column (Some v) = (column, v) ∷ []

-- the cells of a row that an element's pair is made from: an index's columns, or the required column itself
abbrev pub cells_for : Pairs → ElementDef → List Value → Kind → List (ℕ × Value)
cells_for pairs element key (Index columns) = cells_in pairs element.table key columns
cells_for pairs element key (Optional type) = []
cells_for pairs element key (Required type fallback) = one_cell element.number (typed_in pairs type element.table key element.number)

-- the row of a primary key, as far as the element asks for it
abbrev pub row_in : Pairs → ElementDef → List Value → Row
row_in pairs element key = record { key = key; cells = cells_for pairs element key element.kind }

-- ---- the writes

-- a fill puts the pair of the row
abbrev pub row_put : Pairs → ElementDef → Option (List Value) → Writes
row_put pairs element None = []
row_put pairs element (Some key) = put_pair (fill_pair (kind_meaning element.number (source_alone element.kind)) (element.table, key) (cells_of (row_in pairs element key)))

-- a clear of a column takes the column's pair of the row away
abbrev pub cell_removed : ElementDef → Option (List Value) → Writes
cell_removed element None = []
cell_removed element (Some key) = (key_code (Column element.table key element.number), None) ∷ []

-- a clear of an index takes its own pair away
abbrev pub removed_of : Kind → ElementDef → Bytes → Writes
removed_of (Index columns) element name = if is_item (Entries element.number) name then (name, None) ∷ [] else []
removed_of (Optional type) element name = cell_removed element (row_at element.table name)
removed_of (Required type fallback) element name = cell_removed element (row_at element.table name)

-- what is written for the pair of a key: nothing, where it is no item
abbrev pub pair_writes : Pairs → ElementDef → Work → Bytes → Writes
pair_writes pairs element Fill name = row_put pairs element (row_at element.table name)
pair_writes pairs element Clear name = removed_of element.kind element name

-- what a piece writes for the pairs that it read
abbrev pub piece_writes : Pairs → ElementDef → Work → Writes
piece_writes pairs element work = flat_map (λ (e : Bytes × Bytes). pair_writes pairs element work e.0) (map.entries pairs)

-- ---- a prepared piece

-- all that was read is expected again
abbrev pub expect_of : KeyRange → Expect
expect_of key_range = record { points = map.empty; key_range = Some key_range }

abbrev pub batch_from : ElementDef → Work → KeyRange → Batch
batch_from element work key_range = noted map.empty (piece_writes key_range.pairs element work)

-- the batch of what was read
abbrev pub batch_for : Reading → Batch
batch_for read = batch_from read.element read.kind read.key_range

abbrev pub key_range_of : Option KeyRange → KeyRange
key_range_of None = record { low = []; high = []; pairs = map.empty }
key_range_of (Some key_range) = key_range

-- a prepared piece expects the key range that was read, and has its batch
pub record IsPrepared (element : ElementDef) (work : Work) (piece : ℕ) (low high : Bytes) (expect : Expect) (batch : Batch) : Type 0 where
  pub read : IsReading (record { element = element; kind = work; piece = piece; low = low; high = high; key_range = key_range_of expect.key_range })
  pub expected : expect ≡ expect_of (key_range_of expect.key_range)
  pub written : batch ≡ batch_from element work (key_range_of expect.key_range)
