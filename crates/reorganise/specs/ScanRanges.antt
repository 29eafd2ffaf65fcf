-- Cited by the contracts of Progress::begin, Progress::begin_ranked.
-- Where the items of a reorganisation lie.
use Rattle.std.specs.Prelude.{◌≡◌, ℕ, ◌+◌, ◌^◌, ◌==◌, Bool, true, false, List, [], ◌∷◌, Option, Some, None, Result, Ok, Err, nat_lt, if◌then◌else◌, filter_map}
use Rattle.std.specs.FinMap as map
use Rattle.std.specs.Int.{w32, to_be_bytes}
use Rattle.keycode.specs.declared.fault.KeyFault.{KeyFault}
use Rattle.keycode.specs.declared.value.Value.{Value}
use Rattle.row_map.specs.declared.key.KeyOf.{KeyOf}
use Rattle.row_map.specs.declared.key.KeyOf.TheVariants.{Exists, Column, Index as IndexKey}
use Rattle.row_map.specs.Keys.{key_code, IsKey}
use Rattle.row_map.specs.ReadKey.{key_at}
use Rattle.row_map.specs.Rows.{Bytes, Pairs}
use Rattle.row_map.specs.Ranges.{is_within}
use Rattle.row_map.specs.Walk.{is_empty, key_range}
use Rattle.schema_version.specs.declared.element.Kind.{Kind}
use Rattle.schema_version.specs.declared.element.Kind.TheVariants.{Index, Optional, Required}
use Rattle.schema_version.specs.declared.element.ElementDef.{ElementDef}
use Rattle.schema_version.specs.declared.element.Work.{Work}
use Rattle.schema_version.specs.declared.element.Work.TheVariants.{Fill, Clear}
use Rattle.reorganise.specs.declared.scan_range.ScanRange.{ScanRange}
use Rattle.reorganise.specs.declared.scan_range.ScanRange.TheVariants.{Rows, Entries}

abbrev pub cleared : Kind → ElementDef → ScanRange
cleared (Index columns) element = Entries element.number
cleared (Optional type) element = Rows element.table
cleared (Required type fallback) element = Rows element.table

-- a fill and a clear of a column go by the rows of the table, a clear of an index by its own pairs
abbrev pub scan_range_of : ElementDef → Work → ScanRange
scan_range_of element Fill = Rows element.table
scan_range_of element Clear = cleared element.kind element

-- the bytes with which keys begin
abbrev pub prefix : ℕ → ℕ → Bytes
prefix tag number = tag ∷ to_be_bytes w32 number

-- the first key above all that begin so
abbrev pub prefix_end : ℕ → ℕ → Bytes
prefix_end tag number = if nat_lt (number + 1) (2 ^ 32) then prefix tag (number + 1) else (tag + 1) ∷ []

-- where the range begins
abbrev pub start : ScanRange → Bytes
start (Rows table) = prefix 82 table
start (Entries element) = prefix 88 element

-- where it ends, which is not included
abbrev pub end : ScanRange → Bytes
end (Rows table) = prefix_end 82 table
end (Entries element) = prefix_end 88 element

-- the primary key of a row of the table, where its `exists` pair was read
abbrev pub row_read : ℕ → Result KeyOf KeyFault → Option (List Value)
row_read table (Ok (Exists t key)) = if t == table then Some key else None
row_read table (Ok (Column t key e)) = None
row_read table (Ok (IndexKey e values)) = None
row_read table (Err fault) = None

-- the primary key of the row of the table whose `exists` pair has this key. What can't be read as a key is of no row
abbrev pub row_at : ℕ → Bytes → Option (List Value)
row_at table key = row_read table (key_at key)

abbrev pub is_item_read : ScanRange → Result KeyOf KeyFault → Bool
is_item_read (Rows table) (Ok (Exists t key)) = t == table
is_item_read (Rows table) (Ok (Column t key e)) = false
is_item_read (Rows table) (Ok (IndexKey e values)) = false
is_item_read (Rows table) (Err fault) = false
is_item_read (Entries element) (Ok (Exists t key)) = false
is_item_read (Entries element) (Ok (Column t key e)) = false
is_item_read (Entries element) (Ok (IndexKey e values)) = e == element
is_item_read (Entries element) (Err fault) = false

-- the key of a row's `exists` pair, or of a pair of the index. What can't be read as a key is none
abbrev pub is_item : ScanRange → Bytes → Bool
is_item scan_range key = is_item_read scan_range (key_at key)

-- the key is that of a row of the table, or of a pair of the index
abbrev pub IsItemKey : ScanRange → Bytes → Type 0
IsItemKey (Rows table) x = (key : List Value) × IsKey (Exists table key) × (x ≡ key_code (Exists table key))
IsItemKey (Entries element) x = (values : List Value) × IsKey (IndexKey element values) × (x ≡ key_code (IndexKey element values))

abbrev pub item_key : ScanRange → Bytes × Bytes → Option Bytes
item_key scan_range pair = if is_item scan_range pair.0 then Some pair.0 else None

-- the keys of the items among pairs
abbrev pub item_keys : ScanRange → List (Bytes × Bytes) → List Bytes
item_keys scan_range pairs = filter_map (item_key scan_range) pairs

-- all items, in order
abbrev pub items : ScanRange → Pairs → List Bytes
items scan_range pairs = item_keys scan_range (key_range pairs (start scan_range) (end scan_range))

-- a pair of the range is an item's exactly when its value is empty: a store that counts such pairs finds an item by its number
abbrev pub ItemsAreEmpty : ScanRange → Pairs → Type 0
ItemsAreEmpty scan_range pairs = (key value : Bytes) → map.get pairs key ≡ Some value → is_within (start scan_range) (end scan_range) key ≡ true → is_item scan_range key ≡ is_empty value
