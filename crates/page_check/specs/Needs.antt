-- Cited by the contracts of row_ranges, given_ranges, lemma_ranges_are_enough, and by the definitions of Whole.
-- What judging the pairs of a page looks at besides the page: the rows that their keys name, and the
-- pairs that indexes and required columns are given by these rows.
use Rattle.std.specs.Prelude.{◌≡◌, ℕ, ◌<◌, ◌^◌, ◌==◌, ◌&&◌, Bool, true, not, List, [], length, drop, Option, Some, None, if◌then◌else◌, option_map, filter_map}
use Rattle.std.specs.FinMap as map
use Rattle.std.specs.List.{AllByRecursion, flat_map}
use Rattle.std.specs.Ordering.{is_le, is_lt}
use Rattle.keycode.specs.declared.value.Value.{Value}
use Rattle.keycode.specs.Order.{bytes_cmp}
use Rattle.row_map.specs.declared.key.KeyOf.{KeyOf}
use Rattle.row_map.specs.declared.key.KeyOf.TheVariants.{Exists, Column, Index}
use Rattle.row_map.specs.declared.shape.Row.{Row}
use Rattle.row_map.specs.Keys.{row_code}
use Rattle.row_map.specs.Rows.{Bytes, Pairs, RowKey}
use Rattle.row_map.specs.Walk.{after}
use Rattle.schema_version.specs.declared.element.ElementDef.{ElementDef}
use Rattle.schema_version.specs.Version.{Version, live, indexed_columns}
use Rattle.audit.specs.Audit.{Pair, given, numbered}
use Rattle.audit.specs.Encoded.{key_read, row_at}
use Rattle.row_ask.specs.Remaining.{IsRead, row_end}
use Rattle.page_check.specs.Page.{page_of}

-- ---- the rows that a page names

-- the row whose primary key comes after the indexed values
abbrev pub row_behind : List Value → Option ElementDef → Option RowKey
row_behind values None = None
row_behind values (Some element) = Some (element.table, drop (length (indexed_columns element.kind)) values)

-- the row that a pair's key names: its own, or the one whose pair it is in an index
abbrev pub row_named : Version → Option KeyOf → Option RowKey
row_named version None = None
row_named version (Some (Exists table primary)) = Some (table, primary)
row_named version (Some (Column table primary number)) = Some (table, primary)
row_named version (Some (Index number values)) = row_behind values (numbered version number)

-- what was read has the same pairs of the row as the store
abbrev pub IsRowRead : Pairs → Pairs → Option RowKey → Type 0
IsRowRead store read None = Unit {0}
IsRowRead store read (Some row) = (number : ℕ) → number < 2 ^ 24 → map.get read (row_code row.0 row.1 number) ≡ map.get store (row_code row.0 row.1 number)

-- ---- the pairs that these rows give

-- what was read has at the key of the pair that an element of its table gives the row what the store has
abbrev pub IsGivenRead : Version → Pairs → Pairs → ℕ → Row → ElementDef → Type 0
IsGivenRead version store read table row element = (pair : Pair) → element.table ≡ table → given version element row ≡ Some pair → map.get read pair.0 ≡ map.get store pair.0

-- the same of all elements, if the key is that of a row's `exists` pair
abbrev pub AreGivenRead : Version → Pairs → Pairs → Option KeyOf → Type 0
AreGivenRead version store read (Some (Exists table primary)) = AllByRecursion (IsGivenRead version store read table (row_at version store table primary)) (live version)
AreGivenRead version store read _ = Unit {0}

-- ---- what is to be read

-- all was read that judging the page looks at: the page, each row that it names, and each key of a pair that its rows give
pub record IsPageRead (version : Version) (store read : Pairs) (low : Bytes) (to : Option Bytes) : Type 0 where
  pub page : page_of read low to ≡ page_of store low to
  pub rows : AllByRecursion (λ (pair : Pair). IsRowRead store read (row_named version (key_read pair.0))) (page_of store low to)
  pub given : AllByRecursion (λ (pair : Pair). AreGivenRead version store read (key_read pair.0)) (page_of store low to)

abbrev pub ends_by : Option Bytes → Bytes → Bool
ends_by None high = true
ends_by (Some to) high = is_le (bytes_cmp high to)

-- whether all of a range is on the page
abbrev pub is_all_on_page : Bytes → Option Bytes → Bytes × Bytes → Bool
is_all_on_page low to range = not (is_lt (bytes_cmp range.0 low)) && ends_by to range.1

-- a range, unless there is none or all of it is on the page
abbrev pub besides : Bytes → Option Bytes → Option (Bytes × Bytes) → Option (Bytes × Bytes)
besides low to None = None
besides low to (Some range) = if is_all_on_page low to range then None else Some range

-- the range of a row's pairs
abbrev pub row_range : RowKey → Bytes × Bytes
row_range row = (row_code row.0 row.1 0, row_end row.0 row.1)

-- the range of the row that each key of the page names, unless it is on the page
abbrev pub row_ranges : Version → Bytes → Option Bytes → List Pair → List (Bytes × Bytes)
row_ranges version low to page = filter_map (λ (pair : Pair). besides low to (option_map row_range (row_named version (key_read pair.0)))) page

-- the range of this key alone
abbrev pub point_range : Bytes → Bytes × Bytes
point_range key = (key, after key)

-- the range of the pair that an element of its table gives a row
abbrev pub given_range : Version → ℕ → Row → ElementDef → Option (Bytes × Bytes)
given_range version table row element = if element.table == table then option_map (λ (pair : Pair). point_range pair.0) (given version element row) else None

-- those of all elements, if the key is that of a row's `exists` pair
abbrev pub ranges_given : Version → Pairs → Bytes → Option Bytes → Option KeyOf → List (Bytes × Bytes)
ranges_given version read low to (Some (Exists table primary)) = filter_map (λ (element : ElementDef). besides low to (given_range version table (row_at version read table primary) element)) (live version)
ranges_given version read low to _ = []

-- and of all rows of the page
abbrev pub given_ranges : Version → Pairs → Bytes → Option Bytes → List Pair → List (Bytes × Bytes)
given_ranges version read low to page = flat_map (λ (pair : Pair). ranges_given version read low to (key_read pair.0)) page

-- what the store has in these ranges was read
abbrev pub AreRead : Pairs → Pairs → List (Bytes × Bytes) → Type 0
AreRead store read ranges = AllByRecursion (λ (range : Bytes × Bytes). IsRead store read range.0 range.1) ranges
