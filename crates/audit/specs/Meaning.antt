-- Cited by the contracts of nothing_is_missing_when, nothing_is_extra_when.
-- The plain meaning of an audit: the rows that the pairs of a store encode, and the pairs that
-- these rows call for.
use Rattle.std.specs.Prelude.{◌≡◌, ◌↔◌, ℕ, ◌<◌, ◌^◌, List, [], Some, IsTrue, unwrap_or}
use Rattle.std.specs.FinMap as map
use Rattle.std.specs.List.{AllByRecursion}
use mathlib.Core.List.{map as each}
use Rattle.keycode.specs.declared.value.Value.{Value}
use Rattle.keycode.specs.Code.{code}
use Rattle.row_map.specs.declared.key.KeyOf.TheVariants.{Exists, Column}
use Rattle.row_map.specs.declared.shape.ColumnType.{ColumnType}
use Rattle.row_map.specs.Cell.{only_value}
use Rattle.row_map.specs.Keys.{row_code}
use Rattle.row_map.specs.Rows.{Bytes, RowKey, Cells, Pairs}
use Rattle.row_map.specs.Shape.{has_type}
use Rattle.schema_version.specs.declared.element.ElementState.TheVariants.{Public}
use Rattle.schema_version.specs.declared.element.Kind.TheVariants.{Index, Required}
use Rattle.schema_version.specs.declared.element.ElementDef.{ElementDef}
use Rattle.schema_version.specs.Sound.{IsSoundVersion}
use Rattle.schema_version.specs.Version.{Version, element_at, type_of_kind, IsLiveColumn}
use Rattle.element_state.specs.Index.{index_pair}
use Rattle.element_state.specs.Sources.{default_value_at}
use Rattle.audit.specs.declared.report.CheckReport.{CheckReport}
use Rattle.audit.specs.Audit.{IsAudit}
use Rattle.audit.specs.Encoded.{key_read}

-- the store has a pair whose key is that of the row's `exists` pair
pub record HasExistsPair (pairs : Pairs) (row : RowKey) : Type 0 where
  pub key : Bytes
  pub value : Bytes
  pub there : map.get pairs key ≡ Some value
  pub names : key_read key ≡ Some (Exists row.0 row.1)

-- the row has this value in a column: the pair of a public column of its table is there, and is the code of just the value, of the column's type
pub record HasCell (version : Version) (pairs : Pairs) (row : RowKey) (column : ℕ) (value : Value) : Type 0 where
  pub element : ElementDef
  pub type : ColumnType
  pub known : element_at version column ≡ Some element
  pub home : element.table ≡ row.0
  pub kind : type_of_kind element.kind ≡ Some type
  pub public : element.state ≡ Public
  pub bytes : Bytes
  pub there : map.get pairs (row_code row.0 row.1 column) ≡ Some bytes
  pub reads : only_value bytes ≡ Some value
  pub fits : IsTrue (has_type type value)

-- the pairs encode the row: its `exists` pair is there, and its cells are the values of its
-- columns' pairs
pub record IsEncoded (version : Version) (pairs : Pairs) (row : RowKey) (cells : Cells) : Type 0 where
  pub exists : HasExistsPair pairs row
  pub values : (column : ℕ) (value : Value) → (map.get cells column ≡ Some value) ↔ HasCell version pairs row column value

-- the columns that an index lists, each with the default of a value that a row lacks in it: that of a required column, else Null
abbrev pub with_default_values : Version → List ℕ → List (ℕ × Value)
with_default_values version columns = each (λ column. (column, default_value_at version column)) columns

-- each public index has its pair, with the empty value, of each row of its table that the pairs
-- encode
abbrev pub HasIndexPairs : Version → Pairs → Type 0
HasIndexPairs version pairs = (number : ℕ) (element : ElementDef) (columns : List ℕ) → element_at version number ≡ Some element → element.kind ≡ Index columns → element.state ≡ Public
    → (primary : List Value) (cells : Cells) → IsEncoded version pairs (element.table, primary) cells → map.get pairs (index_pair number (with_default_values version columns) (element.table, primary) cells) ≡ Some []

-- each public required column has its pair of each row of its table that the pairs encode, with the
-- code of just the row's own value or of the default
abbrev pub HasRequiredPairs : Version → Pairs → Type 0
HasRequiredPairs version pairs = (number : ℕ) (element : ElementDef) (type : ColumnType) (fallback : Value) → element_at version number ≡ Some element → element.kind ≡ Required type fallback → element.state ≡ Public
    → (primary : List Value) (cells : Cells) → IsEncoded version pairs (element.table, primary) cells → map.get pairs (row_code element.table primary number) ≡ Some (code (unwrap_or (map.get cells number) fallback))

abbrev pub NothingIsMissingWhen : Type 0
NothingIsMissingWhen = (version : Version) (pairs : Pairs) (report : CheckReport) → IsSoundVersion version → IsAudit version pairs report → (report.missing ≡ 0) ↔ (HasIndexPairs version pairs × HasRequiredPairs version pairs)

-- keys and values are strings of bytes, as those of every store are
abbrev pub AreByteStrings : Pairs → Type 0
AreByteStrings pairs = (key value : Bytes) → map.get pairs key ≡ Some value → AllByRecursion (λ b. b < 2 ^ 8) key × AllByRecursion (λ b. b < 2 ^ 8) value

-- why a pair is there: it is an `exists` pair, or that of a live column of its table beside its
-- row's `exists` pair, or the one that a live index has of a row that the pairs encode
pub data Belongs (version : Version) (pairs : Pairs) (key value : Bytes) : Type 0 where
  ExistsPair : (row : RowKey) → key_read key ≡ Some (Exists row.0 row.1) → Belongs version pairs key value
  ColumnPair : (row : RowKey) (column : ℕ) → key_read key ≡ Some (Column row.0 row.1 column) → IsLiveColumn version row.0 column → HasExistsPair pairs row → Belongs version pairs key value
  IndexPair : (number : ℕ) (element : ElementDef) (columns : List ℕ) → element_at version number ≡ Some element → element.kind ≡ Index columns
      → (primary : List Value) (cells : Cells) → IsEncoded version pairs (element.table, primary) cells → key ≡ index_pair number (with_default_values version columns) (element.table, primary) cells → value ≡ [] → Belongs version pairs key value

abbrev pub EachPairBelongs : Version → Pairs → Type 0
EachPairBelongs version pairs = (key value : Bytes) → map.get pairs key ≡ Some value → Belongs version pairs key value

abbrev pub NothingIsExtraWhen : Type 0
NothingIsExtraWhen = (version : Version) (pairs : Pairs) (report : CheckReport) → IsSoundVersion version → AreByteStrings pairs → IsAudit version pairs report → (report.extra ≡ 0) ↔ EachPairBelongs version pairs
