-- Cited by the contracts of head_parts_bytes, head_parts_of, pairs_bytes and pairs_of.
-- The one code in bytes of what a checkpoint is made of, and what types say of it.
use Rattle.std.specs.Prelude.{ℕ, List, [], ◌∷◌, ◌++◌}
use Rattle.keycode.specs.declared.value.Value.{Value}
use Rattle.row_map.specs.declared.shape.ColumnType.{ColumnType}
use Rattle.schema_version.specs.declared.element.ElementDef.{ElementDef}
use Rattle.schema_version.specs.declared.element.Way.{Way}
use Rattle.schema_version.specs.declared.element.Way.TheVariants.{Adding, Dropping}
use Rattle.schema_version.specs.declared.element.Work.{Work}
use Rattle.schema_version.specs.declared.element.Work.TheVariants.{Fill, Clear}
use Rattle.reorganise.specs.declared.work.Span.{Span}
use Rattle.reorganise.specs.declared.work.Progress.{Progress}
use Rattle.entry_code.specs.declared.parts.SchemaParts.{SchemaParts}
use Rattle.entry_code.specs.declared.parts.HeadParts.{HeadParts}
use Rattle.entry_code.specs.Code.{u32_code, u64_code, bytes_code, pair_code, list_code, option_code, versioned, state_code, kind_code, columns_code}
use Rattle.entry_code.specs.Known.{IsU32, IsU64, IsByteString, IsText, IsPair, IsList, IsOption, IsAny, IsKind, AreColumns}

-- ---- elements and reorganisations

abbrev pub way_code : Way → List ℕ
way_code Adding = 0 ∷ []
way_code Dropping = 1 ∷ []

abbrev pub element_code : ElementDef → List ℕ
element_code e = u32_code e.number ++ (u32_code e.table ++ (bytes_code e.name ++ (kind_code e.kind ++ (state_code e.state ++ way_code e.way))))

abbrev pub work_code : Work → List ℕ
work_code Fill = 0 ∷ []
work_code Clear = 1 ∷ []

-- a piece's bounds, and how far it has come
abbrev pub span_code : Span → List ℕ
span_code span = bytes_code span.low ++ (bytes_code span.high ++ bytes_code span.cursor)

abbrev pub progress_code : Progress → List ℕ
progress_code progress = element_code progress.element ++ (work_code progress.kind ++ list_code span_code progress.pieces)

-- ---- versions and heads

-- the tables with their keys, the live elements and the next free number
abbrev pub schema_code : SchemaParts → List ℕ
schema_code schema = list_code (pair_code bytes_code columns_code) schema.tables ++ (list_code element_code schema.elements ++ u32_code schema.next)

-- a head without the version of the code
abbrev pub parts_code : HeadParts → List ℕ
parts_code head =
    u64_code head.place ++ (u64_code head.moment ++ (u64_code head.length ++ (list_code u64_code head.published ++ (schema_code head.newest ++ (option_code schema_code head.before ++ list_code progress_code head.begun)))))

-- ---- what is handed out

abbrev pub head_parts_code : HeadParts → List ℕ
head_parts_code = versioned parts_code

-- keys with their values
abbrev pub pairs_code : List (List ℕ × List ℕ) → List ℕ
pairs_code = versioned (list_code (pair_code bytes_code bytes_code))

-- ---- what types say, where the values of columns are as V says

abbrev pub IsElement : (Value → Type 0) → ElementDef → Type 0
IsElement V e = IsU32 e.number × (IsU32 e.table × (IsText e.name × (IsKind V e.kind × (Unit {0} × Unit {0}))))

abbrev pub IsSpan : Span → Type 0
IsSpan span = IsByteString span.low × (IsByteString span.high × IsByteString span.cursor)

abbrev pub IsProgress : (Value → Type 0) → Progress → Type 0
IsProgress V progress = IsElement V progress.element × (Unit {0} × IsList IsSpan progress.pieces)

abbrev pub IsSchema : (Value → Type 0) → SchemaParts → Type 0
IsSchema V schema = IsList (IsPair IsText AreColumns) schema.tables × (IsList (IsElement V) schema.elements × IsU32 schema.next)

abbrev pub IsHead : (Value → Type 0) → HeadParts → Type 0
IsHead V head =
    IsU64 head.place × (IsU64 head.moment × (IsU64 head.length × (IsList IsU64 head.published × (IsSchema V head.newest × (IsOption (IsSchema V) head.before × IsList (IsProgress V) head.begun)))))

abbrev pub ArePairs : List (List ℕ × List ℕ) → Type 0
ArePairs = IsList (IsPair IsByteString IsByteString)
