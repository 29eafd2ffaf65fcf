-- Cited by the contracts of schema_parts_bytes, reorg_parts_bytes, points_bytes, draft_parts_bytes, their readers, borrowed_draft_bytes and one_code.
-- The one code in bytes of control records and drafts, and what types say of them.
use Rattle.std.specs.Prelude.{ℕ, List, [], ◌∷◌, ◌++◌, Option, Some, None}
use Rattle.std.specs.FinMap as map
use Rattle.keycode.specs.declared.value.Value.{Value}
use Rattle.row_map.specs.declared.expect.KeyRange.{KeyRange}
use Rattle.entry_code.specs.declared.parts.SchemaParts.{SchemaParts}
use Rattle.entry_code.specs.declared.parts.ReorgParts.{ReorgParts}
use Rattle.entry_code.specs.declared.parts.RangeParts.{RangeParts}
use Rattle.entry_code.specs.declared.parts.DraftParts.{DraftParts}
use Rattle.entry_code.specs.Code.{bytes_code, pair_code, list_code, option_code, versioned}
use Rattle.entry_code.specs.Known.{IsByteString, IsPair, IsList, IsOption}
use Rattle.entry_code.specs.Parts.{element_code, work_code, schema_code, IsElement, ArePairs}

-- keys, each with its value or none
abbrev pub Points : Type 0
Points = List (List ℕ × Option (List ℕ))

-- ---- what a draft expects of a range

abbrev pub range_of : KeyRange → RangeParts
range_of part = record { low = part.low; high = part.high; pairs = map.entries part.pairs }

-- the range, if there is one
abbrev pub ranges_of : Option KeyRange → List RangeParts
ranges_of None = []
ranges_of (Some part) = range_of part ∷ []

-- ---- the codes, without the version

abbrev pub pair_list_code : List (List ℕ × List ℕ) → List ℕ
pair_list_code = list_code (pair_code bytes_code bytes_code)

abbrev pub point_list_code : Points → List ℕ
point_list_code = list_code (pair_code bytes_code (option_code bytes_code))

abbrev pub reorg_code : ReorgParts → List ℕ
reorg_code reorg = element_code reorg.element ++ (work_code reorg.work ++ pair_list_code reorg.bounds)

abbrev pub range_code : RangeParts → List ℕ
range_code part = bytes_code part.low ++ (bytes_code part.high ++ pair_list_code part.pairs)

-- what is compared, and what is then written
abbrev pub draft_code : DraftParts → List ℕ
draft_code draft = point_list_code draft.compare ++ (list_code range_code draft.ranges ++ point_list_code draft.write)

-- ---- what is handed out

abbrev pub schema_parts_code : SchemaParts → List ℕ
schema_parts_code = versioned schema_code

abbrev pub reorg_parts_code : ReorgParts → List ℕ
reorg_parts_code = versioned reorg_code

abbrev pub points_code : Points → List ℕ
points_code = versioned point_list_code

abbrev pub draft_parts_code : DraftParts → List ℕ
draft_parts_code = versioned draft_code

-- ---- what types say, where the values of columns are as V says

abbrev pub IsReorgParts : (Value → Type 0) → ReorgParts → Type 0
IsReorgParts V reorg = IsElement V reorg.element × (Unit {0} × ArePairs reorg.bounds)

abbrev pub ArePoints : Points → Type 0
ArePoints = IsList (IsPair IsByteString (IsOption IsByteString))

abbrev pub IsRange : RangeParts → Type 0
IsRange part = IsByteString part.low × (IsByteString part.high × ArePairs part.pairs)

abbrev pub IsDraft : DraftParts → Type 0
IsDraft draft = ArePoints draft.compare × (IsList IsRange draft.ranges × ArePoints draft.write)
