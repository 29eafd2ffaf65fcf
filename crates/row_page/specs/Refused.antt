-- Cited by the contracts of answer_page.
-- Why a page is refused.
use Rattle.std.specs.Prelude.{◌≡◌, ℕ, ◌<◌, List, Option, Some, None, ◌⊎◌}
use Rattle.keycode.specs.declared.value.Value.{Value}
use Rattle.schema_version.specs.Version.{Version, Table, table_at}
use Rattle.row_query.specs.declared.fault.QueryFault.{QueryFault}
use Rattle.row_query.specs.declared.fault.QueryFault.TheVariants.{NoTable, NotPublic, WrongType, Memory}
use Rattle.row_query.specs.declared.query.Query.{Query}
use Rattle.row_query.specs.Refused.{IsTypedKey, IsRefused, rank}
use Rattle.row_page.specs.declared.fault.PageFault.{PageFault}
use Rattle.row_page.specs.declared.fault.PageFault.TheVariants.{BadLimit, Query as Faulty}
use Rattle.row_page.specs.declared.range.KeyRange.{KeyRange}

-- a page has 1 to 1,000 rows
abbrev pub IsBadLimit : ℕ → Type 0
IsBadLimit limit = (limit < 1) ⊎ (1000 < limit)

-- a key that is given and isn't one of the table's
abbrev pub IsBadKey : Table → Option (List Value) → Type 0
IsBadKey table None = ⊥
IsBadKey table (Some key) = ¬ (IsTypedKey table key)

-- the query's table is there, and a key of the range isn't one of its keys
abbrev pub IsBadRange : Version → Query → KeyRange → Type 0
IsBadRange version query range = (table : Table) × (table_at version query.table ≡ Some table) × (IsBadKey table range.after ⊎ IsBadKey table range.before)

-- what is wrong with the query, or else with the range
abbrev pub AskedCondition : Version → Query → KeyRange → QueryFault → Type 0
AskedCondition version query range NoTable = IsRefused version query NoTable
AskedCondition version query range (NotPublic column) = IsRefused version query (NotPublic column)
AskedCondition version query range WrongType = IsRefused version query WrongType ⊎ IsBadRange version query range
AskedCondition version query range Memory = ⊥

-- the limit comes first, and out of memory last
abbrev pub page_rank : PageFault → ℕ
page_rank BadLimit = 0
page_rank (Faulty fault) = rank fault

abbrev pub PageCondition : Version → Query → KeyRange → ℕ → PageFault → Type 0
PageCondition version query range limit BadLimit = IsBadLimit limit
PageCondition version query range limit (Faulty fault) = AskedCondition version query range fault
