-- Cited by the contracts of record_bytes, r, open_bytes and runs_agree_in_bytes.
-- Control records as bytes.
use Rattle.std.specs.Prelude.{◌≡◌, ℕ, List, [], ◌∷◌, ⊤}
use mathlib.Core.List.{map as each}
use Rattle.keycode.specs.declared.value.Value.{Value}
use Rattle.keycode.specs.Valid.{IsValue}
use Rattle.row_map.specs.Rows.{Bytes}
use Rattle.schema_version.specs.Restored.{part_of}
use Rattle.schema_version.specs.Sound.{IsSoundVersion}
use Rattle.schema_version.specs.Version.{Version, live}
use Rattle.entry_code.specs.declared.parts.SchemaParts.{SchemaParts}
use Rattle.entry_code.specs.declared.parts.ReorgParts.{ReorgParts}
use Rattle.entry_code.specs.Parts.{IsSchema}
use Rattle.entry_code.specs.Records.{schema_parts_code, reorg_parts_code, IsReorgParts}
use Rattle.drafts.specs.declared.record.Reorg.{Reorg}
use Rattle.drafts.specs.declared.record.Record.{Record}
use Rattle.drafts.specs.declared.record.Record.TheVariants.{Version as OfVersion, Reorg as OfReorg, Cursor as OfCursor, Mark as OfMark}

-- the parts of a version
abbrev pub schema_parts : Version → SchemaParts
schema_parts version = record { tables = each part_of version.tables; elements = live version; next = version.next }

-- the parts of a reorganisation
abbrev pub reorg_parts : Reorg → ReorgParts
reorg_parts reorg = record { element = reorg.element; work = reorg.work; bounds = reorg.bounds }

-- the version of the code, then the parts of a version or a reorganisation, the key of a cursor, or nothing
abbrev pub record_code : Record → Bytes
record_code (OfVersion version) = schema_parts_code (schema_parts version)
record_code (OfReorg reorg) = reorg_parts_code (reorg_parts reorg)
record_code (OfCursor cursor) = 1 ∷ cursor
record_code OfMark = 1 ∷ []

-- what types say of a record, where the values of columns are as V says
abbrev pub IsKnown : (Value → Type 0) → Record → Type 0
IsKnown V (OfVersion version) = IsSoundVersion version × IsSchema V (schema_parts version)
IsKnown V (OfReorg reorg) = IsReorgParts V (reorg_parts reorg)
IsKnown V (OfCursor cursor) = ⊤
IsKnown V OfMark = ⊤

abbrev pub HasRecord : Record → Type 0
HasRecord = IsKnown IsValue

-- ---- kinds

-- the first number of a record's key
abbrev pub kind_of : Record → ℕ
kind_of (OfVersion version) = 0
kind_of (OfReorg reorg) = 1
kind_of (OfCursor cursor) = 2
kind_of OfMark = 3

-- the record is of the key's kind
abbrev pub IsUnder : List ℕ → Record → Type 0
IsUnder [] r = ⊥
IsUnder (kind ∷ rest) r = kind ≡ kind_of r
