-- Cited by the contracts of RecordKind::of and record_of.
-- What a reader of control records reports.
use Rattle.std.specs.Prelude.{◌≡◌, ◌≢◌, ℕ, [], ◌∷◌, Result, Ok, Err}
use Rattle.keycode.specs.Valid.{IsStorable}
use Rattle.row_map.specs.Rows.{Bytes}
use Rattle.schema_version.specs.Restored.{IsRestorable}
use Rattle.entry_code.specs.declared.parts.SchemaParts.{SchemaParts}
use Rattle.entry_code.specs.Parts.{IsSchema}
use Rattle.entry_code.specs.Read.{HasVersion, HasTrail, HasNone}
use Rattle.entry_code.specs.Records.{schema_parts_code, reorg_parts_code, IsReorgParts}
use Rattle.drafts.specs.declared.record.Record.{Record}
use Rattle.record_code.specs.declared.fault.RecordFault.{RecordFault}
use Rattle.record_code.specs.declared.fault.RecordFault.TheVariants.{Version as OtherVersion, Trailing, Malformed, Unsound, Memory}
use Rattle.record_code.specs.declared.kind.RecordKind.{RecordKind}
use Rattle.record_code.specs.declared.kind.RecordKind.TheVariants.{Version, Reorg, Cursor, Mark}
use Rattle.record_code.specs.Records.{record_code, IsKnown, kind_of}

-- the first number of the keys of this kind
abbrev pub number_of : RecordKind → ℕ
number_of Version = 0
number_of Reorg = 1
number_of Cursor = 2
number_of Mark = 3

-- these are the parts of a sound version
abbrev pub IsVersion : SchemaParts → Type 0
IsVersion parts = IsRestorable parts.tables parts.elements parts.next

-- a proper prefix of the bytes is the code of a record of this kind, or of parts of no version
abbrev pub HasTrailOf : RecordKind → Bytes → Type 0
HasTrailOf Version bytes = HasTrail (IsSchema IsStorable) schema_parts_code bytes
HasTrailOf Reorg bytes = HasTrail (IsReorgParts IsStorable) reorg_parts_code bytes
HasTrailOf Cursor bytes = ⊥
HasTrailOf Mark bytes = (rest : Bytes) × (rest ≢ []) × (bytes ≡ 1 ∷ rest)

-- neither the bytes nor a prefix of them is
abbrev pub HasNoneOf : RecordKind → Bytes → Type 0
HasNoneOf Version bytes = HasNone (IsSchema IsStorable) schema_parts_code bytes
HasNoneOf Reorg bytes = HasNone (IsReorgParts IsStorable) reorg_parts_code bytes
HasNoneOf Cursor bytes = ⊥
HasNoneOf Mark bytes = ⊥

-- the bytes are the code of parts that no sound version has
abbrev pub IsUnsound : RecordKind → Bytes → Type 0
IsUnsound Version bytes = (parts : SchemaParts) × (bytes ≡ schema_parts_code parts) × (¬ (IsVersion parts))
IsUnsound Reorg bytes = ⊥
IsUnsound Cursor bytes = ⊥
IsUnsound Mark bytes = ⊥

-- what is read has these bytes as its code; each refusal has its reason
abbrev pub IsRecordRead : RecordKind → Bytes → Result Record RecordFault → Type 0
IsRecordRead kind bytes (Ok r) = (bytes ≡ record_code r) × (kind_of r ≡ number_of kind) × IsKnown IsStorable r
IsRecordRead kind bytes (Err OtherVersion) = ¬ (HasVersion bytes)
IsRecordRead kind bytes (Err Trailing) = HasTrailOf kind bytes
IsRecordRead kind bytes (Err Malformed) = HasVersion bytes × HasNoneOf kind bytes
IsRecordRead kind bytes (Err Unsound) = IsUnsound kind bytes
IsRecordRead kind bytes (Err Memory) = HasVersion bytes

-- and what has these bytes as its code is read, unless memory runs out
abbrev pub IsRecordAccepted : RecordKind → Bytes → Result Record RecordFault → Type 0
IsRecordAccepted kind bytes (Ok read) = (r : Record) → kind_of r ≡ number_of kind → IsKnown IsStorable r → bytes ≡ record_code r → read ≡ r
IsRecordAccepted kind bytes (Err fault) = (r : Record) → kind_of r ≡ number_of kind → IsKnown IsStorable r → bytes ≡ record_code r → fault ≡ Memory
