-- Cited by the contracts of head_bytes, head_of.
-- The one code in bytes of the head of a checkpoint, and what its reader reports.
use Rattle.std.specs.Prelude.{◌≡◌, ℕ, List, Some, Result, Ok, Err, reverse, IfSome, option_map, ⊤}
use mathlib.Core.List.{map as each}
use Rattle.keycode.specs.declared.value.Value.{Value}
use Rattle.keycode.specs.Valid.{IsStorable}
use Rattle.lease.specs.Timeline.{IsValid}
use Rattle.lease.specs.Restored.{line_of}
use Rattle.schema_version.specs.Version.{Version, live}
use Rattle.schema_version.specs.Sound.{IsSoundVersion}
use Rattle.schema_version.specs.Restored.{part_of, IsRestorable}
use Rattle.entry_code.specs.declared.parts.SchemaParts.{SchemaParts}
use Rattle.entry_code.specs.declared.parts.HeadParts.{HeadParts}
use Rattle.entry_code.specs.Parts.{head_parts_code, IsHead}
use Rattle.entry_code.specs.Read.{HasVersion, HasTrail, HasNone}
use Rattle.checkpoint_code.specs.declared.head.Head.{Head}
use Rattle.checkpoint_code.specs.declared.fault.HeadFault.{HeadFault}
use Rattle.checkpoint_code.specs.declared.fault.HeadFault.TheVariants.{Version as OtherVersion, Trailing, Malformed, BadTimeline, BadNewest, BadBefore, Memory}

-- ---- the code

-- the parts of a version
abbrev pub schema_parts : Version → SchemaParts
schema_parts version = record { tables = each part_of version.tables; elements = live version; next = version.next }

-- the parts of a head
abbrev pub parts_of : Head → HeadParts
parts_of head =
    record {
      place = head.place;
      moment = head.moment;
      length = head.line.length;
      published = reverse head.line.published;
      newest = schema_parts head.newest;
      before = option_map schema_parts head.before;
      begun = head.begun;
    }

-- the code of its parts
abbrev pub head_code : Head → List ℕ
head_code head = head_parts_code (parts_of head)

-- ---- what is read

-- what types say of a head, where the values of columns are as V says
pub record IsKnown (V : Value → Type 0) (head : Head) : Type 0 where
  pub line : IsValid head.line
  pub newest : IsSoundVersion head.newest
  pub before : IfSome head.before IsSoundVersion
  pub parts : IsHead V (parts_of head)

abbrev pub IsVersion : SchemaParts → Type 0
IsVersion parts = IsRestorable parts.tables parts.elements parts.next

-- why there is no head with these parts: the first in the order of the faults
abbrev pub WhyNone : HeadParts → HeadFault → Type 0
WhyNone parts BadTimeline = ¬ (IsValid (line_of parts.length parts.published))
WhyNone parts BadNewest = IsValid (line_of parts.length parts.published) × (¬ (IsVersion parts.newest))
WhyNone parts BadBefore =
    IsValid (line_of parts.length parts.published) × IsVersion parts.newest × ((before : SchemaParts) × (parts.before ≡ Some before) × (¬ (IsVersion before)))
WhyNone parts fault = ⊥

-- the head with these parts, or why there is none
abbrev pub IsMade : HeadParts → Result Head HeadFault → Type 0
IsMade parts (Ok head) = (parts_of head ≡ parts) × IsValid head.line × IsSoundVersion head.newest × IfSome head.before IsSoundVersion
IsMade parts (Err Memory) = ⊤
IsMade parts (Err fault) = WhyNone parts fault

-- the bytes are the code of parts, so that no earlier fault is theirs, of which there is no head, for this reason
abbrev pub HasNoHead : List ℕ → HeadFault → Type 0
HasNoHead bytes fault = (parts : HeadParts) × IsHead IsStorable parts × (bytes ≡ head_parts_code parts) × WhyNone parts fault

-- what is read has these bytes as its code; each refusal has its reason
abbrev pub IsHeadRead : List ℕ → Result Head HeadFault → Type 0
IsHeadRead bytes (Ok head) = (bytes ≡ head_code head) × IsKnown IsStorable head
IsHeadRead bytes (Err OtherVersion) = ¬ (HasVersion bytes)
IsHeadRead bytes (Err Trailing) = HasTrail (IsHead IsStorable) head_parts_code bytes
IsHeadRead bytes (Err Malformed) = HasVersion bytes × HasNone (IsHead IsStorable) head_parts_code bytes
IsHeadRead bytes (Err Memory) = HasVersion bytes
IsHeadRead bytes (Err BadTimeline) = HasNoHead bytes BadTimeline
IsHeadRead bytes (Err BadNewest) = HasNoHead bytes BadNewest
IsHeadRead bytes (Err BadBefore) = HasNoHead bytes BadBefore

-- and what has these bytes as its code is read, unless memory runs out
abbrev pub IsHeadAccepted : List ℕ → Result Head HeadFault → Type 0
IsHeadAccepted bytes (Ok read) = (head : Head) → IsKnown IsStorable head → bytes ≡ head_code head → read ≡ head
IsHeadAccepted bytes (Err fault) = (head : Head) → IsKnown IsStorable head → bytes ≡ head_code head → fault ≡ Memory
