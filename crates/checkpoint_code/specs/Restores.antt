-- Cited by private functions alone: schema_from, before_from.
-- A version from its parts, and the version before the newest.
use Rattle.std.specs.Prelude.{◌≡◌, Option, Some, None, ◌⊎◌, ⊤}
use Rattle.schema_version.specs.Version.{Version}
use Rattle.schema_version.specs.Restored.{version_with}
use Rattle.entry_code.specs.declared.parts.SchemaParts.{SchemaParts}
use Rattle.checkpoint_code.specs.Head.{IsVersion}
use Rattle.checkpoint_code.specs.declared.fault.HeadFault.{HeadFault}
use Rattle.checkpoint_code.specs.declared.fault.HeadFault.TheVariants as head
use Rattle.entry_code.specs.declared.fault.CodeFault.{CodeFault}
use Rattle.entry_code.specs.declared.fault.CodeFault.TheVariants as code

abbrev pub version_of : SchemaParts → Version
version_of parts = version_with parts.tables parts.elements parts.next

-- the version with these parts, if there are any
abbrev pub IsBefore : Option SchemaParts → Option Version → Type 0
IsBefore None None = ⊤
IsBefore None (Some version) = ⊥
IsBefore (Some parts) None = ⊥
IsBefore (Some parts) (Some version) = (version ≡ version_of parts) × IsVersion parts

-- why there is no such version
abbrev pub HasNoBefore : Option SchemaParts → HeadFault → Type 0
HasNoBefore parts fault = (fault ≡ head.Memory) ⊎ ((fault ≡ head.BadBefore) × ((before : SchemaParts) × (parts ≡ Some before) × (¬ (IsVersion before))))

-- the fault of a head whose parts are not read
abbrev pub to_fault : CodeFault → HeadFault
to_fault code.Version = head.Version
to_fault code.Trailing = head.Trailing
to_fault code.Malformed = head.Malformed
to_fault code.Memory = head.Memory
