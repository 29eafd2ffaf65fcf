-- Cited by private functions alone: restored, reorg_from, to_fault.
-- The records with some parts, and the fault of a record whose parts are not read.
use Rattle.std.specs.Prelude.{◌≡◌, Result, Ok, Err, ⊤}
use Rattle.schema_version.specs.Restored.{version_with}
use Rattle.schema_version.specs.Version.{Version}
use Rattle.entry_code.specs.declared.fault.CodeFault.{CodeFault}
use Rattle.entry_code.specs.declared.fault.CodeFault.TheVariants as code
use Rattle.drafts.specs.declared.record.Reorg.{Reorg}
use Rattle.entry_code.specs.declared.parts.ReorgParts.{ReorgParts}
use Rattle.entry_code.specs.declared.parts.SchemaParts.{SchemaParts}
use Rattle.drafts.specs.declared.record.Record.{Record}
use Rattle.drafts.specs.declared.record.Record.TheVariants.{Version as OfVersion}
use Rattle.record_code.specs.declared.fault.RecordFault.{RecordFault}
use Rattle.record_code.specs.declared.fault.RecordFault.TheVariants as record_fault
use Rattle.record_code.specs.Read.{IsVersion}

abbrev pub version_of : SchemaParts → Version
version_of parts = version_with parts.tables parts.elements parts.next

abbrev pub reorg_with : ReorgParts → Reorg
reorg_with parts = record { element = parts.element; work = parts.work; bounds = parts.bounds }

abbrev pub IsRestored : SchemaParts → Result Record RecordFault → Type 0
IsRestored parts (Ok r) = (r ≡ OfVersion (version_of parts)) × IsVersion parts
IsRestored parts (Err record_fault.Unsound) = ¬ (IsVersion parts)
IsRestored parts (Err record_fault.Memory) = ⊤
IsRestored parts (Err record_fault.Version) = ⊥
IsRestored parts (Err record_fault.Trailing) = ⊥
IsRestored parts (Err record_fault.Malformed) = ⊥

abbrev pub to_fault : CodeFault → RecordFault
to_fault code.Version = record_fault.Version
to_fault code.Trailing = record_fault.Trailing
to_fault code.Malformed = record_fault.Malformed
to_fault code.Memory = record_fault.Memory
