-- Records from their parts.
use Rattle.std.proofs.Common.{◌≡◌, Result, Ok, Err, refl, sym, ap, subst, ◌∙◌, get_or}
use Rattle.keycode.specs.Valid.{IsStorable}
use Rattle.row_map.specs.Rows.{Bytes}
use Rattle.schema_version.proofs.Restored.{parts_are_exact}
use Rattle.entry_code.specs.declared.fault.CodeFault.{CodeFault}
use Rattle.entry_code.specs.declared.fault.CodeFault.TheVariants as code
use Rattle.entry_code.specs.declared.parts.SchemaParts.{SchemaParts}
use Rattle.entry_code.specs.declared.parts.ReorgParts.{ReorgParts}
use Rattle.entry_code.specs.Parts.{IsSchema}
use Rattle.entry_code.specs.Read.{IsRead, IsAccepted}
use Rattle.entry_code.specs.Records.{schema_parts_code, reorg_parts_code, IsReorgParts}
use Rattle.drafts.specs.declared.record.Record.{Record}
use Rattle.drafts.specs.declared.record.Record.TheVariants.{Version as OfVersion, Reorg as OfReorg, Cursor as OfCursor, Mark as OfMark}
use Rattle.record_code.specs.declared.fault.RecordFault.{RecordFault}
use Rattle.record_code.specs.declared.fault.RecordFault.TheVariants as fault
use Rattle.record_code.specs.declared.kind.RecordKind.TheVariants.{Version, Reorg}
use Rattle.record_code.specs.Read.{IsVersion, IsRecordRead, IsRecordAccepted}
use Rattle.record_code.specs.Records.{schema_parts, reorg_parts, record_code, IsKnown, kind_of}
use Rattle.record_code.specs.Restored.{version_of, reorg_with, IsRestored, to_fault}
use Rattle.record_code.proofs.Records.{version_back}

parts_back : (p : SchemaParts) → IsVersion p → schema_parts (version_of p) ≡ p
parts_back p is = λ i. record { tables = parts_are_exact.tables p.tables p.elements p.next i; elements = parts_are_exact.live p.tables p.elements p.next is.rising i; next = p.next }

-- ---- versions

pub version_read : (bytes : Bytes) (parts : SchemaParts) (r : Result Record RecordFault) → (bytes ≡ schema_parts_code parts) × IsSchema IsStorable parts → IsRestored parts r → IsRecordRead Version bytes r
version_read bytes parts (Ok r) read is =
    let same = parts_back parts is.1 in
    subst (λ (x : Record). (bytes ≡ record_code x) × (kind_of x ≡ 0) × IsKnown IsStorable x) (sym is.0)
    (read.0 ∙ ap schema_parts_code (sym same), refl, (is.1.sound, subst (IsSchema IsStorable) (sym same) read.1))
version_read bytes parts (Err fault.Version) read is = absurd is
version_read bytes parts (Err fault.Trailing) read is = absurd is
version_read bytes parts (Err fault.Malformed) read is = absurd is
version_read bytes parts (Err fault.Unsound) read is = (parts, read.0, is)
version_read bytes parts (Err fault.Memory) read is = ap (λ (l : Bytes). get_or l 0 0) read.0

pub version_fault : (bytes : Bytes) (f : CodeFault) → IsRead (IsSchema IsStorable) schema_parts_code bytes (Err f) → IsRecordRead Version bytes (Err (to_fault f))
version_fault bytes code.Version is = is
version_fault bytes code.Trailing is = is
version_fault bytes code.Malformed is = is
version_fault bytes code.Memory is = is

version_is : (parts : SchemaParts) (got r : Record) → got ≡ OfVersion (version_of parts) → kind_of r ≡ 0 → IsKnown IsStorable r → (bytes : Bytes) → bytes ≡ record_code r
    → ((p : SchemaParts) → IsSchema IsStorable p → bytes ≡ schema_parts_code p → parts ≡ p) → got ≡ r
version_is parts got (OfVersion v) is kind known bytes spelled only = is ∙ ap (λ (p : SchemaParts). OfVersion (version_of p)) (only (schema_parts v) known.1 spelled) ∙ ap OfVersion (version_back v known.0)
version_is parts got (OfReorg s) is kind known bytes spelled only = absurd cc
version_is parts got (OfCursor c) is kind known bytes spelled only = absurd cc
version_is parts got OfMark is kind known bytes spelled only = absurd cc

-- a sound version is restored
not_unsound : (parts : SchemaParts) (r : Record) → ¬ (IsVersion parts) → kind_of r ≡ 0 → IsKnown IsStorable r → (bytes : Bytes) → bytes ≡ record_code r
    → ((p : SchemaParts) → IsSchema IsStorable p → bytes ≡ schema_parts_code p → parts ≡ p) → ⊥
not_unsound parts (OfVersion v) none kind known bytes spelled only = none (subst IsVersion (sym (only (schema_parts v) known.1 spelled)) (parts_are_exact.restorable v known.0))
not_unsound parts (OfReorg s) none kind known bytes spelled only = absurd cc
not_unsound parts (OfCursor c) none kind known bytes spelled only = absurd cc
not_unsound parts OfMark none kind known bytes spelled only = absurd cc

pub version_accepted : (bytes : Bytes) (parts : SchemaParts) (r : Result Record RecordFault) → IsAccepted (IsSchema IsStorable) schema_parts_code bytes (Ok parts) → IsRestored parts r → IsRecordAccepted Version bytes r
version_accepted bytes parts (Ok got) only is = λ r kind known spelled. version_is parts got r is.0 kind known bytes spelled only
version_accepted bytes parts (Err fault.Version) only is = λ r kind known spelled. absurd is
version_accepted bytes parts (Err fault.Trailing) only is = λ r kind known spelled. absurd is
version_accepted bytes parts (Err fault.Malformed) only is = λ r kind known spelled. absurd is
version_accepted bytes parts (Err fault.Unsound) only is = λ r kind known spelled. absurd (not_unsound parts r is kind known bytes spelled only)
version_accepted bytes parts (Err fault.Memory) only is = λ r kind known spelled. refl

code_of : (bytes : Bytes) (f : CodeFault) (r : Record) → IsAccepted (IsSchema IsStorable) schema_parts_code bytes (Err f) → kind_of r ≡ 0 → IsKnown IsStorable r → bytes ≡ record_code r → f ≡ code.Memory
code_of bytes f (OfVersion v) accepted kind known spelled = accepted (schema_parts v) known.1 spelled
code_of bytes f (OfReorg s) accepted kind known spelled = absurd cc
code_of bytes f (OfCursor c) accepted kind known spelled = absurd cc
code_of bytes f OfMark accepted kind known spelled = absurd cc

pub version_refused : (bytes : Bytes) (f : CodeFault) → IsAccepted (IsSchema IsStorable) schema_parts_code bytes (Err f) → IsRecordAccepted Version bytes (Err (to_fault f))
version_refused bytes f accepted = λ r kind known spelled. ap to_fault (code_of bytes f r accepted kind known spelled)

-- ---- reorganisations

pub reorg_is : (bytes : Bytes) (parts : ReorgParts) (got r : Record) → got ≡ OfReorg (reorg_with parts) → IsAccepted (IsReorgParts IsStorable) reorg_parts_code bytes (Ok parts) → kind_of r ≡ 1 → IsKnown IsStorable r → bytes ≡ record_code r → got ≡ r
reorg_is bytes parts got (OfVersion v) is only kind known spelled = absurd cc
reorg_is bytes parts got (OfReorg s) is only kind known spelled = is ∙ ap (λ (p : ReorgParts). OfReorg (reorg_with p)) (only (reorg_parts s) known spelled)
reorg_is bytes parts got (OfCursor c) is only kind known spelled = absurd cc
reorg_is bytes parts got OfMark is only kind known spelled = absurd cc

reorg_code_of : (bytes : Bytes) (f : CodeFault) (r : Record) → IsAccepted (IsReorgParts IsStorable) reorg_parts_code bytes (Err f) → kind_of r ≡ 1 → IsKnown IsStorable r → bytes ≡ record_code r → f ≡ code.Memory
reorg_code_of bytes f (OfVersion v) accepted kind known spelled = absurd cc
reorg_code_of bytes f (OfReorg s) accepted kind known spelled = accepted (reorg_parts s) known spelled
reorg_code_of bytes f (OfCursor c) accepted kind known spelled = absurd cc
reorg_code_of bytes f OfMark accepted kind known spelled = absurd cc

pub reorg_refused : (bytes : Bytes) (f : CodeFault) → IsAccepted (IsReorgParts IsStorable) reorg_parts_code bytes (Err f) → IsRecordAccepted Reorg bytes (Err (to_fault f))
reorg_refused bytes f accepted = λ r kind known spelled. ap to_fault (reorg_code_of bytes f r accepted kind known spelled)
