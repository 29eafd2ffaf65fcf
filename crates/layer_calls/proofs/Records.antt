-- Cited by the answers of version and of reorg.
use Rattle.std.proofs.Common.{◌≡◌, ◌≢◌, ◌⊎◌, inl, inr, refl, subst, ap, ◌∙◌, Result, Ok, Err, IfOk, IfErr}
use Rattle.std.specs.Prelude.{⊤}
use Rattle.keycode.specs.Valid.{IsStorable}
use Rattle.row_map.specs.Rows.{Bytes}
use Rattle.schema_version.specs.Version.{Version}
use Rattle.drafts.specs.declared.record.Record.{Record}
use Rattle.drafts.specs.declared.record.Record.TheVariants.{Version as OfVersion}
use Rattle.record_code.specs.Read.{number_of, IsRecordRead}
use Rattle.record_code.specs.Records.{record_code, IsKnown, kind_of}
use Rattle.record_code.specs.declared.fault.RecordFault.{RecordFault}
use Rattle.record_code.specs.declared.fault.RecordFault.TheVariants.{Version as OtherFormat, Trailing, Malformed, Unsound, Memory}
use Rattle.record_code.specs.declared.kind.RecordKind.TheVariants.{Version as AVersion}
use Rattle.handles.specs.Bounded.{IsNoCode}
use Rattle.handles.specs.Statuses.{bad_code, out_of_memory}
use Rattle.layer_calls.specs.Given.{alone, record_refusal, GivesVersion}
use Rattle.layer_calls.specs.declared.outcome.LayerOutcome.{LayerOutcome}

-- memory did not run out
abbrev IsOther : RecordFault → Type 0
IsOther OtherFormat = ⊤
IsOther Trailing = ⊤
IsOther Malformed = ⊤
IsOther Unsound = ⊤
IsOther Memory = ⊥

module _ {X : Type 0} (P : X → Type 0) (code : X → Bytes) (bytes : Bytes) (outcome : LayerOutcome) where
  pub refused_so : (fault : RecordFault) → ((x : X) → P x → bytes ≡ code x → fault ≡ Memory) → outcome ≡ record_refusal fault → (outcome ≡ alone out_of_memory) ⊎ ((outcome ≡ alone bad_code) × IsNoCode P code bytes)
  refused_so OtherFormat accepted is = inr (is, λ x known spelled. subst IsOther (accepted x known spelled) tt)
  refused_so Trailing accepted is = inr (is, λ x known spelled. subst IsOther (accepted x known spelled) tt)
  refused_so Malformed accepted is = inr (is, λ x known spelled. subst IsOther (accepted x known spelled) tt)
  refused_so Unsound accepted is = inr (is, λ x known spelled. subst IsOther (accepted x known spelled) tt)
  refused_so Memory accepted is = inl is

pub version_so : (bytes : Bytes) (r : Record) (result : Result Version LayerOutcome) → IsRecordRead AVersion bytes (Ok r) → IfOk result (λ version. r ≡ OfVersion version) → IfErr result (λ outcome. (outcome ≡ alone out_of_memory) ⊎ (kind_of r ≢ number_of AVersion)) → GivesVersion bytes result
version_so bytes r (Ok version) read is refused = (version, subst (IsKnown IsStorable) is read.2, read.0 ∙ ap record_code is, refl)
version_so bytes r (Err outcome) read is refused = elim refused [ inl memory ↦ inl memory | inr other ↦ absurd (other read.1) ]
