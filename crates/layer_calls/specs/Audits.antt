-- Cited by the contracts of check, check_page and of what they call.
-- The audit of a store that was read whole.
use Rattle.std.specs.Prelude.{◌≡◌, ◌⊎◌, Result, Ok, Err}
use Rattle.audit.specs.Audit.{IsAudit}
use Rattle.audit.specs.declared.report.CheckReport.{CheckReport}
use Rattle.handles.specs.Snapshots.{check_alone}
use Rattle.handles.specs.declared.snapshot_calls.CheckOutcome.{CheckOutcome}
use Rattle.row_map.specs.Rows.{Bytes, Pairs}
use Rattle.schema_version.specs.Version.{Version}
use Rattle.handles.specs.Statuses.{ok, out_of_memory}
use Rattle.layer_calls.specs.Given.{alone, GivesVersion, GivesPairs}
use Rattle.layer_calls.specs.declared.outcome.LayerOutcome.{LayerOutcome}

-- what the audit counts; or the record or the pairs are none, or memory ran out
abbrev pub AuditsGiven : Bytes → Bytes → Result CheckReport LayerOutcome → Type 0
AuditsGiven version pairs (Ok report) = (schema : Version) × (read : Pairs) × GivesVersion version (Ok schema) × GivesPairs pairs (Ok read) × IsAudit schema read report
AuditsGiven version pairs (Err outcome) = (outcome ≡ alone out_of_memory) ⊎ (GivesVersion version (Err outcome) ⊎ GivesPairs pairs (Err outcome))

abbrev pub check_outcome : Result CheckReport LayerOutcome → CheckOutcome
check_outcome (Ok report) = record { status = ok; rows = report.rows; missing = report.missing; extra = report.extra }
check_outcome (Err outcome) = check_alone outcome.status

abbrev pub Audits : Bytes → Bytes → CheckOutcome → Type 0
Audits version pairs outcome = (answer : Result CheckReport LayerOutcome) × AuditsGiven version pairs answer × (outcome ≡ check_outcome answer)
