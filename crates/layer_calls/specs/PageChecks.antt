-- Cited by the contracts of check_rows, check_given, check_page and of what they call.
-- The audit of a store page by page.
use Rattle.std.specs.Prelude.{◌≡◌, ◌⊎◌, List, [], ◌∷◌, Option, Some, None, Result, Ok, Err}
use Rattle.audit.specs.declared.report.CheckReport.{CheckReport}
use Rattle.entry_code.specs.Parts.{pairs_code}
use Rattle.handles.specs.declared.snapshot_calls.CheckOutcome.{CheckOutcome}
use Rattle.handles.specs.Statuses.{out_of_memory}
use Rattle.page_check.specs.Page.{page_of, IsPageAudit}
use Rattle.page_check.specs.Needs.{row_ranges, given_ranges}
use Rattle.row_map.specs.Rows.{Bytes, Pairs}
use Rattle.schema_version.specs.Version.{Version}
use Rattle.layer_calls.specs.Audits.{check_outcome}
use Rattle.layer_calls.specs.Given.{alone, Answer, Replies, GivesVersion, GivesPairs}
use Rattle.layer_calls.specs.declared.outcome.LayerOutcome.{LayerOutcome}

-- the key below which a page ends: no byte is none, and the page goes on to the end of the store
abbrev pub page_end : Bytes → Option Bytes
page_end [] = None
page_end (byte ∷ bytes) = Some (byte ∷ bytes)

-- the code of these ranges, or memory ran out
abbrev pub CodesThese : List (Bytes × Bytes) → Answer → Type 0
CodesThese ranges (Ok reply) = Replies (pairs_code ranges) reply
CodesThese ranges (Err outcome) = outcome ≡ alone out_of_memory

-- the ranges of the rows that the page names
abbrev pub PageRows : Version → Bytes → Bytes → Pairs → Answer → Type 0
PageRows version low to read answer = CodesThese (row_ranges version low (page_end to) (page_of read low (page_end to))) answer

-- the ranges of the pairs that its rows give
abbrev pub PageGiven : Version → Bytes → Bytes → Pairs → Answer → Type 0
PageGiven version low to read answer = CodesThese (given_ranges version read low (page_end to) (page_of read low (page_end to))) answer

-- what the page counts for; or the record or the pairs are none, or memory ran out
abbrev pub AuditsPageGiven : Bytes → Bytes → Bytes → Bytes → Result CheckReport LayerOutcome → Type 0
AuditsPageGiven version pairs low to (Ok report) =
    (schema : Version) × (read : Pairs) × GivesVersion version (Ok schema) × GivesPairs pairs (Ok read) × IsPageAudit schema read (page_of read low (page_end to)) report
AuditsPageGiven version pairs low to (Err outcome) = (outcome ≡ alone out_of_memory) ⊎ (GivesVersion version (Err outcome) ⊎ GivesPairs pairs (Err outcome))

abbrev pub AuditsPage : Bytes → Bytes → Bytes → Bytes → CheckOutcome → Type 0
AuditsPage version pairs low to outcome = (answer : Result CheckReport LayerOutcome) × AuditsPageGiven version pairs low to answer × (outcome ≡ check_outcome answer)
