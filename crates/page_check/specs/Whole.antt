-- Cited by the contracts of lemma_ranges_are_enough, lemma_pages_are_the_audit, lemma_no_page_counts_more.
-- Pages that follow one another, and what they count for together.
use Rattle.std.specs.Prelude.{◌≡◌, ◌≤◌, ◌+◌, true, List, [], ◌∷◌, Option, Some, None}
use Rattle.std.specs.Ordering.{is_le}
use Rattle.keycode.specs.Order.{bytes_cmp}
use Rattle.row_map.specs.Rows.{Bytes, Pairs}
use Rattle.schema_version.specs.Sound.{IsSoundVersion}
use Rattle.schema_version.specs.Version.{Version}
use Rattle.audit.specs.declared.report.CheckReport.{CheckReport}
use Rattle.audit.specs.Audit.{IsAudit}
use Rattle.page_check.specs.Page.{page_of, IsPageAudit}
use Rattle.page_check.specs.Needs.{IsPageRead, AreRead, row_ranges, given_ranges}

-- the ranges of a page's rows, and then of the pairs that these give by what was read first, are all that the page needs
abbrev pub RangesAreEnough : Type 0
RangesAreEnough = (version : Version) (store first read : Pairs) (low : Bytes) (to : Option Bytes) → IsSoundVersion version
    → page_of first low to ≡ page_of store low to → AreRead store first (row_ranges version low to (page_of store low to))
    → page_of read low to ≡ page_of store low to → AreRead store read (row_ranges version low to (page_of store low to)) → AreRead store read (given_ranges version first low to (page_of store low to))
    → IsPageRead version store read low to

-- a page that was checked: what was read for it, the key below which it ends, none for the last, and what was counted
pub record CheckedPage : Type 0 where
  pub read : Pairs
  pub to : Option Bytes
  pub report : CheckReport

-- all that the page needs was read, and what was counted is what its pairs count for by what was read
abbrev pub IsChecked : Version → Pairs → Bytes → CheckedPage → Type 0
IsChecked version store low page = IsPageRead version store page.read low page.to × IsPageAudit version page.read (page_of page.read low page.to) page.report

-- pages, each from the end of the one before on, and the last to the store's end
abbrev pub AreChecked : Version → Pairs → Bytes → List CheckedPage → Type 0
AreChecked version store low [] = ⊥
AreChecked version store low (page ∷ []) = IsChecked version store low page × (page.to ≡ None)
AreChecked version store low (page ∷ next ∷ pages) = IsChecked version store low page × ((to : Bytes) × (page.to ≡ Some to) × (is_le (bytes_cmp low to) ≡ true) × AreChecked version store to (next ∷ pages))

-- what the pages count for together
abbrev pub total : List CheckedPage → CheckReport
total [] = record { rows = 0; missing = 0; extra = 0 }
total (page ∷ pages) = record { rows = page.report.rows + (total pages).rows; missing = page.report.missing + (total pages).missing; extra = page.report.extra + (total pages).extra }

-- the pages from the first key on are the audit of the store
abbrev pub PagesAreTheAudit : Type 0
PagesAreTheAudit = (version : Version) (store : Pairs) (pages : List CheckedPage) → IsSoundVersion version → AreChecked version store [] pages → IsAudit version store (total pages)

-- a page of a store has no more rows, missing pairs and extra pairs than the store
abbrev pub NoPageCountsMore : Type 0
NoPageCountsMore = (version : Version) (store : Pairs) (low : Bytes) (page : CheckedPage) (report : CheckReport) → IsSoundVersion version → IsChecked version store low page → IsAudit version store report
    → (page.report.rows ≤ report.rows) × (page.report.missing ≤ report.missing) × (page.report.extra ≤ report.extra)
