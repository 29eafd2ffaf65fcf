-- Cited by the contracts of check_page, row_ranges, given_ranges and lemma_ranges_are_enough.
-- A page of a store's pairs: those from a key on, and what they count for.
use Rattle.std.specs.Prelude.{◌≡◌, Bool, not, List, Option, Some, None, count_by, sum_by}
use Rattle.std.specs.FinMap as map
use Rattle.std.specs.FinMap.Entries.{where_key}
use Rattle.std.specs.Ordering.{is_lt}
use Rattle.keycode.specs.Order.{bytes_cmp}
use Rattle.row_map.specs.Ranges.{is_within}
use Rattle.row_map.specs.Rows.{Bytes, Pairs}
use Rattle.schema_version.specs.Version.{Version}
use Rattle.audit.specs.declared.report.CheckReport.{CheckReport}
use Rattle.audit.specs.Audit.{Pair, has_reason, is_exists_pair, missing_beside}

-- whether a key is on the page that begins at low and ends below to, or goes on to the store's end
abbrev pub is_on_page : Bytes → Option Bytes → Bytes → Bool
is_on_page low None key = not (is_lt (bytes_cmp key low))
is_on_page low (Some to) key = is_within low to key

-- those of the pairs that are on the page
abbrev pub on_page : Bytes → Option Bytes → List Pair → List Pair
on_page low to pairs = where_key bytes_cmp (is_on_page low to) pairs

-- the store's pairs on the page, in the order of their keys
abbrev pub page_of : Pairs → Bytes → Option Bytes → List Pair
page_of pairs low to = on_page low to (map.entries pairs)

-- what these pairs count for in an audit of the store
pub record IsPageAudit (version : Version) (store : Pairs) (page : List Pair) (report : CheckReport) : Type 0 where
  pub rows : report.rows ≡ count_by is_exists_pair page
  pub missing : report.missing ≡ sum_by (missing_beside version store) page
  pub extra : report.extra ≡ count_by (λ pair. not (has_reason version store pair)) page
