-- Cited by the contracts of scan_page, lemma_pages_are_whole.
-- Pages of a table: how far their rows are whole, and what they are together.
use Rattle.std.specs.Prelude.{◌≡◌, ℕ, ◌≤◌, List, [], ◌∷◌, ◌++◌, Option, Some, None, Bool, filter, length, is_some, if◌then◌else◌}
use Rattle.std.specs.declared.cmp.Ordering.TheVariants.{Less}
use Rattle.std.specs.Ordering.{is_le}
use Rattle.std.specs.List.{flat_map}
use Rattle.keycode.specs.Order.{bytes_cmp}
use Rattle.row_map.specs.declared.shape.Row.{Row}
use Rattle.row_map.specs.Rows.{Bytes, Pairs}
use Rattle.row_map.specs.Walk.{key_range}
use Rattle.schema_version.specs.Version.{Version}
use Rattle.row_query.specs.declared.query.Query.{Query}
use Rattle.row_query.specs.inner.Bounds.{table_end}
use Rattle.row_query.specs.inner.Found.{row_key_in}
use Rattle.row_ask.specs.declared.table_page.ScanPage.{ScanPage}
use Rattle.row_ask.specs.Remaining.{rows_between, rows_after}

-- whether a pair is the `exists` pair of a row of the table
abbrev pub is_row : ℕ → Bytes × Bytes → Bool
is_row table pair = is_some (row_key_in table pair.0)

-- the last `exists` key of the table in the walk
abbrev pub last_row_at : ℕ → Bytes → List (Bytes × Bytes) → Bytes
last_row_at table before [] = before
last_row_at table before (p ∷ ps) = last_row_at table (if is_row table p then p.0 else before) ps

-- from where on to read after a page: nowhere if it reached the table's end, else from its last `exists` key, whose row may go on
abbrev pub next_low : ℕ → Bytes → Bytes → List (Bytes × Bytes) → Option Bytes
next_low table low to page = if is_le (bytes_cmp (table_end table) to) then None else Some (last_row_at table low page)

-- a page with the `exists` pairs of two rows
abbrev pub HasTwoRows : ℕ → List (Bytes × Bytes) → Type 0
HasTwoRows table page = 2 ≤ length (filter (is_row table) page)

-- the next page begins above this key, or there is none
abbrev pub GoesOn : Bytes → Option Bytes → Type 0
GoesOn low None = Unit {0}
GoesOn low (Some next) = bytes_cmp low next ≡ Less

-- how many pairs of the store are from this key to the table's end, and none after the last page
abbrev pub pairs_after : Pairs → ℕ → Option Bytes → ℕ
pairs_after store table None = 0
pairs_after store table (Some low) = length (key_range store low (table_end table))

-- a page from this key on, as scan_page gives it
abbrev pub IsPage : Version → Pairs → Query → Bytes → ScanPage → Type 0
IsPage version store query low page = page.rows ++ rows_after version store query page.next ≡ rows_between version store query low (table_end query.table)

-- pages, each read from where the one before says, and nothing after the last
abbrev pub ArePages : Version → Pairs → Query → Bytes → List ScanPage → Type 0
ArePages version store query low [] = ⊥
ArePages version store query low (page ∷ []) = IsPage version store query low page × (page.next ≡ None)
ArePages version store query low (page ∷ next ∷ pages) = IsPage version store query low page × ((from : Bytes) × (page.next ≡ Some from) × ArePages version store query from (next ∷ pages))

abbrev pub all_rows : List ScanPage → List Row
all_rows pages = flat_map (λ page. page.rows) pages
