-- Cited by the contracts of answer_page, lemma_pages_are_whole.
-- What a page of a query has, and what pages are together.
use Rattle.std.specs.Prelude.{◌≡◌, ℕ, ◌≤◌, zero, suc, List, [], ◌∷◌, Option, Some, None, Bool, true, false, ◌&&◌, filter, take}
use Rattle.std.specs.Ordering.{is_lt}
use Rattle.std.specs.List.{flat_map}
use Rattle.keycode.specs.declared.value.Value.{Value}
use Rattle.keycode.specs.Order.{values_cmp}
use Rattle.row_map.specs.declared.shape.Row.{Row}
use Rattle.row_page.specs.declared.page.RowPage.{RowPage}
use Rattle.row_page.specs.declared.range.KeyRange.{KeyRange}

abbrev pub is_after : Option (List Value) → List Value → Bool
is_after None key = true
is_after (Some low) key = is_lt (values_cmp low key)

abbrev pub is_before : Option (List Value) → List Value → Bool
is_before None key = true
is_before (Some high) key = is_lt (values_cmp key high)

-- whether a key is in a range, of whose two keys neither is in it
abbrev pub is_in_range : KeyRange → List Value → Bool
is_in_range range key = is_after range.after key && is_before range.before key

-- the rows whose key is in the range
abbrev pub rows_within : KeyRange → List Row → List Row
rows_within range rows = filter (λ row. is_in_range range row.key) rows

-- whether there are more than so many rows
abbrev pub has_more : ℕ → List Row → Bool
has_more limit [] = false
has_more zero (row ∷ rows) = true
has_more (suc limit) (row ∷ rows) = has_more limit rows

-- the first so many rows, and whether there are more
abbrev pub page_of : ℕ → List Row → RowPage
page_of limit rows = record { rows = take limit rows; more = has_more limit rows }

-- the key of the last row, if there is one
abbrev pub last_key : Option (List Value) → List Row → Option (List Value)
last_key before [] = before
last_key before (row ∷ rows) = last_key (Some row.key) rows

-- the range after the last row of a page
abbrev pub range_after : KeyRange → RowPage → KeyRange
range_after range page = record range { after = last_key range.after page.rows }

-- a page of one row or more, unless no row is left
abbrev pub IsPage : List Row → KeyRange → RowPage → Type 0
IsPage all range page = (limit : ℕ) × (1 ≤ limit) × (page ≡ page_of limit (rows_within range all))

-- pages, each asked after the last key of the one before, as long as there are more
abbrev pub ArePages : List Row → KeyRange → List RowPage → Type 0
ArePages all range [] = ⊥
ArePages all range (page ∷ []) = IsPage all range page × (page.more ≡ false)
ArePages all range (page ∷ next ∷ pages) = IsPage all range page × (page.more ≡ true) × ArePages all (range_after range page) (next ∷ pages)

abbrev pub all_rows : List RowPage → List Row
all_rows pages = flat_map (λ page. page.rows) pages
