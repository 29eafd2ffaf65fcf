-- Cited by the contracts of Pages::next_page.
-- A page of the pairs that are left.
use Rattle.std.specs.Prelude.{◌≡◌, ◌≢◌, ℕ, ◌==◌, List, [], take, drop, if◌then◌else◌}
use Rattle.entry_code.specs.Parts.{pairs_code, ArePairs}
use Rattle.checkpoint_code.specs.Page.{Page}

-- a page has at least one pair
abbrev pub page_size : ℕ → ℕ
page_size limit = if limit == 0 then 1 else limit

-- the bytes are those of the next pairs, at most so many, and the others are left
pub record IsNextPage (limit : ℕ) (old : Page) (bytes : List ℕ) (new : Page) : Type 0 where
  pub some : old ≢ []
  pub code : bytes ≡ pairs_code (take (page_size limit) old)
  pub known : ArePairs (take (page_size limit) old)
  pub left : new ≡ drop (page_size limit) old
