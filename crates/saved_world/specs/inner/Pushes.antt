-- Cited by private functions alone: push_pages.
-- Pages that were added to bytes, and the pairs that are left.
use Rattle.std.specs.Prelude.{◌≡◌, ℕ, List, ◌++◌}
use Rattle.std.specs.List.{AllByRecursion}
use Rattle.checkpoint_code.specs.Page.{Page}
use Rattle.saved_world.specs.Saved.{IsPageOf, pages_code, joined}

pub record ArePushed (limit : ℕ) (before out : List ℕ) (all left : Page) : Type 0 where
  pub pages : List Page
  pub are_pages : AllByRecursion (IsPageOf limit) pages
  pub joins : joined pages ++ left ≡ all
  pub code : out ≡ before ++ pages_code pages
