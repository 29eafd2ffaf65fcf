-- Cited by a private type alone: Walk.
-- The pairs from a place in chunks on.
use Rattle.std.specs.Prelude.{◌≡◌, List, [], ℕ}
use Rattle.byte_map.specs.Sorted.{Entries}
use Rattle.page_map.specs.Pages.{AllFull}

-- the pairs that are left of the first chunk, and the chunks after it
pub record IsWalk (pages : Entries (List ℕ)) (behind : List (Entries (List ℕ))) : Type 0 where
  pub more : pages ≡ [] → behind ≡ []
  pub full : AllFull behind
