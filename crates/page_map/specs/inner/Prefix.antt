-- Cited by private functions alone: Page::begins_above, Page::first_prefix, Chunk::begins_above, prefix_of.
-- The prefix of a key: its first 24 bytes as three numbers. If two prefixes differ, the keys are in
-- the order of their prefixes.
use Rattle.std.specs.Prelude.{◌≡◌, ℕ, List}
use Rattle.byte_map.specs.Numbers.{AreBytes, words_of}
use Rattle.byte_map.specs.Sorted.{Entries}
use Rattle.page_map.specs.Pages.{Stands}

-- the numbers are the first 24 bytes, with zeros after the end
pub record IsPrefix (prefix : ℕ × ℕ × ℕ) (key : List ℕ) : Type 0 where
  pub bytes : AreBytes key
  pub is : prefix ≡ words_of key

-- the first pair's key has this prefix
abbrev pub HasPrefix : {X : Type 0} → Entries X → ℕ × ℕ × ℕ → Type 0
HasPrefix {X} pairs prefix = (first : List ℕ × X) → Stands pairs 0 first → IsPrefix prefix first.0
