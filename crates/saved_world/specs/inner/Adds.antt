-- Cited by private functions alone: add_pairs.
-- Pairs put into a store after all that are there.
use Rattle.std.specs.Prelude.{◌≡◌, Option, ◌++◌, ◌⊎◌}
use Rattle.std.specs.FinMap as map
use Rattle.byte_map.specs.Sorted.{IsSorted}
use Rattle.row_map.specs.Rows.{Bytes, Pairs}
use Rattle.checkpoint_code.specs.Page.{Page}
use Rattle.saved_world.specs.Follows.{last_key}
use Rattle.saved_world.specs.declared.fault.LoadFault.{LoadFault}
use Rattle.saved_world.specs.declared.fault.LoadFault.TheVariants.{Unordered, Memory}

-- the page's pairs are there, too
pub record AreAdded (old : Pairs) (page : Page) (new : Pairs) (last : Option Bytes) : Type 0 where
  pub on : IsSorted (map.entries old ++ page)
  pub pairs : map.entries new ≡ map.entries old ++ page
  pub last_is : last ≡ last_key (map.entries new)

-- why they are not
abbrev pub WhyNotAdded : Pairs → Page → LoadFault → Type 0
WhyNotAdded old page fault = ((fault ≡ Memory) × IsSorted (map.entries old ++ page)) ⊎ ((fault ≡ Unordered) × (¬ (IsSorted (map.entries old ++ page))))
