use Rattle.std.proofs.Common.{◌≡◌, length, take}
use Rattle.page_map.specs.Empties.{empties}
use Rattle.page_map.specs.Pages.{joined}
use Rattle.page_map.proofs.rest.count_pages.Given as goal

abbrev pub invariant-loop-page : goal.invariant-loop-page
invariant-loop-page l = l.count ≡ length (empties (joined (take l.page-index l.pages)))
