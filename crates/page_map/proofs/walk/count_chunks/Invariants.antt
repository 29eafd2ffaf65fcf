use Rattle.std.proofs.Common.{◌≡◌, length, take}
use Rattle.page_map.specs.Empties.{empties}
use Rattle.page_map.specs.Pages.{joined}
use Rattle.page_map.proofs.walk.count_chunks.Given as goal

abbrev pub invariant-loop-chunk : goal.invariant-loop-chunk
invariant-loop-chunk l = l.count ≡ length (empties (joined (take l.chunk-index l.chunks)))
