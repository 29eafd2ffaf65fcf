use Rattle.std.proofs.Common.{◌≡◌, drop}
use Rattle.std.specs.FinMap as map
use Rattle.layer_calls.specs.Given.{put_all}
use Rattle.layer_calls.proofs.given.collected.Given as goal

abbrev pub invariant-loop-pair : goal.invariant-loop-pair
invariant-loop-pair l = put_all l.view (drop l.pair-index l.pairs) ≡ put_all map.empty l.pairs
