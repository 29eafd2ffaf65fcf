use Rattle.std.proofs.Common.{◌≡◌, ◌++◌, drop}
use Rattle.layer_calls.specs.Txns.{missing}
use Rattle.layer_calls.proofs.txns.missing_points.Given as goal

abbrev pub invariant-loop-entry : goal.invariant-loop-entry
invariant-loop-entry l = l.points.items ++ missing (drop l.entry-index l.entries) ≡ missing l.entries
