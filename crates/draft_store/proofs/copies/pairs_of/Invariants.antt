use Rattle.std.proofs.Common.{◌≡◌, drop}
use Rattle.draft_store.specs.Apply.{gathered, map_of}
use Rattle.draft_store.proofs.copies.pairs_of.Given as goal

abbrev pub invariant-loop-key : goal.invariant-loop-key
invariant-loop-key l = gathered l.out (drop l.key-index l.pairs) ≡ map_of l.pairs
