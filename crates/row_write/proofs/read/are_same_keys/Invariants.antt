use Rattle.std.proofs.Common.{◌≡◌, drop}
use Rattle.row_write.specs.inner.View.{keys_of}
use Rattle.row_write.proofs.read.are_same_keys.Given as goal

abbrev pub invariant-loop-i : goal.invariant-loop-i
invariant-loop-i l = keys_of (drop l.i l.reads) ≡ keys_of (drop l.i l.view) → keys_of l.reads ≡ keys_of l.view
