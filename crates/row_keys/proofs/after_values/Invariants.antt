use Rattle.std.proofs.Common.{ℕ, List, Option, drop}
use Rattle.keycode.specs.Code.{codes_of}
use Rattle.row_keys.specs.inner.After.{IsAfter}
use Rattle.row_keys.proofs.after_values.Given as goal

-- what follows the rest follows all
abbrev pub invariant-loop-value : goal.invariant-loop-value
invariant-loop-value l = (found : Option (List ℕ)) → IsAfter (codes_of (drop l.value-index l.values)) l.rest found → IsAfter (codes_of l.values) l.bytes found
