use Rattle.std.proofs.Common.{ℕ, List, Option, drop}
use Rattle.keycode.specs.Code.{escaped}
use Rattle.row_keys.specs.inner.After.{IsAfter}
use Rattle.row_keys.proofs.after_each.Given as goal

-- what follows the rest follows all
abbrev pub invariant-loop-byte : goal.invariant-loop-byte
invariant-loop-byte l = (found : Option (List ℕ)) → IsAfter (escaped (drop l.byte-index l.text)) l.rest found → IsAfter (escaped l.text) l.bytes found
