use Rattle.std.proofs.Common.{◌≡◌, ◌++◌, take}
use Rattle.keycode.specs.Code.{escaped}
use Rattle.keycode.proofs.encoder.push_escaped.Given as goal

abbrev pub invariant-loop-b : goal.invariant-loop-b
invariant-loop-b l = l.out.items ≡ l.fn.out.items ++ escaped (take l.b-index l.text)
