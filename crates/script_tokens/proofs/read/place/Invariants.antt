use Rattle.std.proofs.Common.{◌≡◌, ◌++◌, take, drop}
use Rattle.std.specs.Option.{option_map}
use Rattle.script_tokens.specs.Productions.{cut_at}
use Rattle.script_tokens.proofs.read.place.Given as goal

abbrev pub invariant-loop-i : goal.invariant-loop-i
invariant-loop-i l = option_map (λ x. (take l.i l.tokens ++ x.0, x.1)) (cut_at l.wanted (drop l.i l.tokens)) ≡ cut_at l.wanted l.tokens
