use Rattle.std.proofs.Common.{◌≡◌, ◌++◌, length}
use Rattle.script_tokens.specs.Productions.{undoubled}
use Rattle.script_tokens.proofs.values.undouble_quotes.Given as goal

abbrev pub invariant-loop-rest : goal.invariant-loop-rest
invariant-loop-rest l = l.content.items ++ undoubled l.rest ≡ undoubled l.quoted

abbrev pub decreases-loop-rest : goal.decreases-loop-rest
decreases-loop-rest l = length l.rest
