use Rattle.std.proofs.Common.{◌≡◌, ◌++◌, length}
use Rattle.std.specs.Option.{option_map}
use Rattle.script_tokens.specs.Tokens.{tokens_from}
use Rattle.script_tokens.proofs.token.tokens_of.Given as goal

abbrev pub invariant-loop-first : goal.invariant-loop-first
invariant-loop-first l = option_map (λ more. l.tokens.items ++ more) (tokens_from 0 l.rest) ≡ tokens_from 0 l.line

abbrev pub decreases-loop-first : goal.decreases-loop-first
decreases-loop-first l = length l.rest
