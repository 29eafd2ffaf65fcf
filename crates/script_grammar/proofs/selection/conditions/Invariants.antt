use Rattle.std.proofs.Common.{◌≡◌, drop}
use Rattle.script_grammar.specs.Commands.{conditions_of, conditions_within}
use Rattle.script_tokens.proofs.Cuts.{onto}
use Rattle.script_grammar.proofs.selection.conditions.Given as goal

abbrev pub invariant-conditions : goal.invariant-conditions
invariant-conditions l = onto l.conditions.items (conditions_within (drop l._bound-index l.tokens) l.rest) ≡ conditions_of l.tokens
