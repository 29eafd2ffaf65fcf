use Rattle.std.proofs.Common.{◌≡◌, length}
use Rattle.script_grammar.specs.Commands.{columns_at}
use Rattle.script_grammar.proofs.Selections.{ahead}
use Rattle.script_grammar.proofs.selection.columns.Given as goal

abbrev pub invariant-columns : goal.invariant-columns
invariant-columns l = ahead l.columns.items (columns_at l.rest) ≡ columns_at l.tokens

abbrev pub decreases-columns : goal.decreases-columns
decreases-columns l = length l.rest
