use Rattle.std.proofs.Common.{◌≡◌, true, drop}
use Rattle.script_grammar.specs.Commands.{keys_lead}
use Rattle.script_grammar.proofs.columns.keys_lead.Given as goal

abbrev pub invariant-loop-column : goal.invariant-loop-column
invariant-loop-column l = keys_lead l.is_behind_key (drop l.column-index l.columns) ≡ keys_lead true l.columns
