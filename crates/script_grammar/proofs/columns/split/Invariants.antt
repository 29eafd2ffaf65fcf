use Rattle.std.proofs.Common.{◌≡◌}
use Rattle.script_grammar.specs.Commands.{key_columns, other_columns}
use Rattle.script_grammar.proofs.columns.split.Given as goal

abbrev pub invariant-loop-column : goal.invariant-loop-column
invariant-loop-column l = record {
  keys : l.keys.items ≡ key_columns l.yielded;
  others : l.others.items ≡ other_columns l.yielded;
}
