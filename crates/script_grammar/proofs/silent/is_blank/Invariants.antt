use Rattle.std.proofs.Common.{◌≡◌, drop}
use Rattle.script_grammar.specs.Silent.{is_blank}
use Rattle.script_grammar.proofs.silent.is_blank.Given as goal

abbrev pub invariant-loop-byte : goal.invariant-loop-byte
invariant-loop-byte l = is_blank (drop l.byte-index l.line) ≡ is_blank l.line
