use Rattle.std.proofs.Common.{◌≡◌, ◌∷◌, [], ◌++◌, length}
use Rattle.std.specs.Str.{IsUtf8}
use Rattle.std.specs.String.{string_bytes}
use Rattle.script_grammar.specs.Print.{doubled, quoted}
use Rattle.script_grammar.proofs.print.push_quoted.Given as goal

abbrev pub invariant-loop-before : goal.invariant-loop-before
invariant-loop-before l = record {
  is_text : IsUtf8 l.rest;
  so_far : string_bytes l.out ++ (doubled l.rest ++ 39 ∷ []) ≡ string_bytes l.fn.out ++ quoted l.text;
}

abbrev pub decreases-loop-before : goal.decreases-loop-before
decreases-loop-before l = length l.rest
