use Rattle.std.proofs.Common.{◌≡◌, ◌++◌, take}
use Rattle.std.specs.Prelude.{codes, string_bytes}
use Rattle.std.specs.List.{flat_map}
use mathlib.Core.List.{map}
use Rattle.script_grammar.specs.Print.{value_text}
use Rattle.script_views.proofs.tuples.push_more_values.Given as goal

abbrev pub invariant-loop-value : goal.invariant-loop-value
invariant-loop-value l = string_bytes l.out ≡ string_bytes l.fn.out ++ flat_map (λ t. codes ", " ++ t) (map value_text (take l.value-index l.values))
