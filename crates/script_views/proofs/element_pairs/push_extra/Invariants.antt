use Rattle.std.proofs.Common.{◌≡◌, ◌++◌, take}
use Rattle.std.specs.Prelude.{string_bytes}
use Rattle.std.specs.List.{flat_map}
use Rattle.script_views.specs.Check.{extra_line}
use Rattle.script_views.proofs.element_pairs.push_extra.Given as goal

abbrev pub invariant-loop-key : goal.invariant-loop-key
invariant-loop-key l = string_bytes l.out ≡ string_bytes l.fn.out ++ flat_map extra_line (take l.key-index l.keys)
