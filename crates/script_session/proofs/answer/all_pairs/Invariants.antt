use Rattle.std.proofs.Common.{◌≡◌, ◌+◌, ◌++◌, length, string_bytes}
use Rattle.std.specs.FinMap as map
use Rattle.std.specs.List.{flat_map}
use Rattle.script_replies.specs.Texts.{pair_line}
use Rattle.script_session.proofs.answer.all_pairs.Given as goal

-- what was reported and what is left are all
abbrev pub invariant-loop-key : goal.invariant-loop-key
invariant-loop-key l =
    (string_bytes l.text ++ flat_map pair_line l.walk ≡ flat_map pair_line (map.entries l.world.pairs))
    × (l.number + length l.walk ≡ length (map.entries l.world.pairs))

abbrev pub decreases-loop-key : goal.decreases-loop-key
decreases-loop-key l = length l.walk
