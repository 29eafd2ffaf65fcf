use Rattle.std.proofs.Common.{◌≡◌, ◌++◌, take}
use Rattle.std.specs.Prelude.{string_bytes}
use mathlib.Core.List.{map}
use Rattle.script_replies.specs.PlanLines.{move_text}
use Rattle.script_replies.proofs.plan_items.add_moves.Given as goal

abbrev pub invariant-loop-a : goal.invariant-loop-a
invariant-loop-a l = map string_bytes l.texts.items ≡ map string_bytes l.fn.texts.items ++ map (move_text l.schema) (take l.a-index l.moves)
