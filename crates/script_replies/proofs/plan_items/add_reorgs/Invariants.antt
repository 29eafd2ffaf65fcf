use Rattle.std.proofs.Common.{◌≡◌, ◌++◌, take}
use Rattle.std.specs.Prelude.{string_bytes}
use mathlib.Core.List.{map}
use Rattle.script_replies.specs.PlanLines.{reorg_text}
use Rattle.script_replies.proofs.plan_items.add_reorgs.Given as goal

abbrev pub invariant-loop-reorg : goal.invariant-loop-reorg
invariant-loop-reorg l = map string_bytes l.texts.items ≡ map string_bytes l.fn.texts.items ++ map (reorg_text l.schema) (take l.reorg-index l.reorgs)
