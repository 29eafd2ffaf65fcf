use Rattle.std.proofs.Common.{◌≡◌, take}
use mathlib.Core.List.{map}
use Rattle.serde_json.specs.View.{view}
use Rattle.script_replies.specs.Status.{count_data}
use Rattle.script_replies.proofs.usable.numbers_value.Given as goal

abbrev pub invariant-loop-number : goal.invariant-loop-number
invariant-loop-number l = map view l.values.items ≡ map count_data (take l.number-index l.numbers)
