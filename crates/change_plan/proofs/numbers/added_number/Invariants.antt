use Rattle.std.proofs.Common.{◌≡◌, [], take, drop}
use Rattle.change_plan.specs.Schedule.{added_number}
use Rattle.change_plan.proofs.numbers.added_number.Given as goal

abbrev pub invariant-loop-i : goal.invariant-loop-i
invariant-loop-i l = added_number l.next l.changes (take l.i l.changes) l.table l.name (drop l.i l.changes) ≡ added_number l.next l.changes [] l.table l.name l.changes
