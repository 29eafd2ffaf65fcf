use Rattle.std.proofs.Common.{◌≡◌, ◌++◌, take}
use Rattle.record_code.specs.Drafts.{points_of, AreFitPoints}
use Rattle.record_code.proofs.draft.push_coded.Given as goal

abbrev pub invariant-loop-point : goal.invariant-loop-point
invariant-loop-point l = record {
  spelled : l.out.items ≡ l.fn.out.items ++ points_of (take l.point-index l.points);
  fit : AreFitPoints (take l.point-index l.points);
}
