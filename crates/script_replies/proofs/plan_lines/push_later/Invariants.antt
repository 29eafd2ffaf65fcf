use Rattle.std.proofs.Common.{◌≡◌, ◌+◌, ◌++◌, drop}
use Rattle.std.specs.Prelude.{string_bytes}
use Rattle.change_plan.specs.Plans.{AreAllowed}
use Rattle.script_replies.specs.PlanLines.{plan_lines}
use Rattle.script_replies.proofs.plan_lines.push_later.Given as goal

abbrev pub invariant-loop-step : goal.invariant-loop-step
invariant-loop-step l =
    record {
      printed : string_bytes l.out ++ plan_lines l.version l.number (drop l.step-index l.steps) ≡ string_bytes l.fn.out ++ plan_lines l.fn.version 2 l.steps;
      allowed : AreAllowed l.version (drop l.step-index l.steps);
      numbered : l.number ≡ l.step-index + 2;
    }
