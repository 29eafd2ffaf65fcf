-- Cited by the contracts of unplanned_line, steps_text.
-- What a script prints of a plan.
use Rattle.std.specs.Prelude.{ℕ, List, length, ◌++◌, Result, Ok, Err, codes}
use Rattle.std.specs.Fmt.{decimal}
use Rattle.change_plan.specs.declared.fault.PlanFault.{PlanFault}
use Rattle.change_plan.specs.declared.fault.PlanFault.TheVariants as plan_fault
use Rattle.change_plan.specs.declared.least_plan.LeastPlan.{LeastPlan}
use Rattle.change_plan.specs.declared.least_plan.PlanStep.{PlanStep}
use Rattle.script_replies.specs.PlanLines.{plan_lines}
use Rattle.schema_version.specs.Version.{Version}
use Rattle.script_replies.specs.Texts.{line, refused}

abbrev pub plan_name : PlanFault → List ℕ
plan_name plan_fault.Unknown = codes "Unknown"
plan_name plan_fault.NameTaken = codes "NameTaken"
plan_name plan_fault.StillIndexed = codes "StillIndexed"
plan_name plan_fault.InChange = codes "InChange"
plan_name plan_fault.Limit = codes "Limit"
plan_name plan_fault.Memory = codes "Memory"

-- a line for each step, and then their number
abbrev pub steps_text : Version → List PlanStep → List ℕ
steps_text version steps = plan_lines version 1 steps ++ line (codes "ok plan " ++ decimal (length steps))

abbrev pub planned_text : Version → Result LeastPlan PlanFault → List ℕ
planned_text version (Ok plan) = steps_text version plan.steps
planned_text version (Err fault) = line (refused (plan_name fault))
