-- Cited by the contracts of published_line.
-- What a script prints of a publication.
use Rattle.std.specs.Prelude.{ℕ, List, Result, Ok, Err, codes, ◌++◌}
use Rattle.std.specs.Fmt.{decimal}
use Rattle.schema_version.specs.declared.step.StepFault.{StepFault}
use Rattle.schema_version.specs.declared.step.StepFault.TheVariants as step_fault
use Rattle.piece_work.specs.Receipt.{Receipt}
use Rattle.piece_work.specs.PublishFault.{PublishFault}
use Rattle.piece_work.specs.PublishFault.TheVariants as publish_fault
use Rattle.script_replies.specs.Texts.{refused}

abbrev pub step_name : StepFault → List ℕ
step_name step_fault.Unknown = codes "Unknown"
step_name step_fault.NotAdjacent = codes "NotAdjacent"
step_name step_fault.WrongWay = codes "WrongWay"
step_name (step_fault.Dependent on) = codes "Dependent " ++ decimal on
step_name step_fault.NameTaken = codes "NameTaken"
step_name step_fault.Limit = codes "Limit"
step_name step_fault.Memory = codes "Memory"

-- a fault of the step is reported by its own name
abbrev pub publish_name : PublishFault → List ℕ
publish_name publish_fault.MomentTooLarge = codes "MomentTooLarge"
publish_name (publish_fault.TooEarly earliest) = codes "TooEarly " ++ decimal earliest
publish_name (publish_fault.Step fault) = step_name fault
publish_name (publish_fault.Unfinished element) = codes "Unfinished " ++ decimal element
publish_name publish_fault.VersionsSpent = codes "VersionsSpent"
publish_name publish_fault.Memory = codes "Memory"

-- `ok version NUMBER`
abbrev pub published_text : Result (ℕ × Receipt) PublishFault → List ℕ
published_text (Ok done) = codes "ok version " ++ decimal done.0
published_text (Err fault) = refused (publish_name fault)
