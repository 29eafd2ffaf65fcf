-- Cited by the contracts of publish, begin_reorg and of what they call.
-- Schema changes: the publication of a step by its code, and the begin of a reorganisation.
use Rattle.std.specs.Prelude.{◌≡◌, ℕ, ◌⊎◌, ℤ, List, Result, Ok, Err}
use Rattle.entry_code.specs.Code.{step_code}
use Rattle.entry_code.specs.Known.{AreMoves}
use Rattle.keycode.specs.Valid.{IsStorable}
use Rattle.schema_version.specs.declared.step.Move.{Move}
use Rattle.schema_version.specs.declared.step.StepFault.{StepFault}
use Rattle.schema_version.specs.declared.step.StepFault.TheVariants as step
use Rattle.script_session.specs.State.{State}
use Rattle.script_session.specs.BeginReorg.{BeginStep}
use Rattle.script_session.specs.Publish.{PublishStep}
use Rattle.script_session.specs.BeginFault.{BeginFault}
use Rattle.script_session.specs.BeginFault.TheVariants as begin
use Rattle.script_session.specs.Receipt.{Receipt}
use Rattle.script_session.specs.PublishFault.{PublishFault}
use Rattle.script_session.specs.PublishFault.TheVariants as publish
use Rattle.typed_calls.specs.Bounded.{Within, IsNoCode}
use Rattle.typed_calls.specs.Statuses.{bad_code, bad_count, begun, dependent, moment_too_large, name_taken, not_adjacent, not_wanted, out_of_memory, over_limit, still_used, too_early, too_far, unfinished, unknown, versions_spent, wrong_way}
use Rattle.typed_calls.specs.declared.bounded.BoundedWorld.{BoundedWorld}
use Rattle.typed_calls.specs.declared.changes.ChangeRefusal.{ChangeRefusal}

-- a status without a number
abbrev pub change_alone : ℤ → ChangeRefusal
change_alone status = record { status = status; number = 0 }

-- ---- publish

abbrev pub step_refusal : StepFault → ChangeRefusal
step_refusal step.Unknown = change_alone unknown
step_refusal step.NotAdjacent = change_alone not_adjacent
step_refusal step.WrongWay = change_alone wrong_way
step_refusal (step.Dependent on) = record { status = dependent; number = on }
step_refusal step.NameTaken = change_alone name_taken
step_refusal step.Limit = change_alone over_limit
step_refusal step.Memory = change_alone out_of_memory

abbrev pub publish_refusal : PublishFault → ChangeRefusal
publish_refusal publish.MomentTooLarge = change_alone moment_too_large
publish_refusal (publish.TooEarly earliest) = record { status = too_early; number = earliest }
publish_refusal (publish.Step fault) = step_refusal fault
publish_refusal (publish.Unfinished element) = record { status = unfinished; number = element }
publish_refusal publish.VersionsSpent = change_alone versions_spent
publish_refusal publish.Memory = change_alone out_of_memory

-- the step of `World::publish`, with the version's number or what its refusal is reported as
abbrev pub PublishesStep : State → ℕ → List Move → Result ℕ ChangeRefusal → State → Type 0
PublishesStep old moment moves (Ok version) new = (receipt : Receipt) × PublishStep old moment moves (Ok (version, receipt)) new
PublishesStep old moment moves (Err refusal) new = (fault : PublishFault) × PublishStep old moment moves (Err fault) new × (refusal ≡ publish_refusal fault)

-- the bytes are the code of a step, which is published or refused
abbrev pub PublishesCode : State → ℕ → List ℕ → Result ℕ ChangeRefusal → State → Type 0
PublishesCode old moment code answer new = (moves : List Move) × AreMoves IsStorable moves × (code ≡ step_code moves) × PublishesStep old moment moves answer new

-- or of none, or memory ran out before they were read
abbrev pub PublishesWorld : State → ℕ → List ℕ → Result ℕ ChangeRefusal → State → Type 0
PublishesWorld old moment code answer new =
    ((answer ≡ Err (change_alone bad_code)) × IsNoCode (AreMoves IsStorable) step_code code × (new ≡ old))
    ⊎ ((answer ≡ Err (change_alone out_of_memory)) × (new ≡ old))
    ⊎ PublishesCode old moment code answer new

abbrev pub PublishesIn : BoundedWorld → ℕ → List ℕ → Result ℕ ChangeRefusal → BoundedWorld → Type 0
PublishesIn old moment code answer new = Within (Err (change_alone too_far)) (λ world a world'. PublishesWorld world moment code a world') old moment answer new

-- ---- begin_reorg

abbrev pub begin_refusal : BeginFault → ChangeRefusal
begin_refusal begin.MomentTooLarge = change_alone moment_too_large
begin_refusal begin.NotWanted = change_alone not_wanted
begin_refusal (begin.StillUsed until) = record { status = still_used; number = until }
begin_refusal begin.Begun = change_alone begun
begin_refusal begin.BadCount = change_alone bad_count
begin_refusal begin.Memory = change_alone out_of_memory

-- the step of `World::begin_reorg`, with the place of its entry or what its refusal is reported as
abbrev pub BeginsWorld : State → ℕ → ℕ → ℕ → Result ℕ ChangeRefusal → State → Type 0
BeginsWorld old moment element pieces (Ok place) new = (receipt : Receipt) × BeginStep old moment element pieces (Ok receipt) new × (place ≡ receipt.place)
BeginsWorld old moment element pieces (Err refusal) new = (fault : BeginFault) × BeginStep old moment element pieces (Err fault) new × (refusal ≡ begin_refusal fault)

abbrev pub BeginsIn : BoundedWorld → ℕ → ℕ → ℕ → Result ℕ ChangeRefusal → BoundedWorld → Type 0
BeginsIn old moment element pieces answer new = Within (Err (change_alone too_far)) (λ world a world'. BeginsWorld world moment element pieces a world') old moment answer new
