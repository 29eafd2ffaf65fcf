-- Cited by the contracts of World::publish, locked_store::Shared::publish.
-- What a publication answers.
use Rattle.std.specs.Prelude.{◌≡◌, ℕ, ◌+◌, ◌<◌, ◌≤◌, List, ◌∷◌, ◌++◌, Some, Result, Ok, Err}
use Rattle.lease.specs.Timeline.{earliest, max_moment, newest as newest_number}
use Rattle.collections.specs.Refusal.{IsRefusal, IsClear}
use Rattle.schema_version.specs.declared.element.ElementDef.{ElementDef}
use Rattle.schema_version.specs.declared.step.Move.{Move}
use Rattle.schema_version.specs.declared.step.Move.TheVariants.{Enter, Go, Turn}
use Rattle.schema_version.specs.Moves.{IsAllowed, IsRefused}
use Rattle.schema_version.specs.Version.{element_at}
use Rattle.replay.specs.declared.entry.What.TheVariants.{Publish}
use Rattle.replay.specs.Replay.{Facts}
use Rattle.replay.specs.Laws.{Needs, AreFinished}
use Rattle.world.specs.declared.entry.Receipt.{Receipt}
use Rattle.world.specs.declared.publish.PublishFault.{PublishFault}
use Rattle.world.specs.declared.publish.PublishFault.TheVariants as publish_fault
use Rattle.world.specs.Calls.{effective_moment, Appends}
use Rattle.world.specs.State.{State, facts_of}

abbrev pub max_versions : ℕ
max_versions = 1000000

-- ---- the reorganisations that a step waits for

-- a move of a live element has what it needs; to turn back needs nothing
abbrev pub IsReady : Facts → Move → Type 0
IsReady facts (Enter fresh to) = Unit {0}
IsReady facts (Turn number) = Unit {0}
IsReady facts (Go number to) = (element : ElementDef) → element_at facts.newest number ≡ Some element → Needs facts element.kind number to

-- or lacks it
abbrev pub Lacks : Facts → Move → ℕ → Type 0
Lacks facts (Enter fresh to) number = ⊥
Lacks facts (Turn moving) number = ⊥
Lacks facts (Go moving to) number = (number ≡ moving) × (element : ElementDef) × (element_at facts.newest moving ≡ Some element) × (¬ (Needs facts element.kind moving to))

-- the first element in the step's order that lacks it
pub record IsUnfinished (facts : Facts) (step : List Move) (number : ℕ) : Type 0 where
  pub earlier : List Move
  pub move : Move
  pub rest : List Move
  pub split : step ≡ earlier ++ move ∷ rest
  pub lacks : Lacks facts move number
  pub finished : AreFinished facts earlier

-- ---- the call

abbrev pub publish_rank : PublishFault → ℕ
publish_rank publish_fault.MomentTooLarge = 1
publish_rank (publish_fault.TooEarly earliest) = 2
publish_rank (publish_fault.Step fault) = 3
publish_rank (publish_fault.Unfinished element) = 4
publish_rank publish_fault.VersionsSpent = 5
publish_rank publish_fault.Memory = 6

abbrev pub PublishCondition : State → ℕ → List Move → PublishFault → Type 0
PublishCondition old now step publish_fault.MomentTooLarge = max_moment < now
PublishCondition old now step (publish_fault.TooEarly first) = (first ≡ earliest (facts_of old).line) × (now < earliest (facts_of old).line)
PublishCondition old now step (publish_fault.Step fault) = IsRefused (facts_of old).newest step fault
PublishCondition old now step (publish_fault.Unfinished element) = IsUnfinished (facts_of old) step element
PublishCondition old now step publish_fault.VersionsSpent = max_versions ≤ newest_number (facts_of old).line
PublishCondition old now step publish_fault.Memory = ⊥

-- now is the moment that counts: the next version is the newest one with the step's moves
abbrev pub PublishAt : State → ℕ → List Move → Result (ℕ × Receipt) PublishFault → State → Type 0
PublishAt old now step (Ok done) new =
    IsClear (PublishCondition old now step)
    × (done.0 ≡ newest_number (facts_of old).line + 1)
    × Appends old now (Publish step) done.1 new
PublishAt old now step (Err fault) new = IsRefusal publish_rank (PublishCondition old now step) publish_fault.Memory fault × (new ≡ old)

abbrev pub PublishStep : State → ℕ → List Move → Result (ℕ × Receipt) PublishFault → State → Type 0
PublishStep old moment = PublishAt old (effective_moment old moment)

-- a step that may be published at this moment
pub record MayPublish (facts : Facts) (now : ℕ) (step : List Move) : Type 0 where
  pub moment : now ≤ max_moment
  pub in_turn : earliest facts.line ≤ now
  pub allowed : IsAllowed facts.newest step
  pub finished : AreFinished facts step
  pub room : newest_number facts.line < max_versions

-- why an allowed step can't be published yet, or not any more
abbrev pub IsUnready : Facts → List Move → PublishFault → Type 0
IsUnready facts step (publish_fault.Unfinished element) = IsUnfinished facts step element
IsUnready facts step publish_fault.VersionsSpent = AreFinished facts step × (max_versions ≤ newest_number facts.line)
IsUnready facts step fault = ⊥
