-- Cited by the contracts of due.
-- What is due in a state of the world: read off its facts alone, with no plan kept.
use Rattle.std.specs.Prelude.{◌≡◌, ◌≢◌, ℕ, ◌<◌, ◌≤◌, List, [], Bool, true, false, Option, Some, None, if◌then◌else◌, ◌⊎◌}
use Rattle.std.specs.List.{filter_map}
use Rattle.collections.specs.Refusal.{IsFirst}
use Rattle.lease.specs.Timeline.{earliest}
use Rattle.schema_version.specs.declared.element.ElementState.{ElementState}
use Rattle.schema_version.specs.declared.element.ElementDef.{ElementDef}
use Rattle.schema_version.specs.declared.element.Work.{Work}
use Rattle.schema_version.specs.declared.step.Move.{Move}
use Rattle.schema_version.specs.declared.step.Move.TheVariants.{Go}
use Rattle.schema_version.specs.Edges.{needed_work}
use Rattle.schema_version.specs.Version.{element_at, live}
use Rattle.reorganise.specs.declared.work.Progress.{Progress}
use Rattle.reorganise.specs.Pieces.{are_ended}
use Rattle.replay.specs.Replay.{Facts, progress_of}
use Rattle.world.specs.BeginReorg.{wanted_at, IsSettled}
use Rattle.world.specs.Piece.{standing_at}
use Rattle.rollout.specs.declared.act.Act.{Act}
use Rattle.rollout.specs.declared.act.Act.TheVariants as act
use Rattle.rollout.specs.StatePath.{next_state}

-- ---- one element

-- a live element's change is under way
pub record IsUnderWay (facts : Facts) (number : ℕ) : Type 0 where
  pub element : ElementDef
  pub there : element_at facts.newest number ≡ Some element
  pub to : ElementState
  pub next : next_state element ≡ Some to

-- its fill or its clear may begin
pub record MayBegin (facts : Facts) (now number : ℕ) : Type 0 where
  pub work : Work
  pub wants : wanted_at facts number ≡ Some work
  pub settled : IsSettled facts now number
  pub new : progress_of facts.progress number ≡ None

-- its fill or its clear has begun and is not finished
pub record IsOpen (facts : Facts) (number : ℕ) : Type 0 where
  pub element : ElementDef
  pub there : element_at facts.newest number ≡ Some element
  pub progress : Progress
  pub begun : progress_of facts.progress number ≡ Some progress
  pub unended : are_ended progress.pieces ≡ false

-- ---- the step

abbrev pub ended_in : Option (Work × ℕ × Bool) → Bool
ended_in None = false
ended_in (Some given) = given.2

-- its fill or its clear has begun, and all pieces have ended
abbrev pub is_ended_at : Facts → ℕ → Bool
is_ended_at facts number = ended_in (standing_at facts number)

abbrev pub is_ready_by : Option Work → Bool → Bool
is_ready_by None ended = true
is_ready_by (Some work) ended = ended

abbrev pub move_by : Facts → ElementDef → Option ElementState → Option Move
move_by facts element None = None
move_by facts element (Some to) = if is_ready_by (needed_work element.kind to) (is_ended_at facts element.number) then Some (Go element.number to) else None

-- the move of an element along its way, if it needs no work or the work is finished
abbrev pub move_of : Facts → ElementDef → Option Move
move_of facts element = move_by facts element (next_state element)

-- all of them, by rising number: they move together
abbrev pub ready_moves : Facts → List Move
ready_moves facts = filter_map (move_of facts) (live facts.newest)

-- the moves that may be published at this moment
abbrev pub AreMovesNow : Facts → ℕ → List Move → Type 0
AreMovesNow facts now moves = ((earliest facts.line ≤ now) × (moves ≡ ready_moves facts)) ⊎ ((now < earliest facts.line) × (moves ≡ []))

-- ---- what is due

-- a begin comes first, since pieces can be worked from then on; then the step that is ready, which other elements wait for; then a piece
abbrev pub due_rank : Act → ℕ
due_rank (act.Begin number) = 1
due_rank (act.Publish step) = 2
due_rank (act.Work number) = 3
due_rank (act.Wait until) = 4
due_rank act.Nothing = 4

abbrev pub DueCondition : Facts → ℕ → Act → Type 0
DueCondition facts now (act.Begin number) = MayBegin facts now number
DueCondition facts now (act.Publish step) = (earliest facts.line ≤ now) × (step ≡ ready_moves facts) × (step ≢ [])
DueCondition facts now (act.Work number) = IsOpen facts number
DueCondition facts now (act.Wait until) = (until ≡ earliest facts.line) × (now < until) × ((number : ℕ) × IsUnderWay facts number)
DueCondition facts now act.Nothing = (number : ℕ) → ¬ (IsUnderWay facts number)

abbrev pub IsDue : Facts → ℕ → Act → Type 0
IsDue facts now = IsFirst due_rank (DueCondition facts now)

-- ---- which element comes first

-- of all acts that are due the one that is given is of the element of the lowest number
abbrev pub ComesFirst : Facts → ℕ → Act → Type 0
ComesFirst facts now (act.Begin number) = (other : ℕ) → other < number → ¬ (MayBegin facts now other)
ComesFirst facts now (act.Publish step) = Unit {0}
ComesFirst facts now (act.Work number) = (other : ℕ) → other < number → ¬ (IsOpen facts other)
ComesFirst facts now (act.Wait until) = Unit {0}
ComesFirst facts now act.Nothing = Unit {0}
