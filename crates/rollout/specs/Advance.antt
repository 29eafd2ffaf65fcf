-- Cited by the contracts of advance, due_is_accepted, advances_lower.
-- What `advance` answers, and the state that it leaves.
use Rattle.std.specs.Prelude.{◌≡◌, ℕ, ◌<◌, ◌≤◌, List, ◌⊎◌, Result, Ok, Err}
use Rattle.lease.specs.Timeline.{max_moment, newest as newest_number}
use Rattle.schema_version.specs.declared.step.Move.{Move}
use Rattle.reorganise.specs.declared.read.Reading.{Reading}
use Rattle.reorganise.specs.declared.fault.ViewFault.TheVariants.{Memory as ViewMemory}
use Rattle.replay.specs.Kept.{IsKept}
use Rattle.replay.specs.Laws.{IsPieceCount}
use Rattle.world.specs.declared.entry.PieceDone.{PieceDone}
use Rattle.world.specs.declared.begin_reorg.BeginFault.{BeginFault}
use Rattle.world.specs.declared.begin_reorg.BeginFault.TheVariants as begin_fault
use Rattle.world.specs.declared.publish.PublishFault.{PublishFault}
use Rattle.world.specs.declared.publish.PublishFault.TheVariants as publish_fault
use Rattle.world.specs.declared.piece.PieceFault.{PieceFault}
use Rattle.world.specs.declared.piece.PieceFault.TheVariants as piece_fault
use Rattle.world.specs.declared.piece.ReadFault.{ReadFault}
use Rattle.world.specs.declared.piece.ReadFault.TheVariants.{View}
use Rattle.world.specs.BeginReorg.{BeginAt, BeginStep}
use Rattle.world.specs.Calls.{effective_moment}
use Rattle.world.specs.Piece.{ReadStep, PieceAt, PieceStep}
use Rattle.world.specs.Publish.{PublishAt, PublishStep, max_versions}
use Rattle.world.specs.State.{State, facts_of}
use Rattle.piece_work.specs.WorkOff.{IsNext, WasRead}
use Rattle.rollout.specs.declared.act.Act.TheVariants as act
use Rattle.rollout.specs.declared.advanced.Advanced.{Advanced}
use Rattle.rollout.specs.declared.advanced.Advanced.TheVariants as advanced
use Rattle.rollout.specs.declared.advanced.AdvanceFault.{AdvanceFault}
use Rattle.rollout.specs.declared.advanced.AdvanceFault.TheVariants as advance_fault
use Rattle.rollout.specs.Due.{IsDue}
use Rattle.rollout.specs.Left.{Falls}

-- how many items of a piece may be worked at a time
abbrev pub IsLimit : ℕ → Type 0
IsLimit limit = (1 ≤ limit) × (limit ≤ 1000)

-- the numbers that a caller chooses are in their bounds: the pieces are 1 to 64, the limit is 1 to 1,000
pub record AreCounts (pieces limit : ℕ) : Type 0 where
  pub piece_count : IsPieceCount pieces
  pub item_limit : IsLimit limit

-- the next piece of an element is read, and what was read is committed
pub record WorksPiece (old : State) (number moment limit : ℕ) (done : PieceDone) (new : State) : Type 0 where
  pub piece : ℕ
  pub read : Reading
  pub was_read : WasRead old number limit piece read
  pub committed : PieceStep old moment read (Ok done) new

-- ---- the call

-- the act that is due is done by the world's own call
abbrev pub Advances : State → ℕ → ℕ → ℕ → Advanced → State → Type 0
Advances old moment pieces limit (advanced.Began number receipt) new =
    IsDue (facts_of old) (effective_moment old moment) (act.Begin number) × BeginStep old moment number pieces (Ok receipt) new
Advances old moment pieces limit (advanced.Published version receipt) new =
    (step : List Move) × IsDue (facts_of old) (effective_moment old moment) (act.Publish step) × PublishStep old moment step (Ok (version, receipt)) new
Advances old moment pieces limit (advanced.Worked number done) new =
    IsDue (facts_of old) (effective_moment old moment) (act.Work number) × WorksPiece old number moment limit done new
Advances old moment pieces limit (advanced.Waiting until) new = IsDue (facts_of old) (effective_moment old moment) (act.Wait until) × (new ≡ old)
Advances old moment pieces limit advanced.Finished new = IsDue (facts_of old) (effective_moment old moment) act.Nothing × (new ≡ old)

-- a publication is due
abbrev pub IsStepDue : State → ℕ → Type 0
IsStepDue old moment = (step : List Move) × IsDue (facts_of old) (effective_moment old moment) (act.Publish step)

-- refused for the first reason that holds, and then nothing has changed
abbrev pub AdvanceStep : State → ℕ → ℕ → ℕ → Result Advanced AdvanceFault → State → Type 0
AdvanceStep old moment pieces limit (Ok done) new = AreCounts pieces limit × (effective_moment old moment ≤ max_moment) × Advances old moment pieces limit done new
AdvanceStep old moment pieces limit (Err advance_fault.BadCount) new = (¬ (AreCounts pieces limit)) × (new ≡ old)
AdvanceStep old moment pieces limit (Err advance_fault.MomentTooLarge) new = AreCounts pieces limit × (max_moment < effective_moment old moment) × (new ≡ old)
AdvanceStep old moment pieces limit (Err advance_fault.VersionsSpent) new =
    AreCounts pieces limit × (effective_moment old moment ≤ max_moment) × IsStepDue old moment × (max_versions ≤ newest_number (facts_of old).line) × (new ≡ old)
AdvanceStep old moment pieces limit (Err advance_fault.Memory) new = AreCounts pieces limit × (effective_moment old moment ≤ max_moment) × (new ≡ old)

-- ---- no act that is due is refused, except when out of memory or of versions

abbrev pub BeginsAreAccepted : Type 0
BeginsAreAccepted =
    (old new : State) (now number pieces : ℕ) (fault : BeginFault) → now ≤ max_moment → IsPieceCount pieces → IsDue (facts_of old) now (act.Begin number)
    → BeginAt old now number pieces (Err fault) new → fault ≡ begin_fault.Memory

abbrev pub IsMemoryOrVersion : State → PublishFault → Type 0
IsMemoryOrVersion old fault = (fault ≡ publish_fault.Memory) ⊎ ((fault ≡ publish_fault.VersionsSpent) × (max_versions ≤ newest_number (facts_of old).line))

abbrev pub StepsAreAccepted : Type 0
StepsAreAccepted =
    (old new : State) (now : ℕ) (step : List Move) (fault : PublishFault) → IsKept (facts_of old) → now ≤ max_moment → IsDue (facts_of old) now (act.Publish step)
    → PublishAt old now step (Err fault) new → IsMemoryOrVersion old fault

abbrev pub ReadsAreAccepted : Type 0
ReadsAreAccepted =
    (old : State) (number piece limit : ℕ) (fault : ReadFault) → IsLimit limit → IsNext old number piece → ReadStep old number piece limit (Err fault) → fault ≡ View ViewMemory

abbrev pub PiecesAreAccepted : Type 0
PiecesAreAccepted =
    (old new : State) (now number piece limit : ℕ) (read : Reading) (fault : PieceFault) → IsKept (facts_of old) → now ≤ max_moment → IsNext old number piece → ReadStep old number piece limit (Ok read)
    → PieceAt old now read (Err fault) new → fault ≡ piece_fault.Memory

-- so the world refuses no act that is due
pub record AreAccepted : Type 0 where
  pub begins : BeginsAreAccepted
  pub steps : StepsAreAccepted
  pub reads : ReadsAreAccepted
  pub pieces : PiecesAreAccepted

-- each advance lowers what is left
abbrev pub AdvancesLower : Type 0
AdvancesLower =
    (old new : State) (moment pieces limit : ℕ) (done : Advanced) → IsKept (facts_of old) → Advances old moment pieces limit done new → Falls (facts_of old) (facts_of new) done
