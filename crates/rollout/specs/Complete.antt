-- Cited by the contracts of complete, calls_go_on.
-- What `complete` answers, and the state that it leaves.
use Rattle.std.specs.Prelude.{◌≡◌, ℕ, ◌+◌, ◌*◌, ◌<◌, ◌≤◌, ◌⊎◌, Result, Ok, Err}
use Rattle.lease.specs.Timeline.{earliest, max_moment, newest as newest_number}
use Rattle.replay.specs.Replay.{Facts}
use Rattle.world.specs.Calls.{effective_moment}
use Rattle.world.specs.Publish.{max_versions}
use Rattle.world.specs.State.{State, facts_of}
use Rattle.rollout.specs.declared.advanced.Advanced.TheVariants as advanced
use Rattle.rollout.specs.declared.advanced.AdvanceFault.{AdvanceFault}
use Rattle.rollout.specs.declared.advanced.AdvanceFault.TheVariants as advance_fault
use Rattle.rollout.specs.Advance.{AreCounts, Advances, IsStepDue}
use Rattle.rollout.specs.Course.{IsCourse}
use Rattle.rollout.specs.Due.{IsUnderWay}
use Rattle.rollout.specs.Few.{acts_in, changes_under_way}
use Rattle.rollout.specs.Left.{AreCompleted, IsOnTheWay}
use Rattle.rollout.specs.Pieces.{ArePiecesFew}

-- a change is under way, and no version may be published before a moment above 2^62
abbrev pub WaitsTooLong : State → Type 0
WaitsTooLong new = (max_moment < earliest (facts_of new).line) × ((number : ℕ) × IsUnderWay (facts_of new) number)

-- the moment was above 2^62 from the start, and nothing has changed; or what is left has to wait for such a moment
abbrev pub IsTooLate : State → ℕ → State → Type 0
IsTooLate old moment new = ((max_moment < effective_moment old moment) × (new ≡ old)) ⊎ WaitsTooLong new

-- end is the moment at which its course ends: it is answered if no change is under way then, and a moment above 2^62 is refused if the end is one
abbrev pub CompleteAnswer : State → ℕ → ℕ → ℕ → Result ℕ AdvanceFault → State → ℕ → Type 0
CompleteAnswer old moment pieces limit (Ok answered) new end =
    AreCounts pieces limit
    × (answered ≡ end)
    × Advances new end pieces limit advanced.Finished new
    × AreCompleted (facts_of old) (facts_of new)
    × (effective_moment old moment ≤ end)
    × ((facts_of new).moment ≤ end)
    × (end ≤ max_moment)
CompleteAnswer old moment pieces limit (Err advance_fault.BadCount) new end = (¬ (AreCounts pieces limit)) × (new ≡ old) × (end ≡ effective_moment old moment)
CompleteAnswer old moment pieces limit (Err advance_fault.MomentTooLarge) new end = AreCounts pieces limit × (max_moment < end) × IsTooLate old moment new
CompleteAnswer old moment pieces limit (Err advance_fault.VersionsSpent) new end = AreCounts pieces limit × (end ≤ max_moment) × IsStepDue new end × (max_versions ≤ newest_number (facts_of new).line)
CompleteAnswer old moment pieces limit (Err advance_fault.Memory) new end = AreCounts pieces limit × (end ≤ max_moment)

-- refused or not, all that was done is a course of advances: each act was due at its moment, and nothing else was added. Each element is where
-- it was or further on its way, the rows are as before, and the log has few entries more: at most three begins and publications for each
-- element that was under way, and of each such element the pieces that its items need
pub record CompleteStep (old : State) (moment pieces limit : ℕ) (result : Result ℕ AdvanceFault) (new : State) : Type 0 where
  pub end : ℕ
  pub course : IsCourse pieces limit old (effective_moment old moment) new end
  pub way : IsOnTheWay (facts_of old) (facts_of new)
  pub rows : (facts_of new).rows ≡ (facts_of old).rows
  pub few : acts_in new.log ≤ acts_in old.log + 3 * changes_under_way (facts_of old)
  pub pieces_few : ArePiecesFew pieces limit old new
  pub answer : CompleteAnswer old moment pieces limit result new end

-- what a refused call left, a later call completes
abbrev pub CallsGoOn : Type 0
CallsGoOn = (old middle new : Facts) → IsOnTheWay old middle → AreCompleted middle new → AreCompleted old new
