-- Cited by the contracts of courses_grow, advances_stay.
-- A course: one advance after another, each at its moment; and what they keep.
use Rattle.std.specs.Prelude.{◌≡◌, ◌≢◌, ℕ, zero, suc, ◌≤◌, List, ◌++◌}
use Rattle.replay.specs.declared.entry.Entry.{Entry}
use Rattle.replay.specs.Kept.{IsKept}
use Rattle.replay.specs.Replay.{Facts}
use Rattle.world.specs.State.{State, facts_of}
use Rattle.rollout.specs.declared.advanced.Advanced.{Advanced}
use Rattle.rollout.specs.declared.advanced.Advanced.TheVariants as advanced
use Rattle.rollout.specs.Advance.{Advances}
use Rattle.rollout.specs.Left.{AreCompleted, IsOnTheWay}

-- ---- a course

-- the moment after an advance: a wait moves it to what is waited for
abbrev pub moment_after : ℕ → Advanced → ℕ
moment_after moment (advanced.Waiting until) = until
moment_after moment done = moment

-- an advance at this moment, which does an act or waits
pub record Leg (pieces limit : ℕ) (old : State) (moment : ℕ) (new : State) (end : ℕ) : Type 0 where
  pub done : Advanced
  pub unfinished : done ≢ advanced.Finished
  pub advances : Advances old moment pieces limit done new
  pub end_is : end ≡ moment_after moment done

-- so many, one after another
abbrev pub Legs : ℕ → ℕ → ℕ → State → ℕ → State → ℕ → Type 0
Legs zero pieces limit old moment new end = (new ≡ old) × (end ≡ moment)
Legs (suc legs) pieces limit old moment new end = (middle : State) × (then : ℕ) × Legs legs pieces limit old moment middle then × Leg pieces limit middle then new end

-- advances alone, one after another, lead from a state at a moment to a state at a moment
abbrev pub IsCourse : ℕ → ℕ → State → ℕ → State → ℕ → Type 0
IsCourse pieces limit old moment new end = (legs : ℕ) × Legs legs pieces limit old moment new end

-- ---- what a course keeps

-- the opening stays, entries are added to the log and none is changed, and no moment goes back
pub record Grows (old : State) (moment : ℕ) (new : State) (end : ℕ) : Type 0 where
  pub opening : new.opening ≡ old.opening
  pub more : List Entry
  pub log : new.log ≡ old.log ++ more
  pub later : moment ≤ end
  pub past : (facts_of old).moment ≤ moment → (facts_of new).moment ≤ end

abbrev pub CoursesGrow : Type 0
CoursesGrow = (old new : State) (moment pieces limit end : ℕ) → IsCourse pieces limit old moment new end → Grows old moment new end

-- ---- what an advance keeps

-- each element is where it was or further on its way, and the rows are as before
pub record Stays (old new : Facts) : Type 0 where
  pub way : IsOnTheWay old new
  pub rows : new.rows ≡ old.rows

-- so it is after each advance, and after any number of them; and once one reports that all is finished, every change is completed
pub record AdvancesStay : Type 0 where
  pub one : (old new : State) (moment pieces limit : ℕ) (done : Advanced) → IsKept (facts_of old) → Advances old moment pieces limit done new → Stays (facts_of old) (facts_of new)
  pub more : (old middle new : Facts) → Stays old middle → Stays middle new → Stays old new
  pub finished : (old : Facts) (new : State) (moment pieces limit : ℕ) → IsKept (facts_of new) → Stays old (facts_of new) → Advances new moment pieces limit advanced.Finished new → AreCompleted old (facts_of new)
