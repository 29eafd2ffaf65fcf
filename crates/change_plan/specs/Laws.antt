-- Cited by the contracts of plans_are_least.
-- What the plan of a batch keeps.
use Rattle.std.specs.Prelude.{List}
use Rattle.schema_version.specs.Version.{Version}
use Rattle.schema_version.specs.Sound.{IsSoundVersion}
use Rattle.change_plan.specs.declared.change.Change.{Change}
use Rattle.change_plan.specs.Plans.{IsLeast}
use Rattle.change_plan.specs.Refusals.{IsPlannable}
use Rattle.change_plan.specs.Schedule.{planned_steps}

-- where nothing stands against the batch, its planned steps is lawful, and no lawful plan has fewer
-- steps
abbrev pub PlansAreLeast : Type 0
PlansAreLeast = (old : Version) (changes : List Change) → IsSoundVersion old → IsPlannable old changes → IsLeast old changes (planned_steps old changes)
