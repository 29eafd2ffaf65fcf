-- Cited by the contracts of plan.
-- The plan of a batch: each change's element takes the moves of its way, one per step without a gap.
use Rattle.std.specs.Prelude.{ℕ, zero, suc, ◌+◌, ◌-◌, max, List, [], ◌∷◌, ◌++◌, length, count_by, flat_map, nat_lt, ◌==◌, Bool, false, Option, Some, None, if◌then◌else◌}
use mathlib.Core.List.{map as each}
use Rattle.schema_version.specs.declared.element.ElementState.{ElementState}
use Rattle.schema_version.specs.declared.element.ElementState.TheVariants.{Absent, DeleteOnly, WriteOnly, Public}
use Rattle.schema_version.specs.declared.element.Kind.{Kind}
use Rattle.schema_version.specs.declared.element.Kind.TheVariants.{Index}
use Rattle.schema_version.specs.declared.element.ElementDef.{ElementDef}
use Rattle.schema_version.specs.declared.element.NewElement.{NewElement}
use Rattle.schema_version.specs.declared.step.Move.{Move}
use Rattle.schema_version.specs.declared.step.Move.TheVariants.{Enter, Go, Turn}
use Rattle.schema_version.specs.Edges.{needed_work, is_filled}
use Rattle.schema_version.specs.Version.{Version}
use Rattle.change_plan.specs.declared.change.Change.{Change}
use Rattle.change_plan.specs.declared.change.Change.TheVariants.{AddIndex, AddColumn}
use Rattle.change_plan.specs.declared.least_plan.Reorg.{Reorg}
use Rattle.change_plan.specs.declared.least_plan.PlanStep.{PlanStep}
use Rattle.change_plan.specs.declared.schedule.Transition.{Transition}
use Rattle.change_plan.specs.declared.schedule.Transition.TheVariants.{Wait, Appear, Reach, Return}
use Rattle.change_plan.specs.declared.schedule.StatePath.{StatePath}
use Rattle.change_plan.specs.declared.schedule.StatePath.TheVariants.{PlainIn, FilledIn, FilledOut, PlainOut, DeleteOnlyBack, WriteOnlyBack}
use Rattle.change_plan.specs.declared.schedule.Schedule.{Schedule}
use Rattle.change_plan.specs.Plans.{reorgs}
use Rattle.change_plan.specs.Batches.{dropped_element, named_column, is_same_name, adds_column, lists}

-- ---- state paths

-- what is done in each step
abbrev pub transitions : StatePath → List Transition
transitions PlainIn = Appear ∷ Reach Public ∷ []
transitions FilledIn = Appear ∷ Reach WriteOnly ∷ Reach Public ∷ []
transitions FilledOut = Reach WriteOnly ∷ Reach DeleteOnly ∷ Reach Absent ∷ []
transitions PlainOut = Reach DeleteOnly ∷ Reach Absent ∷ []
transitions DeleteOnlyBack = Return ∷ Reach Absent ∷ []
transitions WriteOnlyBack = Return ∷ Reach DeleteOnly ∷ Reach Absent ∷ []

abbrev pub steps : StatePath → ℕ
steps state_path = length (transitions state_path)

-- the way in of an element: what a fill serves passes write-only
abbrev pub state_path_in : Kind → StatePath
state_path_in kind = if is_filled kind then FilledIn else PlainIn

-- the way out of an element: one that isn't public is abandoned, and turns back first
abbrev pub state_path_out : Kind → ElementState → StatePath
state_path_out kind DeleteOnly = DeleteOnlyBack
state_path_out kind WriteOnly = WriteOnlyBack
state_path_out kind state = if is_filled kind then FilledOut else PlainOut

abbrev pub nth_transition : List Transition → ℕ → Transition
nth_transition [] time = Wait
nth_transition (transition ∷ transitions) zero = transition
nth_transition (transition ∷ transitions) (suc time) = nth_transition transitions time

-- ---- schedules

-- what is done in the step after this number of steps
abbrev pub transition_at : Schedule → ℕ → Transition
transition_at schedule time = if nat_lt time schedule.wait then Wait else nth_transition (transitions schedule.state_path) (time - schedule.wait)

-- the steps up to its last move
abbrev pub duration : Schedule → ℕ
duration schedule = schedule.wait + steps schedule.state_path

abbrev pub move_by : ℕ → NewElement → Transition → List Move
move_by number fresh Wait = []
move_by number fresh Appear = Enter fresh DeleteOnly ∷ []
move_by number fresh (Reach to) = Go number to ∷ []
move_by number fresh Return = Turn number ∷ []

abbrev pub work_by : ℕ → Kind → Transition → List Reorg
work_by number kind (Reach to) = reorgs number (needed_work kind to)
work_by number kind transition = []

-- the schedule's move in the step after this number of steps
abbrev pub move_of : ℕ → Schedule → List Move
move_of time schedule = move_by schedule.number schedule.fresh (transition_at schedule time)

abbrev pub work_of_schedule : ℕ → Schedule → List Reorg
work_of_schedule time schedule = work_by schedule.number schedule.fresh.kind (transition_at schedule time)

abbrev pub step_at : List Schedule → ℕ → PlanStep
step_at schedules time = record { before = flat_map (work_of_schedule time) schedules; step = flat_map (move_of time) schedules }

-- the steps of the longest schedule
abbrev pub longest : List Schedule → ℕ
longest [] = 0
longest (schedule ∷ schedules) = max (duration schedule) (longest schedules)

-- so many steps from this time on
abbrev pub steps_from : List Schedule → ℕ → ℕ → List PlanStep
steps_from schedules time zero = []
steps_from schedules time (suc count) = step_at schedules time ∷ steps_from schedules (suc time) count

-- ---- the schedules of a batch

-- the steps until the change's column is public, where it adds the table's column of this name
abbrev pub steps_to : ℕ → List ℕ → Change → ℕ
steps_to table name (AddColumn other own kind) = if is_same_name table name other own then steps (state_path_in kind) else 0
steps_to table name change = 0

-- the steps until the column of this name is public that these changes add
abbrev pub steps_until : ℕ → List ℕ → List Change → ℕ
steps_until table name [] = 0
steps_until table name (change ∷ changes) = max (steps_to table name change) (steps_until table name changes)

-- the steps that an index over these columns waits: until the last of them that the batch adds is public
abbrev pub wait_in : List Change → ℕ → List (List ℕ) → ℕ
wait_in all table [] = 0
wait_in all table (name ∷ names) = max (steps_until table name all) (wait_in all table names)

-- whether the change adds an element that waits so many steps
abbrev pub enters_at : List Change → ℕ → Change → Bool
enters_at all wait (AddIndex table name columns) = wait_in all table columns == wait
enters_at all wait (AddColumn table name kind) = 0 == wait
enters_at all wait change = false

-- whether the change adds an element that waits fewer steps
abbrev pub enters_before : List Change → ℕ → Change → Bool
enters_before all wait (AddIndex table name columns) = nat_lt (wait_in all table columns) wait
enters_before all wait (AddColumn table name kind) = nat_lt 0 wait
enters_before all wait change = false

-- The number of the element that a change after these earlier ones adds, by its wait: those that
-- wait less are numbered before it, and those of earlier changes that wait as long. The first
-- number is that of the next to enter.
abbrev pub number_of : ℕ → List Change → List Change → ℕ → ℕ
number_of next all earlier wait = (next + count_by (enters_before all wait) all) + count_by (enters_at all wait) earlier

-- the number that the first of these changes to add this column gives it, after the earlier ones
abbrev pub added_number : ℕ → List Change → List Change → ℕ → List ℕ → List Change → ℕ
added_number next all earlier table name [] = 0
added_number next all earlier table name (change ∷ changes) =
    if adds_column table name change then number_of next all earlier 0 else added_number next all (earlier ++ change ∷ []) table name changes

abbrev pub number_or : Option ElementDef → ℕ → ℕ
number_or None other = other
number_or (Some element) other = element.number

-- the number of a listed column, live or added
abbrev pub column_number : Version → List Change → ℕ → List ℕ → ℕ
column_number old all table name = number_or (named_column old table name) (added_number old.next all [] table name all)

-- the steps until an element that leaves has gone, where it is an index that lists this column
abbrev pub steps_on : ℕ → Option ElementDef → ℕ
steps_on column None = 0
steps_on column (Some index) = if lists column index then steps (state_path_out index.kind index.state) else 0

-- the steps until no index that these take out lists the element any more
abbrev pub wait_out : Version → ℕ → List Change → ℕ
wait_out old number [] = 0
wait_out old number (change ∷ changes) = max (steps_on number (dropped_element old change)) (wait_out old number changes)

abbrev pub fresh_of : ElementDef → NewElement
fresh_of element = record { table = element.table; name = element.name; kind = element.kind }

abbrev pub out_schedule : Version → List Change → ElementDef → Schedule
out_schedule old all element = record { wait = wait_out old element.number all; state_path = state_path_out element.kind element.state; number = element.number; fresh = fresh_of element }

abbrev pub schedule_out : Version → List Change → Option ElementDef → List Schedule
schedule_out old all None = []
schedule_out old all (Some element) = out_schedule old all element ∷ []

abbrev pub index_schedule : Version → List Change → List Change → ℕ → List ℕ → List (List ℕ) → Schedule
index_schedule old all earlier table name columns =
    record {
      wait = wait_in all table columns;
      state_path = FilledIn;
      number = number_of old.next all earlier (wait_in all table columns);
      fresh = record { table = table; name = name; kind = Index (each (column_number old all table) columns) };
    }

abbrev pub column_schedule : ℕ → ℕ → List ℕ → Kind → Schedule
column_schedule number table name kind = record { wait = 0; state_path = state_path_in kind; number = number; fresh = record { table = table; name = name; kind = kind } }

-- the schedule of a change after these earlier ones
abbrev pub schedule_of : Version → List Change → List Change → Change → List Schedule
schedule_of old all earlier (AddIndex table name columns) = index_schedule old all earlier table name columns ∷ []
schedule_of old all earlier (AddColumn table name kind) = column_schedule (number_of old.next all earlier 0) table name kind ∷ []
schedule_of old all earlier change = schedule_out old all (dropped_element old change)

-- the schedules of these changes after the earlier ones
abbrev pub schedules_from : Version → List Change → List Change → List Change → List Schedule
schedules_from old all earlier [] = []
schedules_from old all earlier (change ∷ changes) = schedule_of old all earlier change ++ schedules_from old all (earlier ++ change ∷ []) changes

abbrev pub schedules : Version → List Change → List Schedule
schedules old changes = schedules_from old changes [] changes

-- the plan
abbrev pub planned_steps : Version → List Change → List PlanStep
planned_steps old changes = steps_from (schedules old changes) 0 (longest (schedules old changes))
