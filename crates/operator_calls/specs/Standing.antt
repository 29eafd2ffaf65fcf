-- Cited by the contracts of cagzhomul_progress, cagzhomul_status and of what they call.
-- How far a begun reorganisation is, and how a world behind a handle stands.
use Rattle.std.specs.Prelude.{◌≡◌, ℕ, ℤ, false, List, length, Option, Some, None, Result, Ok, Err, String, string_bytes}
use Rattle.std.specs.Global.{Global}
use Rattle.handles.specs.Progress.{reached_at, TellsStatus}
use Rattle.handles.specs.State.{State}
use Rattle.handles.specs.Statuses.{ok, closed}
use Rattle.handles.specs.Reached.{Reached}
use Rattle.handles.specs.declared.engine.Engine.{Engine}
use Rattle.handles.specs.declared.engine.Engine.TheVariants as engine
use Rattle.handles.specs.declared.outcome.Outcome.{Outcome}
use Rattle.operator_calls.specs.declared.standing.ProgressOutcome.{ProgressOutcome}
use Rattle.handles.specs.Calls.{laid, Refuses}

-- ---- progress

-- a status alone
abbrev pub progress_alone : ℤ → ProgressOutcome
progress_alone status = record { status = status; ended = false; next = 0; left = 0; all = 0 }

abbrev pub progress_outcome : Result Reached ℤ → ProgressOutcome
progress_outcome (Ok reached) = record { status = ok; ended = reached.ended; next = reached.next; left = reached.left; all = reached.all }
progress_outcome (Err status) = progress_alone status

abbrev pub Progresses : Option Engine → ℕ → ProgressOutcome → Type 0
Progresses None element outcome = outcome ≡ progress_alone closed
Progresses (Some (engine.World bounded)) element outcome = outcome ≡ progress_outcome (reached_at bounded.world element)
Progresses (Some other) element outcome = outcome ≡ progress_alone closed

-- ---- status

-- as much of the line as fits lies in the caller's bytes, or there is a status alone
abbrev pub ShowsLine : Result (String Global) ℤ → List ℕ → Outcome → List ℕ → Type 0
ShowsLine (Ok line) out outcome out' = (outcome ≡ record { status = ok; length = length (string_bytes line) }) × (out' ≡ laid out (string_bytes line))
ShowsLine (Err status) out outcome out' = Refuses status out outcome out'

abbrev pub ShowsStatusOf : State → List ℕ → Outcome → List ℕ → Type 0
ShowsStatusOf world out outcome out' = (answer : Result (String Global) ℤ) × TellsStatus world answer × ShowsLine answer out outcome out'

abbrev pub ShowsStatus : Option Engine → List ℕ → Outcome → List ℕ → Type 0
ShowsStatus None out outcome out' = Refuses closed out outcome out'
ShowsStatus (Some (engine.World bounded)) out outcome out' = ShowsStatusOf bounded.world out outcome out'
ShowsStatus (Some other) out outcome out' = Refuses closed out outcome out'
