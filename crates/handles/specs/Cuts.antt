-- Cited by the contracts of cagzhomul_log_length, cagzhomul_log_start, cagzhomul_cut and of what they call.
-- How many entries a world's log has, and which of them are in memory.
use Rattle.std.specs.Prelude.{◌≡◌, ℕ, ℤ, Option, Some, None}
use Rattle.typed_calls.specs.State.{cut_but, entries_before, entry_count}
use Rattle.typed_calls.specs.Statuses.{ok, closed}
use Rattle.handles.specs.declared.engine.Engine.{Engine}
use Rattle.handles.specs.declared.engine.Engine.TheVariants as engine
use Rattle.handles.specs.declared.outcome.Outcome.{Outcome}

-- how many there were ever, those that were cut off among them
abbrev pub LogLengths : Option Engine → Outcome → Type 0
LogLengths None outcome = outcome ≡ record { status = closed; length = 0 }
LogLengths (Some (engine.World bounded)) outcome = outcome ≡ record { status = ok; length = entry_count bounded.world }
LogLengths (Some other) outcome = outcome ≡ record { status = closed; length = 0 }

-- how many come before those in memory
abbrev pub LogStarts : Option Engine → Outcome → Type 0
LogStarts None outcome = outcome ≡ record { status = closed; length = 0 }
LogStarts (Some (engine.World bounded)) outcome = outcome ≡ record { status = ok; length = entries_before bounded.world }
LogStarts (Some other) outcome = outcome ≡ record { status = closed; length = 0 }

-- all but the last so many are no longer in memory, and all else is as it was
abbrev pub Cuts : ℕ → Option Engine → ℤ → Option Engine → Type 0
Cuts keep None status new = (status ≡ closed) × (new ≡ None)
Cuts keep (Some (engine.World bounded)) status new =
    (status ≡ ok) × (new ≡ Some (engine.World (record bounded { world = cut_but keep bounded.world })))
Cuts keep (Some other) status new = (status ≡ closed) × (new ≡ Some other)
