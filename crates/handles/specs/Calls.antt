-- Cited by the contracts of the exported functions, and of what they call.
-- What a call writes to the caller's bytes, the end of a handle, and the texts of statuses.
use Rattle.std.specs.Prelude.{◌≡◌, ℕ, List, ◌++◌, take, drop, length, min, Option, Some, None, ℤ}
use Rattle.handles.specs.declared.engine.Engine.{Engine}
use Rattle.handles.specs.declared.outcome.Outcome.{Outcome}
use Rattle.typed_calls.specs.Statuses.{ok, closed, status_text}

-- as much of the text as fits lies over what was there
abbrev pub laid : List ℕ → List ℕ → List ℕ
laid old text = take (min (length text) (length old)) text ++ drop (min (length text) (length old)) old

-- the call has this status alone, and writes nothing
abbrev pub Refuses : ℤ → List ℕ → Outcome → List ℕ → Type 0
Refuses status out outcome out' = (outcome ≡ record { status = status; length = 0 }) × (out' ≡ out)

abbrev pub Closes : Option Engine → ℤ → Option Engine → Type 0
Closes None status new = (status ≡ closed) × (new ≡ None)
Closes (Some e) status new = (status ≡ ok) × (new ≡ None)

abbrev pub ShowsText : ℤ → List ℕ → ℕ → List ℕ → Type 0
ShowsText status out count out' = (count ≡ length (status_text status)) × (out' ≡ laid out (status_text status))
