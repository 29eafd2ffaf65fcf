-- Cited by the contracts of the typed calls.
-- A handle that a call fills.
use Rattle.std.specs.Prelude.{◌≡◌, ◌⊎◌, ℤ, Option, Some, None}
use Rattle.handles.specs.declared.engine.Engine.{Engine}
use Rattle.typed_calls.specs.Statuses.{ok, out_of_memory}

-- the handle, which was closed, holds this, or memory ran out
abbrev pub Fills : Engine → ℤ → Option Engine → Type 0
Fills held status new = ((status ≡ ok) × (new ≡ Some held)) ⊎ ((status ≡ out_of_memory) × (new ≡ None))
