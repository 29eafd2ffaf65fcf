-- Cited by the contracts of cagzhomul_checkpoint, cagzhomul_save, cagzhomul_open_checkpoint, cagzhomul_open_at and of what they call.
-- The checkpoint of a world in a handle of its own, its bytes in another, and a world that opens there.
use Rattle.std.specs.Prelude.{◌≡◌, ℕ, ◌⊎◌, ℤ, List, Option, Some, None, Ok, Err}
use Rattle.checkpoint.specs.Checkpoint.{Checkpoint}
use Rattle.typed_calls.specs.State.{State}
use Rattle.typed_calls.specs.Checkpoints.{bounded_at, OpensAt, OpensSaved, Saves, TakesOf}
use Rattle.typed_calls.specs.Statuses.{ok, closed, already_open}
use Rattle.typed_calls.specs.declared.bounded.BoundedWorld.{BoundedWorld}
use Rattle.handles.specs.declared.engine.Engine.{Engine}
use Rattle.handles.specs.declared.engine.Engine.TheVariants as engine
use Rattle.handles.specs.Handles.{Fills}

-- ---- checkpoint

-- the checkpoint of the world, or memory ran out
abbrev pub TakesInto : State → ℤ → Option Engine → Type 0
TakesInto world status new =
    ((checkpoint : Checkpoint) × TakesOf world (Ok checkpoint) × Fills (engine.Checkpoint checkpoint) status new)
    ⊎ (TakesOf world (Err status) × (new ≡ None))

abbrev pub TakesFrom : Option Engine → ℤ → Option Engine → Type 0
TakesFrom None status new = (status ≡ closed) × (new ≡ None)
TakesFrom (Some (engine.World bounded)) status new = TakesInto bounded.world status new
TakesFrom (Some other) status new = (status ≡ closed) × (new ≡ None)

-- into a closed handle
abbrev pub Takes : Option Engine → Option Engine → ℤ → Option Engine → Type 0
Takes world (Some e) status new = (status ≡ already_open) × (new ≡ Some e)
Takes world None status new = TakesFrom world status new

-- ---- save

-- the bytes of the checkpoint, or memory ran out
abbrev pub SavesInto : Checkpoint → ℤ → Option Engine → Type 0
SavesInto checkpoint status new =
    ((bytes : List ℕ) × Saves checkpoint (Ok bytes) × Fills (engine.Bytes bytes) status new)
    ⊎ (Saves checkpoint (Err status) × (new ≡ None))

abbrev pub SavesFrom : Option Engine → ℤ → Option Engine → Type 0
SavesFrom None status new = (status ≡ closed) × (new ≡ None)
SavesFrom (Some (engine.Checkpoint checkpoint)) status new = SavesInto checkpoint status new
SavesFrom (Some other) status new = (status ≡ closed) × (new ≡ None)

-- into a closed handle
abbrev pub SavesTo : Option Engine → Option Engine → ℤ → Option Engine → Type 0
SavesTo checkpoint (Some e) status new = (status ≡ already_open) × (new ≡ Some e)
SavesTo checkpoint None status new = SavesFrom checkpoint status new

-- ---- open_checkpoint

-- a world that goes on from the checkpoint, whose handle is then closed
abbrev pub OpensHeld : Option Engine → ℕ → ℤ → Option Engine → Option Engine → Type 0
OpensHeld None furthest status left world = (status ≡ closed) × (left ≡ None) × (world ≡ None)
OpensHeld (Some (engine.Checkpoint checkpoint)) furthest status left world =
    (status ≡ ok) × (left ≡ None) × (world ≡ Some (engine.World (bounded_at checkpoint furthest)))
OpensHeld (Some other) furthest status left world = (status ≡ closed) × (left ≡ Some other) × (world ≡ None)

-- into a closed handle
abbrev pub OpensCheckpoint : Option Engine → ℕ → Option Engine → ℤ → Option Engine → Option Engine → Type 0
OpensCheckpoint checkpoint furthest (Some e) status left world = (status ≡ already_open) × (left ≡ checkpoint) × (world ≡ Some e)
OpensCheckpoint checkpoint furthest None status left world = OpensHeld checkpoint furthest status left world

-- ---- open_at

-- the world that `typed_calls::open_at` gives, or the status of its refusal
abbrev pub OpensHere : Option Engine → List ℕ → ℕ → ℤ → Option Engine → Type 0
OpensHere (Some e) bytes furthest status new = (status ≡ already_open) × (new ≡ Some e)
OpensHere None bytes furthest status new =
    ((bounded : BoundedWorld) × OpensAt bytes furthest (Ok bounded) × OpensSaved bytes furthest (Ok bounded) × Fills (engine.World bounded) status new)
    ⊎ (OpensAt bytes furthest (Err status) × OpensSaved bytes furthest (Err status) × (new ≡ None))
