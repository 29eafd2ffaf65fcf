-- Cited by the contract of PromptState::new, and by that of converse.
-- Where a conversation begins.
use Rattle.std.specs.Prelude.{[], Option, Some, None}
use Rattle.std.specs.FinMap as map
use Rattle.checkpoint.specs.Checkpoint.{Checkpoint}
use Rattle.script_json.specs.Session.{empty}
use Rattle.script_json.specs.SessionVariants.TheVariants.{Running}
use Rattle.script_json.specs.State.{opened}
use Rattle.prompt.specs.declared.state.PromptState.{PromptState}

-- Nothing is declared; or a session is opened at a checkpoint: no server has a lease, nothing is prepared, and no plan is kept.
abbrev pub start_at : Option Checkpoint → PromptState
start_at None = record { session = empty; declared = []; gone = [] }
start_at (Some c) = record { session = Running (record { world = opened c; leases = map.empty; pending = map.empty; plan = [] }); declared = []; gone = [] }
