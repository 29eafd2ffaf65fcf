-- Cited by private functions alone: cursor_for, cursors_for, move_cursors.
-- The cursor that is laid aside for each reorganisation before any is moved.
use Rattle.std.specs.Prelude.{ℕ, Option, Some, None, if◌then◌else◌}
use Rattle.row_map.specs.Rows.{Bytes}
use Rattle.reorganise.specs.declared.work.Progress.{Progress}
use Rattle.replay.specs.Replay.{is_of}

-- the cursor, if the reorganisation is the one of this element
abbrev pub cursor_of : ℕ → Bytes → Progress → Option Bytes
cursor_of number cursor progress = if is_of number progress then Some cursor else None
