-- Cited by the contracts of progress, status_line and of what they call.
-- How far a begun reorganisation of a world is, and how the world stands.
use Rattle.std.specs.Prelude.{◌≡◌, ℕ, ℤ, length, Result, Ok, Err, String, string_bytes, option_map, ok_or, unwrap_or}
use Rattle.std.specs.Global.{Global}
use Rattle.reorganise.specs.Left.{items_left, open_from}
use Rattle.reorganise.specs.Pieces.{are_ended}
use Rattle.reorganise.specs.ScanRanges.{items, scan_range_of}
use Rattle.reorganise.specs.declared.work.Progress.{Progress}
use Rattle.replay.specs.Replay.{progress_of}
use Rattle.row_map.specs.Rows.{Pairs}
use Rattle.script_session.specs.Status.{IsStatus}
use Rattle.script_session.specs.State.{State, facts_of}
use Rattle.typed_calls.specs.Statuses.{not_wanted, out_of_memory}
use Rattle.typed_calls.specs.declared.standing.Reached.{Reached}

-- ---- progress

-- whether all pieces have ended, the first that has not, the items that are left, and all items that are present
abbrev pub reached : Progress → Pairs → Reached
reached progress pairs = record {
  ended = are_ended progress.pieces;
  next = unwrap_or (open_from 0 progress.pieces) 0;
  left = items_left progress pairs;
  all = length (items (scan_range_of progress.element progress.kind) pairs);
}

-- of the element's begun reorganisation, if there is one
abbrev pub reached_at : State → ℕ → Result Reached ℤ
reached_at world element = ok_or (option_map (λ progress. reached progress world.pairs) (progress_of (facts_of world).progress element)) not_wanted

-- ---- status_line

-- the line that tells how the world stands, unless memory ran out
abbrev pub TellsStatus : State → Result (String Global) ℤ → Type 0
TellsStatus world (Ok line) = IsStatus world (string_bytes line)
TellsStatus world (Err status) = status ≡ out_of_memory
