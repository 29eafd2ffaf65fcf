-- Cited by the contracts of draft_begin, draft_close, draft_piece, draft_publish and 2 more.
-- What the calls give that make drafts.
use Rattle.std.specs.Prelude.{◌≡◌, List, Some, slice_get}
use Rattle.row_map.specs.Rows.{Bytes}
use Rattle.reorganise.specs.declared.read.Reading.{Reading}
use Rattle.drafts.specs.declared.record.Control.{Control}
use Rattle.drafts.specs.declared.piece.PieceFault.{PieceFault}
use Rattle.drafts.specs.declared.piece.PieceFault.TheVariants.{BadPiece, Memory}
use Rattle.drafts.specs.Store.{Draft}
use Rattle.drafts.specs.Calls.{Working, piece_draft, IsWorking}

-- the control records of a draft
pub record IsControlOf (draft : Draft) (control : Control) : Type 0 where
  pub reads : control.reads ≡ draft.reads
  pub writes : control.writes ≡ draft.writes

-- a piece of the reorganisation with these bounds
abbrev pub working : Reading → List (Bytes × Bytes) → Working
working read bounds = record { read = read; bounds = bounds }

pub record IsPieceBy (read : Reading) (bounds : List (Bytes × Bytes)) (control : Control) : Type 0 where
  pub made : IsWorking (working read bounds)
  pub control_is : IsControlOf (piece_draft (working read bounds)) control

-- the piece of its number has its bounds
abbrev pub IsAmong : Reading → List (Bytes × Bytes) → Type 0
IsAmong read bounds = slice_get bounds read.piece ≡ Some (read.low, read.high)

-- out of memory comes only if the piece has its bounds
abbrev pub PieceRefusal : Reading → List (Bytes × Bytes) → PieceFault → Type 0
PieceRefusal read bounds BadPiece = ¬ (IsAmong read bounds)
PieceRefusal read bounds Memory = IsAmong read bounds
