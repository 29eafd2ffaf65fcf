-- Cited by private functions alone: pieces_of, next_items, commit.
-- What the work knows between two rounds.
use Rattle.std.specs.Prelude.{◌≡◌, ℕ, ◌<◌, length, Some, Err}
use Rattle.reorganise.specs.declared.work.Progress.{Progress}
use Rattle.reorganise.specs.declared.read.Reading.{Reading}
use Rattle.replay.specs.Kept.{AreInPieces}
use Rattle.replay.specs.Replay.{progress_of}
use Rattle.world.specs.Piece.{ReadStep, PieceStep}
use Rattle.world.specs.State.{State, facts_of}
use Rattle.world.specs.declared.piece.ReadFault.TheVariants.{View}
use Rattle.reorganise.specs.declared.fault.ViewFault.TheVariants.{Spent}
use Rattle.piece_work.specs.declared.fault.WorkFault.{WorkFault}
use Rattle.piece_work.specs.declared.fault.WorkFault.TheVariants as work_fault
use Rattle.piece_work.specs.WorkOff.{IsEndedAt}

-- a reorganisation of so many pieces has begun, and those below this one have come to their end
pub record IsAt (state : State) (element pieces piece : ℕ) : Type 0 where
  pub progress : Progress
  pub begun : progress_of (facts_of state).progress element ≡ Some progress
  pub count : length progress.pieces ≡ pieces
  pub earlier : (k : ℕ) → k < piece → IsEndedAt progress k

abbrev pub HasPieces : State → ℕ → ℕ → Type 0
HasPieces state element pieces = IsAt state element pieces 0

-- a piece is refused as spent, and no cursor stands past its end
abbrev pub WasSpent : State → ℕ → ℕ → ℕ → Type 0
WasSpent state element piece limit = ReadStep state element piece limit (Err (View Spent)) × AreInPieces (facts_of state).progress

-- why what was read was not committed
abbrev pub IsUncommitted : State → ℕ → Reading → WorkFault → Type 0
IsUncommitted state moment read (work_fault.Read fault) = ⊥
IsUncommitted state moment read (work_fault.Commit fault) = PieceStep state moment read (Err (fault, read)) state
IsUncommitted state moment read work_fault.Memory = Unit {0}
