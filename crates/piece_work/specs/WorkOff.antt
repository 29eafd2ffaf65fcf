-- Cited by the contracts of next_view, work_off, locked_store::Shared::next_view.
-- What it is to work a begun reorganisation off, round by round.
use Rattle.std.specs.Prelude.{◌≡◌, ℕ, zero, suc, ◌<◌, true, Option, Some, None, Result, Ok, Err, slice_get}
use Rattle.std.specs.declared.cmp.Ordering.TheVariants.{Less}
use Rattle.keycode.specs.Order.{bytes_cmp}
use Rattle.schema_version.specs.declared.element.Work.{Work}
use Rattle.reorganise.specs.declared.work.Span.{Span}
use Rattle.reorganise.specs.declared.work.Progress.{Progress}
use Rattle.reorganise.specs.declared.read.Reading.{Reading}
use Rattle.reorganise.specs.Pieces.{is_ended}
use Rattle.replay.specs.Replay.{progress_of}
use Rattle.world.specs.declared.entry.PieceDone.{PieceDone}
use Rattle.world.specs.declared.piece.ReadFault.{ReadFault}
use Rattle.world.specs.declared.piece.ReadFault.TheVariants.{NotWanted, View}
use Rattle.world.specs.Piece.{standing_at, ReadStep, PieceStep}
use Rattle.world.specs.State.{State, facts_of}
use Rattle.piece_work.specs.declared.fault.WorkFault.{WorkFault}
use Rattle.piece_work.specs.declared.fault.WorkFault.TheVariants as work_fault

-- ---- the piece that is next

-- the piece of this number has come to its end
pub record IsEndedAt (progress : Progress) (piece : ℕ) : Type 0 where
  pub span : Span
  pub here : slice_get progress.pieces piece ≡ Some span
  pub ended : is_ended span ≡ true

-- its cursor is below its end, and each piece before it has come to its own
pub record IsFirstOpen (progress : Progress) (piece : ℕ) : Type 0 where
  pub span : Span
  pub here : slice_get progress.pieces piece ≡ Some span
  pub unended : bytes_cmp span.cursor span.high ≡ Less
  pub earlier : (k : ℕ) → k < piece → IsEndedAt progress k

-- of the element's reorganisation as it stands
pub record IsNext (state : State) (element piece : ℕ) : Type 0 where
  pub progress : Progress
  pub begun : progress_of (facts_of state).progress element ≡ Some progress
  pub first : IsFirstOpen progress piece

-- ---- rounds

-- the next piece is read as it stands, and what was read is committed
pub record Round (old : State) (element moment limit : ℕ) (new : State) : Type 0 where
  pub piece : ℕ
  pub next : IsNext old element piece
  pub read : Reading
  pub read_so : ReadStep old element piece limit (Ok read)
  pub done : PieceDone
  pub committed : PieceStep old moment read (Ok done) new

-- so many rounds, one after another
abbrev pub Rounds : ℕ → State → ℕ → ℕ → ℕ → State → Type 0
Rounds zero old element moment limit new = new ≡ old
Rounds (suc rounds) old element moment limit new = (middle : State) × Rounds rounds old element moment limit middle × Round middle element moment limit new

-- ---- where they end

-- all pieces of the element's reorganisation have come to their end
abbrev pub HasEnded : State → ℕ → Type 0
HasEnded state element = (work : Work) × (pieces : ℕ) × (standing_at (facts_of state) element ≡ Some (work, pieces, true))

-- the next piece was read
abbrev pub WasRead : State → ℕ → ℕ → ℕ → Reading → Type 0
WasRead state element limit piece read = IsNext state element piece × ReadStep state element piece limit (Ok read)

-- the next piece is read; or there is none, since all have ended; or nothing is begun, or the next piece is refused by its read
abbrev pub NextStep : State → ℕ → ℕ → Result (Option Reading) ReadFault → Type 0
NextStep state element limit (Ok (Some read)) = (piece : ℕ) × WasRead state element limit piece read
NextStep state element limit (Ok None) = HasEnded state element
NextStep state element limit (Err NotWanted) = progress_of (facts_of state).progress element ≡ None
NextStep state element limit (Err (View fault)) = (piece : ℕ) × IsNext state element piece × ReadStep state element piece limit (Err (View fault))

-- why the next round doesn't come: nothing is begun, or the next piece is refused by its read or by
-- its commit; out of memory comes after the read
abbrev pub Stops : State → ℕ → ℕ → ℕ → WorkFault → Type 0
Stops state element moment limit (work_fault.Read NotWanted) = progress_of (facts_of state).progress element ≡ None
Stops state element moment limit (work_fault.Read (View fault)) = (piece : ℕ) × IsNext state element piece × ReadStep state element piece limit (Err (View fault))
Stops state element moment limit (work_fault.Commit fault) = (piece : ℕ) × (read : Reading) × WasRead state element limit piece read × PieceStep state moment read (Err (fault, read)) state
Stops state element moment limit work_fault.Memory = (piece : ℕ) × (read : Reading) × WasRead state element limit piece read

-- ---- the call

-- rounds until all pieces have ended, or until one doesn't come
abbrev pub WorkStep : State → ℕ → ℕ → ℕ → Result ℕ WorkFault → State → Type 0
WorkStep old element moment limit (Ok commits) new = Rounds commits old element moment limit new × HasEnded new element
WorkStep old element moment limit (Err fault) new = (commits : ℕ) × Rounds commits old element moment limit new × Stops new element moment limit fault
