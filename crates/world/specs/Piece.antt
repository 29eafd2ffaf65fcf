-- Cited by the contracts of World::progress, World::piece_progress, World::read_piece, World::read_piece_to and 5 more.
-- What the calls on a begun reorganisation answer.
use Rattle.std.specs.Prelude.{◌≡◌, ◌≢◌, ℕ, ◌<◌, ◌≤◌, length, Bool, Option, Some, None, Result, Ok, Err, slice_get}
use Rattle.std.specs.Bool.{Decides}
use Rattle.std.specs.Option.{option_map}
use Rattle.lease.specs.Timeline.{max_moment}
use Rattle.collections.specs.Refusal.{IsRefusal, IsClear}
use Rattle.row_map.specs.Expect.{IsConflict, Holds}
use Rattle.row_map.specs.Rows.{Bytes}
use Rattle.schema_version.specs.declared.element.Work.{Work}
use Rattle.reorganise.specs.declared.work.Span.{Span}
use Rattle.reorganise.specs.declared.work.Progress.{Progress}
use Rattle.reorganise.specs.declared.read.Reading.{Reading}
use Rattle.reorganise.specs.declared.fault.ViewFault.TheVariants.{Memory as OutOfMemory}
use Rattle.reorganise.specs.Cursor.{IsSpanOf}
use Rattle.reorganise.specs.Pieces.{is_ended, are_ended, IsReadOf, CanCome, IsReadTo}
use Rattle.reorganise.specs.Batches.{expect_of}
use Rattle.reorganise.specs.Refusals.{rank as view_rank, Condition as ViewCondition}
use Rattle.replay.specs.declared.entry.What.TheVariants.{Piece}
use Rattle.replay.specs.Replay.{Facts, progress_of}
use Rattle.world.specs.declared.entry.PieceDone.{PieceDone}
use Rattle.world.specs.declared.piece.PieceFault.{PieceFault}
use Rattle.world.specs.declared.piece.PieceFault.TheVariants as piece_fault
use Rattle.world.specs.declared.piece.ReadFault.{ReadFault}
use Rattle.world.specs.declared.piece.ReadFault.TheVariants as read_fault
use Rattle.world.specs.Calls.{effective_moment, Appends}
use Rattle.world.specs.State.{State, facts_of}

-- ---- what is reported of a reorganisation

-- its work, the number of its pieces, and whether all have ended
abbrev pub standing : Progress → Work × ℕ × Bool
standing progress = (progress.kind, length progress.pieces, are_ended progress.pieces)

abbrev pub standing_at : Facts → ℕ → Option (Work × ℕ × Bool)
standing_at facts number = option_map standing (progress_of facts.progress number)

-- the work of a reorganisation, and whether its piece of this number has ended
abbrev pub piece_standing : Progress → ℕ → Option (Work × Bool)
piece_standing progress piece = option_map (λ span. (progress.kind, is_ended span)) (slice_get progress.pieces piece)

abbrev pub piece_standing_in : Option Progress → ℕ → Option (Work × Bool)
piece_standing_in None piece = None
piece_standing_in (Some progress) piece = piece_standing progress piece

abbrev pub piece_standing_at : Facts → ℕ → ℕ → Option (Work × Bool)
piece_standing_at facts number piece = piece_standing_in (progress_of facts.progress number) piece

-- ---- reading a piece

-- a piece is read of the begun reorganisation, as it stands
abbrev pub ReadStep : State → ℕ → ℕ → ℕ → Result Reading ReadFault → Type 0
ReadStep old number piece limit (Ok read) =
    (progress : Progress) × (progress_of (facts_of old).progress number ≡ Some progress) × IsClear (ViewCondition progress piece limit) × IsReadOf progress old.pairs piece limit read
ReadStep old number piece limit (Err read_fault.NotWanted) = progress_of (facts_of old).progress number ≡ None
ReadStep old number piece limit (Err (read_fault.View fault)) =
    (progress : Progress) × (progress_of (facts_of old).progress number ≡ Some progress) × IsRefusal view_rank (ViewCondition progress piece limit) OutOfMemory fault

-- the element's begun reorganisation has this piece, which can come to that key
abbrev pub CanComeTo : State → ℕ → ℕ → Bytes → Type 0
CanComeTo old number piece to = (progress : Progress) × (progress_of (facts_of old).progress number ≡ Some progress) × CanCome progress piece to

-- it is read as far as that key, as it stands
abbrev pub IsReadAsFar : State → ℕ → ℕ → Bytes → Reading → Type 0
IsReadAsFar old number piece to read = (progress : Progress) × (progress_of (facts_of old).progress number ≡ Some progress) × IsReadTo progress old.pairs piece to read

-- ---- committing a piece

-- it is one of its element's begun reorganisation
pub record IsPieceOf (facts : Facts) (read : Reading) (span : Span) : Type 0 where
  pub progress : Progress
  pub here : progress_of facts.progress read.element.number ≡ Some progress
  pub own : IsSpanOf progress read span

-- out of memory may come in place of Moved and of a conflict
abbrev pub piece_rank : PieceFault → ℕ
piece_rank piece_fault.MomentTooLarge = 1
piece_rank piece_fault.NotWanted = 2
piece_rank piece_fault.WrongElement = 3
piece_rank (piece_fault.Moved cursor) = 4
piece_rank piece_fault.Memory = 4
piece_rank (piece_fault.Conflict key) = 5

abbrev pub PieceCondition : State → ℕ → Reading → PieceFault → Type 0
PieceCondition old now read piece_fault.MomentTooLarge = max_moment < now
PieceCondition old now read piece_fault.NotWanted = progress_of (facts_of old).progress read.element.number ≡ None
PieceCondition old now read piece_fault.WrongElement = (span : Span) → ¬ (IsPieceOf (facts_of old) read span)
PieceCondition old now read (piece_fault.Moved cursor) = (span : Span) × IsPieceOf (facts_of old) read span × (cursor ≡ span.cursor) × (span.cursor ≢ read.key_range.low)
PieceCondition old now read (piece_fault.Conflict key) = IsConflict (expect_of read.key_range) old.pairs key
PieceCondition old now read piece_fault.Memory = ⊥

-- now is the moment that counts: the items that were read are written, and the cursor comes on; all that was read still holds
abbrev pub PieceAt : State → ℕ → Reading → Result PieceDone PieceFault → State → Type 0
PieceAt old now read (Ok done) new =
    IsClear (PieceCondition old now read)
    × Decides done.ended (read.key_range.high ≡ read.high)
    × Appends old now (Piece read.element.number read.piece read.key_range.high) done.receipt new
    × Holds (expect_of read.key_range) old.pairs
PieceAt old now read (Err fault) new = IsRefusal piece_rank (PieceCondition old now read) piece_fault.Memory fault × (new ≡ old)

-- a refusal gives the prepared piece back
abbrev pub PieceStep : State → ℕ → Reading → Result PieceDone (PieceFault × Reading) → State → Type 0
PieceStep old moment read (Ok done) new = PieceAt old (effective_moment old moment) read (Ok done) new
PieceStep old moment read (Err refusal) new = PieceAt old (effective_moment old moment) read (Err refusal.0) new × (refusal.1 ≡ read)

-- a piece that may be committed, as far as the store agrees
pub record IsCurrent (facts : Facts) (now : ℕ) (read : Reading) : Type 0 where
  pub moment : now ≤ max_moment
  pub span : Span
  pub own : IsPieceOf facts read span
  pub cursor : read.key_range.low ≡ span.cursor
