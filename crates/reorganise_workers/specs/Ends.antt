-- Cited by the contracts of PieceWorker.
-- How a piece ends.
use Rattle.std.specs.Prelude.{◌≡◌, ◌≢◌, ℕ, ◌<◌, ◌≤◌, ◌⊎◌, List, length, All, Option, Some, None, Ok, Err, Bool, true, false}
use Rattle.row_map.specs.Rows.{Bytes}
use Rattle.schema_version.specs.declared.element.Work.{Work}
use Rattle.reorganise.specs.declared.read.Reading.{Reading}
use Rattle.replay.specs.declared.entry.What.TheVariants.{Piece}
use Rattle.locked_store.specs.Piece.{PieceStep, ReadStep, piece_standing_at}
use Rattle.locked_store.specs.State.{State, facts_of}
use Rattle.locked_store.specs.PieceDone.{PieceDone}
use Rattle.locked_store.specs.Receipt.{Receipt}
use Rattle.locked_store.specs.PieceFault.{PieceFault}
use Rattle.locked_store.specs.PieceFault.TheVariants.{MomentTooLarge, NotWanted, WrongElement, Moved, Conflict, Memory}
use Rattle.locked_store.specs.ReadFault.{ReadFault}
use Rattle.locked_store.specs.ReadFault.TheVariants as read_fault
use Rattle.reorganise.specs.declared.fault.ViewFault.TheVariants as view_fault
use Rattle.locked_store.specs.Cores.{IsCoreSince, WasLength}
use Rattle.locked_store.specs.Receipts.{IsLogged}
use Rattle.reorganise_workers.specs.declared.end.PieceEnd.{PieceEnd}
use Rattle.reorganise_workers.specs.declared.end.PieceEnd.TheVariants as piece_end
use Rattle.reorganise_workers.specs.declared.job.Job.{Job}
use Rattle.reorganise_workers.specs.declared.attempt.Attempt.{Attempt}
use Rattle.reorganise_workers.specs.declared.attempt.Attempt.TheVariants as attempt

-- ---- what the lock answered. Each core is one of the shared world, with at least the entries that the workers' handles had seen

-- a core refused to read the piece, for this reason
pub record WasUnread (start : State) (job : Job) (piece : ℕ) (fault : ReadFault) : Type 0 where
  pub core : State
  pub is_core : IsCoreSince start job.front core
  pub unread : ReadStep core job.element piece job.limit (Err fault)

-- the piece's next items were read in a core, at most as many as the limit
pub record WasRead (start : State) (job : Job) (piece : ℕ) (read : Reading) : Type 0 where
  pub core : State
  pub is_core : IsCoreSince start job.front core
  pub read_is : ReadStep core job.element piece job.limit (Ok read)

-- how the piece stood in a core
pub record Stood (start : State) (job : Job) (piece : ℕ) (standing : Option (Work × Bool)) : Type 0 where
  pub core : State
  pub is_core : IsCoreSince start job.front core
  pub standing_is : piece_standing_at (facts_of core) job.element piece ≡ standing

-- what was read of the piece, for the work that the call began with, was committed in a core
pub record WasCommitted (start : State) (job : Job) (piece : ℕ) (done : PieceDone) : Type 0 where
  pub read : Reading
  pub was_read : WasRead start job piece read
  pub own_kind : read.kind ≡ job.kind
  pub core : State
  pub is_core : IsCoreSince start job.front core
  pub left : State
  pub committed : PieceStep core job.moment read (Ok done) left

-- a core refused to commit it, for this reason
pub record WasUncommitted (start : State) (job : Job) (piece : ℕ) (fault : PieceFault) : Type 0 where
  pub read : Reading
  pub was_read : WasRead start job piece read
  pub own_kind : read.kind ≡ job.kind
  pub core : State
  pub is_core : IsCoreSince start job.front core
  pub back : Reading
  pub left : State
  pub refused : PieceStep core job.moment read (Err (fault, back)) left

-- a front that a handle had: one that a handle came with is at most `most`; any later one is a length that the log had
abbrev pub HasSeen : State → ℕ → ℕ → Type 0
HasSeen start most front = (front ≤ most) ⊎ WasLength start front

-- the log had this length, and a handle had seen more
abbrev pub WasShorter : State → ℕ → ℕ → Type 0
WasShorter start most seen = WasLength start seen × ((front : ℕ) × HasSeen start most front × (seen < front))

-- ---- receipts

-- the receipt is of a piece of the job's element; its entry came after all that the handles had seen
pub record IsPieceReceipt (start : State) (job : Job) (receipt : Receipt) : Type 0 where
  pub piece : ℕ
  pub cursor : Bytes
  pub what : receipt.entry.what ≡ Piece job.element piece cursor
  pub logged : IsLogged start job.front receipt

-- ---- ends

-- a refusal after which the piece is read again
abbrev pub IsRetried : PieceFault → Type 0
IsRetried MomentTooLarge = ⊥
IsRetried NotWanted = ⊥
IsRetried WrongElement = ⊥
IsRetried (Moved cursor) = Unit {0}
IsRetried (Conflict key) = Unit {0}
IsRetried Memory = ⊥

-- a refusal after which no further try would help
abbrev pub IsFinal : PieceFault → Type 0
IsFinal MomentTooLarge = Unit {0}
IsFinal NotWanted = Unit {0}
IsFinal WrongElement = Unit {0}
IsFinal (Moved cursor) = ⊥
IsFinal (Conflict key) = ⊥
IsFinal Memory = ⊥

-- a try that ended in a conflict, or found that the piece had moved
abbrev pub IsFailedTry : State → Job → ℕ → PieceFault → Type 0
IsFailedTry start job piece fault = IsRetried fault × WasUncommitted start job piece fault

-- so many tries failed
abbrev pub FailedSoOften : State → Job → ℕ → ℕ → Type 0
FailedSoOften start job piece times = (faults : List PieceFault) × (length faults ≡ times) × All (IsFailedTry start job piece) faults

-- its last items were committed
abbrev pub WasBroughtToItsEnd : State → Job → ℕ → Type 0
WasBroughtToItsEnd start job piece = (done : PieceDone) × WasCommitted start job piece done × (done.ended ≡ true)

-- the reorganisation was over, or had no such piece
abbrev pub WasNotWanted : State → Job → ℕ → Type 0
WasNotWanted start job piece =
    WasUnread start job piece read_fault.NotWanted ⊎ (WasUnread start job piece (read_fault.View view_fault.BadPiece) ⊎ Stood start job piece None)

-- the element's reorganisation was of another kind than the one that the call began with
abbrev pub WasOfAnotherKind : State → Job → ℕ → Type 0
WasOfAnotherKind start job piece =
    ((read : Reading) × WasRead start job piece read × (read.kind ≢ job.kind))
    ⊎ ((kind : Work) × (ended : Bool) × Stood start job piece (Some (kind, ended)) × (kind ≢ job.kind))

-- Finished: the piece was found at its end, or was brought there, by the work that the call began with. Busy: as many tries failed as were
-- allowed. A refusal is that of a read, of a look or of a commit. WentBack: a handle had seen more
abbrev pub IsEndOf : State → Job → ℕ → PieceEnd → Type 0
IsEndOf start job piece piece_end.Finished = Stood start job piece (Some (job.kind, true)) ⊎ WasBroughtToItsEnd start job piece
IsEndOf start job piece (piece_end.Busy tries) = (tries ≡ job.tries) × FailedSoOften start job piece tries
IsEndOf start job piece (piece_end.Refused fault) =
    ((fault ≡ NotWanted) × WasNotWanted start job piece)
    ⊎ (((fault ≡ WrongElement) × WasOfAnotherKind start job piece)
    ⊎ (IsFinal fault × WasUncommitted start job piece fault))
IsEndOf start job piece piece_end.Held = Unit {0}
IsEndOf start job piece (piece_end.WentBack seen) = WasShorter start job.most seen
IsEndOf start job piece piece_end.Memory = Unit {0}

-- how many failed tries an end tells of
abbrev pub tries_of : PieceEnd → ℕ
tries_of piece_end.Finished = 0
tries_of (piece_end.Busy tries) = tries
tries_of (piece_end.Refused fault) = 0
tries_of piece_end.Held = 0
tries_of (piece_end.WentBack seen) = 0
tries_of piece_end.Memory = 0

-- how a single attempt may end a piece: Busy takes all tries
abbrev pub IsEndOfOne : State → Job → ℕ → PieceEnd → Type 0
IsEndOfOne start job piece piece_end.Finished = IsEndOf start job piece piece_end.Finished
IsEndOfOne start job piece (piece_end.Busy tries) = ⊥
IsEndOfOne start job piece (piece_end.Refused fault) = IsEndOf start job piece (piece_end.Refused fault)
IsEndOfOne start job piece piece_end.Held = IsEndOf start job piece piece_end.Held
IsEndOfOne start job piece (piece_end.WentBack seen) = IsEndOf start job piece (piece_end.WentBack seen)
IsEndOfOne start job piece piece_end.Memory = IsEndOf start job piece piece_end.Memory

-- an attempt committed some items and left more; or failed; or found the piece at its end and then no longer there; or ended the piece
abbrev pub IsAttempt : State → Job → ℕ → Attempt → Type 0
IsAttempt start job piece attempt.More = (done : PieceDone) × WasCommitted start job piece done × (done.ended ≡ false)
IsAttempt start job piece attempt.Again = (fault : PieceFault) × IsFailedTry start job piece fault
IsAttempt start job piece attempt.Reread = WasUnread start job piece (read_fault.View view_fault.Spent)
IsAttempt start job piece (attempt.Ended end) = IsEndOfOne start job piece end
