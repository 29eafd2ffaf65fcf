-- Cited by the contracts of read_piece, prepare_piece, commit_piece and of what they call.
-- A piece of a begun reorganisation in a world: it is read, prepared and committed.
use Rattle.std.specs.Prelude.{◌≡◌, ℕ, ℤ, Result, Ok, Err}
use Rattle.reorganise.specs.declared.fault.ViewFault.{ViewFault}
use Rattle.reorganise.specs.declared.fault.ViewFault.TheVariants.{BadPiece, Spent, BadLimit, Memory}
use Rattle.reorganise.specs.declared.read.Reading.{Reading}
use Rattle.script_session.specs.State.{State}
use Rattle.script_session.specs.Piece.{ReadStep, PieceStep}
use Rattle.script_session.specs.PieceDone.{PieceDone}
use Rattle.script_session.specs.PieceFault.{PieceFault}
use Rattle.script_session.specs.PieceFault.TheVariants as piece_fault
use Rattle.script_session.specs.ReadFault.{ReadFault}
use Rattle.script_session.specs.ReadFault.TheVariants as read_fault
use Rattle.typed_calls.specs.Bounded.{Within}
use Rattle.typed_calls.specs.Statuses.{bad_count, bad_piece, conflict, moment_too_large, moved, not_wanted, out_of_memory, spent, too_far, wrong_element}
use Rattle.typed_calls.specs.declared.bounded.BoundedWorld.{BoundedWorld}

-- ---- read_piece

abbrev pub view_status : ViewFault → ℤ
view_status BadPiece = bad_piece
view_status Spent = spent
view_status BadLimit = bad_count
view_status Memory = out_of_memory

abbrev pub unread_status : ReadFault → ℤ
unread_status read_fault.NotWanted = not_wanted
unread_status (read_fault.View fault) = view_status fault

-- what `World::read_piece` reads, or the status of its refusal
abbrev pub ReadsPiece : State → ℕ → ℕ → ℕ → Result Reading ℤ → Type 0
ReadsPiece world element piece limit (Ok read) = ReadStep world element piece limit (Ok read)
ReadsPiece world element piece limit (Err status) = (fault : ReadFault) × ReadStep world element piece limit (Err fault) × (status ≡ unread_status fault)

-- ---- prepare_piece

-- of the same that was read; a piece that is refused comes back
abbrev pub PreparesPiece : Reading → Result Reading (ℤ × Reading) → Type 0
PreparesPiece read (Ok prepared) = prepared ≡ read
PreparesPiece read (Err refusal) = refusal ≡ (out_of_memory, read)

-- ---- commit_piece

abbrev pub piece_status : PieceFault → ℤ
piece_status piece_fault.MomentTooLarge = moment_too_large
piece_status piece_fault.NotWanted = not_wanted
piece_status piece_fault.WrongElement = wrong_element
piece_status (piece_fault.Moved cursor) = moved
piece_status (piece_fault.Conflict key) = conflict
piece_status piece_fault.Memory = out_of_memory

-- the step of `World::commit_piece`, or the status of its refusal with the piece
abbrev pub CommitsPiece : State → ℕ → Reading → Result PieceDone (ℤ × Reading) → State → Type 0
CommitsPiece old moment read (Ok done) new = PieceStep old moment read (Ok done) new
CommitsPiece old moment read (Err refusal) new =
    (fault : PieceFault) × PieceStep old moment read (Err (fault, read)) new × (refusal ≡ (piece_status fault, read))

abbrev pub CommitsPieceIn : BoundedWorld → ℕ → Reading → Result PieceDone (ℤ × Reading) → BoundedWorld → Type 0
CommitsPieceIn old moment read answer new = Within (Err (too_far, read)) (λ world a world'. CommitsPiece world moment read a world') old moment answer new
