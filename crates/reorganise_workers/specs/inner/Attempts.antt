-- Cited by private functions alone: unread_end, look, refused, commit_items, make_attempt.
-- What an attempt at a piece comes to, by what the lock answered. Only private functions cite this.
use Rattle.std.specs.Prelude.{◌≡◌, ℕ, ◌+◌, Option, Some, None}
use Rattle.reorganise.specs.declared.fault.ViewFault.TheVariants as view_fault
use Rattle.locked_store.specs.PieceFault.{PieceFault}
use Rattle.locked_store.specs.PieceFault.TheVariants.{MomentTooLarge, NotWanted, WrongElement, Moved, Conflict, Memory}
use Rattle.locked_store.specs.ReadFault.{ReadFault}
use Rattle.locked_store.specs.ReadFault.TheVariants as read_fault
use Rattle.locked_store.specs.State.{State}
use Rattle.locked_store.specs.declared.fault.SharedFault.{SharedFault}
use Rattle.locked_store.specs.declared.fault.SharedFault.TheVariants as shared
use Rattle.reorganise_workers.specs.Ends.{WasUnread}
use Rattle.reorganise_workers.specs.declared.end.PieceEnd.{PieceEnd}
use Rattle.reorganise_workers.specs.declared.end.PieceEnd.TheVariants as piece_end
use Rattle.reorganise_workers.specs.declared.job.Job.{Job}
use Rattle.reorganise_workers.specs.declared.attempt.Attempt.{Attempt}
use Rattle.reorganise_workers.specs.declared.attempt.Attempt.TheVariants as attempt

-- a core found the piece at its end
abbrev pub WasSpent : State → Job → ℕ → Type 0
WasSpent start job piece = WasUnread start job piece (read_fault.View view_fault.Spent)

-- how a piece ends that is not read; None if it was found at its end
abbrev pub unread_end : SharedFault ReadFault → Option PieceEnd
unread_end (shared.WentBack seen) = Some (piece_end.WentBack seen)
unread_end (shared.World read_fault.NotWanted) = Some (piece_end.Refused NotWanted)
unread_end (shared.World (read_fault.View view_fault.BadPiece)) = Some (piece_end.Refused NotWanted)
unread_end (shared.World (read_fault.View view_fault.Spent)) = None
unread_end (shared.World (read_fault.View view_fault.BadLimit)) = Some piece_end.Memory
unread_end (shared.World (read_fault.View view_fault.Memory)) = Some piece_end.Memory

-- what a refused commit comes to
abbrev pub attempt_of : SharedFault PieceFault → Attempt
attempt_of (shared.WentBack seen) = attempt.Ended (piece_end.WentBack seen)
attempt_of (shared.World MomentTooLarge) = attempt.Ended (piece_end.Refused MomentTooLarge)
attempt_of (shared.World NotWanted) = attempt.Ended (piece_end.Refused NotWanted)
attempt_of (shared.World WrongElement) = attempt.Ended (piece_end.Refused WrongElement)
attempt_of (shared.World (Moved cursor)) = attempt.Again
attempt_of (shared.World (Conflict key)) = attempt.Again
attempt_of (shared.World Memory) = attempt.Ended piece_end.Memory

-- how many failed tries an attempt is
abbrev pub failed_by : Attempt → ℕ
failed_by attempt.More = 0
failed_by attempt.Again = 1
failed_by attempt.Reread = 0
failed_by (attempt.Ended end) = 0
