-- Cited by the contracts of unread_line, pieced_line, unpieced_line.
-- What a script prints of a piece of a reorganisation.
use Rattle.std.specs.Prelude.{ℕ, List, ◌++◌, cond, codes}
use Rattle.std.specs.Fmt.{decimal}
use Rattle.script_grammar.specs.Print.{hex}
use Rattle.reorganise.specs.declared.fault.ViewFault.{ViewFault}
use Rattle.reorganise.specs.declared.fault.ViewFault.TheVariants as view_fault
use Rattle.piece_work.specs.PieceDone.{PieceDone}
use Rattle.piece_work.specs.PieceFault.{PieceFault}
use Rattle.piece_work.specs.PieceFault.TheVariants as piece_fault
use Rattle.piece_work.specs.ReadFault.{ReadFault}
use Rattle.piece_work.specs.ReadFault.TheVariants as read_fault

abbrev pub view_name : ViewFault → List ℕ
view_name view_fault.BadPiece = codes "BadPiece"
view_name view_fault.Spent = codes "Spent"
view_name view_fault.BadLimit = codes "BadLimit"
view_name view_fault.Memory = codes "Memory"

-- why a piece can't be read is reported by its own name
abbrev pub read_name : ReadFault → List ℕ
read_name read_fault.NotWanted = codes "NotWanted"
read_name (read_fault.View fault) = view_name fault

abbrev pub piece_name : PieceFault → List ℕ
piece_name piece_fault.MomentTooLarge = codes "MomentTooLarge"
piece_name piece_fault.NotWanted = codes "NotWanted"
piece_name piece_fault.WrongElement = codes "WrongElement"
piece_name (piece_fault.Moved cursor) = codes "Moved " ++ hex cursor
piece_name (piece_fault.Conflict key) = codes "Conflict " ++ hex key
piece_name piece_fault.Memory = codes "Memory"

-- `ok piece PLACE done` where the piece has come to its end, else `ok piece PLACE more`
abbrev pub piece_text : PieceDone → List ℕ
piece_text done = codes "ok piece " ++ decimal done.receipt.place ++ cond done.ended (codes " done") (codes " more")
