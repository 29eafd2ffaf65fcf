-- Cited by the definitions of Answer.
-- A piece of a reorganisation that a script reads and prepares, and what is printed of it.
use Rattle.std.specs.Prelude.{ℕ, List, Ok, Err, codes}
use Rattle.reorganise.specs.declared.read.Reading.{Reading}
use Rattle.script_replies.specs.Piece.{ReadStep}
use Rattle.script_replies.specs.State.{State}
use Rattle.script_replies.specs.Pieces.{read_name}
use Rattle.script_session.specs.declared.pieces.PieceRead.{PieceRead}
use Rattle.script_session.specs.declared.pieces.PieceRead.TheVariants.{Ready, Unread, OutOfMemory}
use Rattle.script_replies.specs.Texts.{refused}

-- what reading and preparing a piece may come to: memory may be short where the piece was read
abbrev pub ReadsPiece : State → ℕ → ℕ → ℕ → PieceRead → Type 0
ReadsPiece world element piece limit (Ready read) = ReadStep world element piece limit (Ok read)
ReadsPiece world element piece limit (Unread fault) = ReadStep world element piece limit (Err fault)
ReadsPiece world element piece limit OutOfMemory = (read : Reading) × ReadStep world element piece limit (Ok read)

-- ---- its reply

-- `ok prepared`
abbrev pub read_text : PieceRead → List ℕ
read_text (Ready read) = codes "ok prepared"
read_text (Unread fault) = refused (read_name fault)
read_text OutOfMemory = refused (codes "Memory")
