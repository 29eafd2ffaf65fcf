-- Cited by the contracts of cagzhomul_read_piece, cagzhomul_prepare_piece, cagzhomul_commit_piece and of what they call.
-- A piece of a begun reorganisation in a handle of its own: it is read, prepared and committed, and its handle is then closed.
use Rattle.std.specs.Prelude.{◌≡◌, ℕ, ◌⊎◌, ℤ, false, Option, Some, None, Result, Ok, Err}
use Rattle.handles.specs.BoundedWorld.{BoundedWorld}
use Rattle.handles.specs.Handles.{Fills}
use Rattle.handles.specs.PieceDone.{PieceDone}
use Rattle.handles.specs.Pieces.{ReadsPiece as ReadsItems, PreparesPiece as PreparesItems, CommitsPieceIn}
use Rattle.handles.specs.Reading.{Reading}
use Rattle.handles.specs.State.{State}
use Rattle.handles.specs.Statuses.{ok, closed, already_open}
use Rattle.handles.specs.declared.engine.Engine.{Engine}
use Rattle.handles.specs.declared.engine.Engine.TheVariants as engine
use Rattle.operator_calls.specs.declared.pieces.PieceOutcome.{PieceOutcome}

-- ---- read_piece

-- what was read of the world, or the status of its refusal
abbrev pub ReadsInto : State → ℕ → ℕ → ℕ → ℤ → Option Engine → Type 0
ReadsInto world element piece limit status work =
    ((read : Reading) × ReadsItems world element piece limit (Ok read) × Fills (engine.Piece read) status work)
    ⊎ (ReadsItems world element piece limit (Err status) × (work ≡ None))

abbrev pub ReadsOf : Option Engine → ℕ → ℕ → ℕ → ℤ → Option Engine → Type 0
ReadsOf None element piece limit status work = (status ≡ closed) × (work ≡ None)
ReadsOf (Some (engine.World bounded)) element piece limit status work = ReadsInto bounded.world element piece limit status work
ReadsOf (Some other) element piece limit status work = (status ≡ closed) × (work ≡ None)

-- into a closed handle
abbrev pub ReadsPiece : Option Engine → ℕ → ℕ → ℕ → Option Engine → ℤ → Option Engine → Type 0
ReadsPiece world element piece limit (Some e) status work = (status ≡ already_open) × (work ≡ Some e)
ReadsPiece world element piece limit None status work = ReadsOf world element piece limit status work

-- ---- prepare_piece

-- of the same that was read; a piece that is refused comes back
abbrev pub PreparesEngine : Engine → Result Engine (ℤ × Engine) → Type 0
PreparesEngine (engine.Piece read) (Ok made) = (prepared : Reading) × PreparesItems read (Ok prepared) × (made ≡ engine.PreparedPiece prepared)
PreparesEngine (engine.Piece read) (Err (status, left)) = (back : Reading) × PreparesItems read (Err (status, back)) × (left ≡ engine.Piece back)
PreparesEngine other answer = answer ≡ Err (closed, other)

-- it moves to the other handle, or stays where it is
abbrev pub PreparesTo : Engine → Result Engine (ℤ × Engine) → ℤ → Option Engine → Option Engine → Type 0
PreparesTo held (Ok made) status work prepared = PreparesEngine held (Ok made) × (status ≡ ok) × (work ≡ None) × (prepared ≡ Some made)
PreparesTo held (Err (reported, left)) status work prepared = PreparesEngine held (Err (reported, left)) × (status ≡ reported) × (work ≡ Some left) × (prepared ≡ None)

abbrev pub PreparesOf : Option Engine → ℤ → Option Engine → Option Engine → Type 0
PreparesOf None status work prepared = (status ≡ closed) × (work ≡ None) × (prepared ≡ None)
PreparesOf (Some held) status work prepared = (answer : Result Engine (ℤ × Engine)) × PreparesTo held answer status work prepared

-- into a closed handle
abbrev pub PreparesPiece : Option Engine → Option Engine → ℤ → Option Engine → Option Engine → Type 0
PreparesPiece old (Some e) status work prepared = (status ≡ already_open) × (work ≡ old) × (prepared ≡ Some e)
PreparesPiece old None status work prepared = PreparesOf old status work prepared

-- ---- commit_piece

-- a status alone
abbrev pub piece_alone : ℤ → PieceOutcome
piece_alone status = record { status = status; ended = false; place = 0 }

-- what a piece that was committed is reported as
abbrev pub pieced : PieceDone → PieceOutcome
pieced done = record { status = ok; ended = done.ended; place = done.receipt.place }

-- a piece that was committed is gone; one that is refused comes back as it was
abbrev pub CommitsEngine : BoundedWorld → ℕ → Engine → PieceOutcome → BoundedWorld → Option Engine → Type 0
CommitsEngine old moment (engine.PreparedPiece read) outcome new left =
    ((done : PieceDone) × CommitsPieceIn old moment read (Ok done) new × (outcome ≡ pieced done) × (left ≡ None))
    ⊎ ((status : ℤ) × (back : Reading) × CommitsPieceIn old moment read (Err (status, back)) new × (outcome ≡ piece_alone status) × (left ≡ Some (engine.PreparedPiece back)))
CommitsEngine old moment other outcome new left = (outcome ≡ piece_alone closed) × (new ≡ old) × (left ≡ Some other)

abbrev pub CommitsTo : BoundedWorld → ℕ → Option Engine → PieceOutcome → BoundedWorld → Option Engine → Type 0
CommitsTo old moment None outcome new left = (outcome ≡ piece_alone closed) × (new ≡ old) × (left ≡ None)
CommitsTo old moment (Some e) outcome new left = CommitsEngine old moment e outcome new left

-- in a world behind a handle, which stays open
abbrev pub CommitsPiece : Option Engine → ℕ → Option Engine → PieceOutcome → Option Engine → Option Engine → Type 0
CommitsPiece None moment prepared outcome new left = (outcome ≡ piece_alone closed) × (new ≡ None) × (left ≡ prepared)
CommitsPiece (Some (engine.World old)) moment prepared outcome new left =
    (world : BoundedWorld) × CommitsTo old moment prepared outcome world left × (new ≡ Some (engine.World world))
CommitsPiece (Some other) moment prepared outcome new left = (outcome ≡ piece_alone closed) × (new ≡ Some other) × (left ≡ prepared)
