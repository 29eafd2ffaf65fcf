-- The steps of calls on pieces that a handle holds.
use Rattle.std.proofs.Common.{◌≡◌, ℕ, ℤ, Option, Some, None, Ok, Err, inl, inr, refl, ap, subst, ◌∙◌}
use Rattle.handles.specs.BoundedWorld.{BoundedWorld}
use Rattle.handles.specs.Handles.{Fills}
use Rattle.handles.specs.Pieces.{ReadsPiece as ReadsItems, PreparesPiece as PreparesItems, CommitsPieceIn}
use Rattle.handles.specs.Reading.{Reading}
use Rattle.handles.specs.State.{State}
use Rattle.handles.specs.Statuses.{ok}
use Rattle.handles.specs.declared.engine.Engine.{Engine}
use Rattle.handles.specs.declared.engine.Engine.TheVariants as engine
use Rattle.operator_calls.specs.declared.pieces.PieceOutcome.{PieceOutcome}
use Rattle.operator_calls.specs.Pieces.{ReadsInto, ReadsPiece, PreparesEngine, PreparesPiece, CommitsEngine, piece_alone}

pub piece_filled :
    (world : State) (element piece limit : ℕ) (read : Reading) (given status : ℤ) (new : Option Engine)
    → given ≡ status → ReadsItems world element piece limit (Ok read) → Fills (engine.Piece read) status new → ReadsInto world element piece limit given new
piece_filled world element piece limit read given status new same reads fills = rw same (inl (read, reads, fills))

pub piece_read :
    (world work new : Option Engine) (element piece limit : ℕ) (e : Engine) (bounded : BoundedWorld) (given status : ℤ)
    → work ≡ None → Some e ≡ world → e ≡ engine.World bounded → given ≡ status → ReadsInto bounded.world element piece limit status new
    → ReadsPiece world element piece limit work given new
piece_read world work new element piece limit e bounded given status shut here is same reads =
    rw shut (subst (λ (o : Option Engine). ReadsPiece o element piece limit None given new) here (rw is (rw same reads)))

pub piece_prepared :
    (e : Engine) (read prepared : Reading) → e ≡ engine.Piece read → PreparesItems read (Ok prepared) → PreparesEngine e (Ok (engine.PreparedPiece prepared))
piece_prepared e read prepared is prepares = rw is (prepared, prepares, refl)

pub preparation_refused :
    (e : Engine) (read back : Reading) (status given : ℤ)
    → e ≡ engine.Piece read → given ≡ status → PreparesItems read (Err (status, back)) → PreparesEngine e (Err (given, engine.Piece back))
preparation_refused e read back status given is same prepares = rw is (rw same (back, prepares, refl))

-- a piece that was prepared moves to the other handle
pub piece_moves :
    (old into work prepared : Option Engine) (e held made filled : Engine) (given : ℤ)
    → into ≡ None → Some e ≡ old → held ≡ e → given ≡ ok → work ≡ None → PreparesEngine held (Ok made) → filled ≡ made → prepared ≡ Some filled
    → PreparesPiece old into given work prepared
piece_moves old into work prepared e held made filled given shut here same done gone prepares back last =
    rw shut (subst (λ (o : Option Engine). PreparesPiece o None given work prepared) here
    (Ok made, (subst (λ (h : Engine). PreparesEngine h (Ok made)) same prepares, done, gone, last ∙ ap (λ (x : Engine). Some x) back)))

-- one that is refused comes back
pub piece_stays :
    (old into work prepared : Option Engine) (e held left filled : Engine) (given status : ℤ)
    → into ≡ None → Some e ≡ old → held ≡ e → given ≡ status → prepared ≡ None → PreparesEngine held (Err (status, left)) → filled ≡ left → work ≡ Some filled
    → PreparesPiece old into given work prepared
piece_stays old into work prepared e held left filled given status shut here same reported closed prepares back last =
    rw shut (subst (λ (o : Option Engine). PreparesPiece o None given work prepared) here
    (Err (status, left), (subst (λ (h : Engine). PreparesEngine h (Err (status, left))) same prepares, reported, last ∙ ap (λ (x : Engine). Some x) back, closed)))

pub commit_refused :
    (old new : BoundedWorld) (moment : ℕ) (e : Engine) (read : Reading) (refusal : ℤ × Reading) (status : ℤ) (outcome : PieceOutcome)
    → e ≡ engine.PreparedPiece read → outcome ≡ piece_alone status → status ≡ refusal.0 → CommitsPieceIn old moment read (Err refusal) new
    → CommitsEngine old moment e outcome new (Some (engine.PreparedPiece refusal.1))
commit_refused old new moment e read refusal status outcome is same whole commits =
    rw is (inr (refusal.0, refusal.1, commits, same ∙ ap (λ (s : ℤ). piece_alone s) whole, refl))
