-- A piece that is committed, over the fields of a World.
use Rattle.std.proofs.Common.{◌≡◌, ℕ, ◌<◌, ◌≤◌, Option, Some, None, Ok, Err, refl, sym, ap, subst, ◌∙◌, inl, inr, Vec, Global, arith}
use Rattle.std.specs.Prelude.{◌≢◌, Bool, slice_get}
use Rattle.std.specs.Bool.{Decides}
use mathlib.Core.List.{map as each}
use Rattle.collections.specs.Refusal.{IsClear, IsRefusal}
use Rattle.lease.specs.Timeline.{max_moment}
use Rattle.row_map.specs.Expect.{Holds}
use Rattle.row_map.specs.Rows.{Bytes, Pairs}
use Rattle.row_map.specs.Writes.{laid}
use Rattle.txn_store.specs.declared.fault.SetFault.{SetFault}
use Rattle.txn_store.specs.declared.fault.SetFault.TheVariants as reported
use Rattle.txn_store.specs.TestAndSet.{Sets}
use Rattle.schema_version.specs.declared.element.ElementDef.{ElementDef}
use Rattle.reorganise.specs.declared.work.Span.{Span}
use Rattle.reorganise.specs.declared.work.Progress.{Progress}
use Rattle.reorganise.specs.declared.read.Reading.{Reading}
use Rattle.reorganise.specs.Pieces.{IsReading}
use Rattle.reorganise.specs.Batches.{expect_of, batch_for}
use Rattle.replay.specs.declared.entry.Entry.{Entry}
use Rattle.replay.specs.declared.entry.What.TheVariants.{Piece}
use Rattle.replay.specs.Replay.{Facts, after, pairs_by, moved_to}
use Rattle.replay.specs.Kept.{IsKept}
use Rattle.replay.specs.Laws.{IsNextOf, PiecesKeep, piece_entry}
use Rattle.world.specs.declared.piece.PieceFault.{PieceFault}
use Rattle.world.specs.declared.piece.PieceFault.TheVariants as piece_fault
use Rattle.world.specs.declared.entry.Receipt.{Receipt}
use Rattle.world.specs.declared.log.Log.{Log}
use Rattle.world.specs.declared.world.World.TheInside.{Inside}
use Rattle.world.specs.Inside.{state_of, IsHeld}
use Rattle.world.specs.Piece.{IsPieceOf, IsCurrent, piece_rank, PieceCondition, PieceAt}
use Rattle.world.specs.Whole.{whole}
use Rattle.world.specs.State.{State, facts_of, effect}
use Rattle.world.specs.Faults.{piece_reported}
use Rattle.world.proofs.CallSteps.{with_store, same_state}
use Rattle.world.proofs.Invariant.{IsLogged, state_logged, appended, held_after}

none_some : {A B : Type 0} {v : A} → None ≡ Some v → B
none_some e = absurd cc

some_one : {A : Type 0} {v w : A} → Some v ≡ (let o : Option A = Some w in o) → v ≡ w
some_one e = cc

-- ---- the refusals

-- a piece has one place in its element's reorganisation
one_span : (facts : Facts) (read : Reading) (s t : Span) → IsPieceOf facts read s → IsPieceOf facts read t → s ≡ t
one_span facts read s t a b =
    let same : a.progress ≡ b.progress = some_one (sym a.here ∙ b.here) in
    some_one (sym a.own.piece ∙ ap (λ (p : Progress). slice_get p.pieces read.piece) same ∙ b.own.piece)

pub found_lower : (s : State) (now : ℕ) (read : Reading) (span : Span) → now ≤ max_moment → IsPieceOf (facts_of s) read span → (other : PieceFault) → piece_rank other < 4 → ¬ (PieceCondition s now read other)
found_lower s now read span within own piece_fault.MomentTooLarge lt = λ c. absurd (omega (arith, within, c))
found_lower s now read span within own piece_fault.NotWanted lt = λ c. none_some (sym c ∙ own.here)
found_lower s now read span within own piece_fault.WrongElement lt = λ c. c span own
found_lower s now read span within own (piece_fault.Moved cursor) lt = absurd (omega (arith, lt))
found_lower s now read span within own (piece_fault.Conflict key) lt = absurd (omega (arith, lt))
found_lower s now read span within own piece_fault.Memory lt = λ c. c

pub moved_on : (s : State) (now : ℕ) (read : Reading) (span : Span) (cursor : Bytes) → now ≤ max_moment → IsPieceOf (facts_of s) read span → cursor ≡ span.cursor → span.cursor ≢ read.key_range.low
    → IsRefusal piece_rank (PieceCondition s now read) piece_fault.Memory (piece_fault.Moved cursor)
moved_on s now read span cursor within own is other = (inr (span, own, is, other), found_lower s now read span within own)

pub short_of : (s : State) (now : ℕ) (read : Reading) (span : Span) (reported_as : PieceFault) → now ≤ max_moment → IsPieceOf (facts_of s) read span → reported_as ≡ piece_fault.Memory → IsRefusal piece_rank (PieceCondition s now read) piece_fault.Memory reported_as
short_of s now read span reported_as within own is = subst (IsRefusal piece_rank (PieceCondition s now read) piece_fault.Memory) (sym is) (inl refl, found_lower s now read span within own)

-- a current piece has not moved
current_lower : (s : State) (now : ℕ) (read : Reading) → IsCurrent (facts_of s) now read → (other : PieceFault) → piece_rank other < 5 → ¬ (PieceCondition s now read other)
current_lower s now read current piece_fault.MomentTooLarge lt = found_lower s now read current.span current.moment current.own piece_fault.MomentTooLarge (omega arith)
current_lower s now read current piece_fault.NotWanted lt = found_lower s now read current.span current.moment current.own piece_fault.NotWanted (omega arith)
current_lower s now read current piece_fault.WrongElement lt = found_lower s now read current.span current.moment current.own piece_fault.WrongElement (omega arith)
current_lower s now read current (piece_fault.Moved cursor) lt = λ c. c.3 (ap (λ (p : Span). p.cursor) (one_span (facts_of s) read c.0 current.span c.1 current.own) ∙ sym current.cursor)
current_lower s now read current (piece_fault.Conflict key) lt = λ c. absurd (omega (arith, lt))
current_lower s now read current piece_fault.Memory lt = λ c. c

piece_clear : (s : State) (now : ℕ) (read : Reading) → IsCurrent (facts_of s) now read → Holds (expect_of read.key_range) s.pairs → IsClear (PieceCondition s now read)
piece_clear s now read current holds piece_fault.MomentTooLarge = current_lower s now read current piece_fault.MomentTooLarge (omega arith)
piece_clear s now read current holds piece_fault.NotWanted = current_lower s now read current piece_fault.NotWanted (omega arith)
piece_clear s now read current holds piece_fault.WrongElement = current_lower s now read current piece_fault.WrongElement (omega arith)
piece_clear s now read current holds (piece_fault.Moved cursor) = current_lower s now read current (piece_fault.Moved cursor) (omega arith)
piece_clear s now read current holds (piece_fault.Conflict key) = λ c. holds key c.0
piece_clear s now read current holds piece_fault.Memory = λ c. c

pub piece_short : (s g : State) (now : ℕ) (read : Reading) (reported_as : PieceFault) → IsCurrent (facts_of s) now read → g ≡ s → reported_as ≡ piece_fault.Memory → PieceAt s now read (Err reported_as) g
piece_short s g now read reported_as current same is = (short_of s now read current.span reported_as current.moment current.own is, same)

failed : (f : Inside) (now : ℕ) (read : Reading) (fault : SetFault) (store : Pairs) (log : Log) → IsCurrent (facts_of (state_of f)) now read → Sets (expect_of read.key_range) (batch_for read) f.store (Err fault) store → whole log ≡ whole f.log
    → PieceAt (state_of f) now read (Err (piece_reported fault)) (state_of (with_store f store log))
failed f now read (reported.Conflict key) store log current set items = ((inr set.0, current_lower (state_of f) now read current), same_state f store log set.1 items)
failed f now read reported.Memory store log current set items = ((inl refl, λ other lt. current_lower (state_of f) now read current other (omega (arith, lt))), same_state f store log set items)

pub piece_failed : (f : Inside) (s : State) (now : ℕ) (read : Reading) (fault : SetFault) (reported_as : PieceFault) (store : Pairs) (log : Log) → state_of f ≡ s → IsCurrent (facts_of s) now read → Sets (expect_of read.key_range) (batch_for read) f.store (Err fault) store
    → whole log ≡ whole f.log → reported_as ≡ piece_reported fault → PieceAt s now read (Err reported_as) (state_of (with_store f store log))
piece_failed f s now read fault reported_as store log view current set items is =
    subst (λ (r : PieceFault). PieceAt s now read (Err r) (state_of (with_store f store log))) (sym is)
    (subst (λ (x : State). PieceAt x now read (Err (piece_reported fault)) (state_of (with_store f store log))) view (failed f now read fault store log (subst (λ (x : State). IsCurrent (facts_of x) now read) (sym view) current) set items))

-- ---- a piece that is written

-- what the call may count on
pub record IsReady (f : Inside) (s : State) (now : ℕ) (read : Reading) (store : Pairs) : Type 0 where
  pub held : IsHeld f
  pub view : state_of f ≡ s
  pub later : (facts_of s).moment ≤ now
  pub current : IsCurrent (facts_of s) now read
  pub made : IsReading read
  pub set : Holds (expect_of read.key_range) f.store × (store ≡ laid (batch_for read) f.store)

abbrev pub number_of : Reading → ℕ
number_of read = read.element.number

-- it is the next piece, in the sense of the law
next : (f : Inside) (s : State) (now : ℕ) (read : Reading) (store : Pairs) → IsReady f s now read store → IsNextOf (facts_of (state_of f)) (number_of read) read
next f s now read store r =
    let current : IsCurrent (facts_of (state_of f)) now read = subst (λ (x : State). IsCurrent (facts_of x) now read) (sym r.view) r.current in
    record {
      progress = current.own.progress;
      here = current.own.here;
      element = current.own.own.element;
      work = current.own.own.work;
      span = current.span;
      piece = current.own.own.piece;
      high = current.own.own.high;
      cursor = current.cursor;
      read_so = r.made;
      holds = subst (Holds (expect_of read.key_range)) r.held.follow.pairs r.set.0;
    }

abbrev pub entry_of_parts : ℕ → ElementDef → ℕ → Bytes → Entry
entry_of_parts now element piece cursor = record { moment = now; what = Piece element.number piece cursor }

abbrev pub entry_of : ℕ → Reading → Entry
entry_of now read = piece_entry now (number_of read) read

written : (f : Inside) (s : State) (now : ℕ) (read : Reading) (store : Pairs) → PiecesKeep → IsReady f s now read store → (store ≡ (after (facts_of (state_of f)) (entry_of now read)).pairs) × IsKept (after (facts_of (state_of f)) (entry_of now read))
written f s now read store law r =
    let kept = law (facts_of (state_of f)) now (number_of read) read (subst (λ (x : State). (facts_of x).moment ≤ now) (sym r.view) r.later) (next f s now read store r) r.held.kept in
    (r.set.1 ∙ ap (laid (batch_for read)) r.held.follow.pairs ∙ kept.0, kept.1)

-- the fields after a piece
abbrev pub after_piece : Inside → Pairs → Vec Progress Global → Log → Inside
after_piece f store begun log = record f { store = store; begun = begun; log = log }

piece_state : (f : Inside) (now : ℕ) (read : Reading) (store : Pairs) (begun : Vec Progress Global) (log : Log) (receipt : Receipt) → IsHeld f → store ≡ (after (facts_of (state_of f)) (entry_of now read)).pairs → IsLogged f.log (entry_of now read) receipt log
    → state_of (after_piece f store begun log) ≡ effect (state_of f) (entry_of now read)
piece_state f now read store begun log receipt h is e =
    state_logged f (after_piece f store begun log) (entry_of now read) receipt e (is ∙ ap (λ (ps : Pairs). pairs_by (facts_of (state_of f)) ps (entry_of now read).what) (sym h.follow.pairs))

pub piece_held : (f : Inside) (s : State) (now : ℕ) (read : Reading) (store : Pairs) (begun : Vec Progress Global) (log : Log) (receipt : Receipt) → PiecesKeep → IsReady f s now read store
    → begun.items ≡ each (moved_to (number_of read) read.piece read.key_range.high) f.begun.items → IsLogged f.log (entry_of now read) receipt log → IsHeld (after_piece f store begun log)
piece_held f s now read store begun log receipt law r moved e =
    let w = r.held.follow in
    let wrote = written f s now read store law r in
    held_after f (after_piece f store begun log) (entry_of now read) (piece_state f now read store begun log receipt r.held wrote.0 e)
    (record { moment = e.moment; line = w.line; newest = w.newest; before = w.before; begun = moved ∙ ap (each (moved_to (number_of read) read.piece read.key_range.high)) w.begun; pairs = wrote.0 }) wrote.1

pub piece_done : (f : Inside) (s : State) (now : ℕ) (ended : Bool) (read : Reading) (store : Pairs) (begun : Vec Progress Global) (log : Log) (receipt : Receipt) → PiecesKeep → IsReady f s now read store → IsLogged f.log (entry_of now read) receipt log
    → Decides ended (read.key_range.high ≡ read.high) → PieceAt s now read (Ok (record { receipt = receipt; ended = ended })) (state_of (after_piece f store begun log))
piece_done f s now ended read store begun log receipt law r e ends =
    let wrote = written f s now read store law r in
    let current : IsCurrent (facts_of (state_of f)) now read = subst (λ (x : State). IsCurrent (facts_of x) now read) (sym r.view) r.current in
    subst (λ (x : State). PieceAt x now read (Ok (record { receipt = receipt; ended = ended })) (state_of (after_piece f store begun log))) r.view (
      piece_clear (state_of f) now read current r.set.0,
      ends,
      appended f (after_piece f store begun log) now (entry_of now read).what receipt e (piece_state f now read store begun log receipt r.held wrote.0 e)
          (subst (λ (x : State). (facts_of x).moment ≤ now) (sym r.view) r.later) (record { read = read; same = refl; next = next f s now read store r }),
      r.set.0,
    )
