-- A piece repeated.
use Rattle.std.proofs.Common.{◌≡◌, ℕ, ◌≤◌, List, [], ◌∷◌, Bool, true, false, cond, Some, None, Ok, Err, refl, sym, ap, subst, ◌∙◌, inl, inr, eqb-true, slice_get}
use Rattle.std.specs.Prelude.{IsTrue}
use Rattle.std.specs.FinMap as map
use Rattle.row_map.specs.Ranges.{is_within}
use Rattle.row_map.specs.Rows.{Bytes}
use Rattle.reorganise.specs.declared.work.Span.{Span}
use Rattle.reorganise.specs.declared.work.Progress.{Progress}
use Rattle.reorganise.specs.declared.read.Reading.{Reading}
use Rattle.reorganise.specs.Pieces.{part, view_to, IsReading, ComesTo}
use Rattle.reorganise.specs.ScanRanges.{scan_range_of}
use Rattle.reorganise.proofs.Order.{get-part}
use Rattle.replay.specs.declared.entry.What.{What}
use Rattle.replay.specs.declared.entry.What.TheVariants.{Piece}
use Rattle.replay.specs.Replay.{progress_of, is_of}
use Rattle.world.specs.declared.entry.PieceDone.{PieceDone}
use Rattle.world.specs.declared.piece.PieceFault.{PieceFault}
use Rattle.world.specs.declared.piece.PieceFault.TheVariants as piece_fault
use Rattle.world.specs.Calls.{Appends}
use Rattle.world.specs.Piece.{PieceCondition, PieceStep, PieceAt, IsPieceOf, CanComeTo, IsReadAsFar}
use Rattle.world.specs.State.{State, facts_of}
use Rattle.replica.specs.declared.fault.RepeatFault.{RepeatFault}
use Rattle.replica.specs.declared.fault.RepeatFault.TheVariants.{NotNext, Memory}
use Rattle.replica.specs.Next.{IsNextPiece, RepeatAt}
use Rattle.replica.proofs.Moments.{effective_now}
use Rattle.replica.proofs.Options.{some_one, none_some}

false_true : {A : Type 0} → false ≡ true → A
false_true e = absurd cc

-- the begun reorganisation of an element is one of it
number_by : (p progress : Progress) (begun : List Progress) (number : ℕ) (b : Bool) → is_of number p ≡ b → (progress_of begun number ≡ Some progress → progress.element.number ≡ number) → progress_of (p ∷ begun) number ≡ Some progress
    → progress.element.number ≡ number
number_by p progress begun number true e rest at = ap (λ (q : Progress). q.element.number) (sym (some_one (ap (λ (b : Bool). cond b (Some p) (progress_of begun number)) (sym e) ∙ at))) ∙ eqb-true p.element.number number e
number_by p progress begun number false e rest at = rest (ap (λ (b : Bool). cond b (Some p) (progress_of begun number)) (sym e) ∙ at)

number_found : (begun : List Progress) (number : ℕ) (progress : Progress) → progress_of begun number ≡ Some progress → progress.element.number ≡ number
number_found [] number progress at = none_some at
number_found (p ∷ begun) number progress at = number_by p progress begun number (is_of number p) refl (number_found begun number progress) at

-- ---- it can't come there

cannot_come : (s : State) (now number piece : ℕ) (cursor : Bytes) → (CanComeTo s number piece cursor → ⊥) → IsNextPiece s now number piece cursor → ⊥
cannot_come s now number piece cursor never next =
    next.clear piece_fault.WrongElement (λ span of. next.clear (piece_fault.Moved span.cursor) (span, of, refl, λ same. never (comes span of same)))
  where
    comes : (span : Span) → IsPieceOf (facts_of s) next.read span → span.cursor ≡ next.read.key_range.low → CanComeTo s number piece cursor
    comes span of same = (
      of.progress,
      ap (progress_of (facts_of s).progress) (sym next.element_is) ∙ of.here,
      record {
        span = span;
        here = ap (slice_get of.progress.pieces) (sym next.piece_is) ∙ of.own.piece;
        comes =
            subst (λ (t : Bytes). ComesTo (scan_range_of of.progress.element of.progress.kind) span.cursor span.high t) next.cursor_is
            (subst (λ (h : Bytes). ComesTo (scan_range_of of.progress.element of.progress.kind) span.cursor h next.read.key_range.high) of.own.high
            (subst (λ (l : Bytes). ComesTo (scan_range_of of.progress.element of.progress.kind) l next.read.high next.read.key_range.high) (sym same)
            (subst (λ k. ComesTo (scan_range_of of.progress.element k) next.read.key_range.low next.read.high next.read.key_range.high) of.own.work
            (subst (λ e. ComesTo (scan_range_of e next.read.kind) next.read.key_range.low next.read.high next.read.key_range.high) of.own.element next.reading.comes))));
      },
    )

pub elsewhere : (s : State) (now number piece : ℕ) (cursor : Bytes) → (CanComeTo s number piece cursor → ⊥) → RepeatAt s now (Piece number piece cursor) (Err NotNext) s
elsewhere s now number piece cursor never = (cannot_come s now number piece cursor never, refl)

-- ---- the commit

pub piece_done : (s n : State) (now number piece : ℕ) (cursor : Bytes) (read : Reading) (done : PieceDone) → (facts_of s).moment ≤ now → IsReadAsFar s number piece cursor read → IsReading read → PieceStep s now read (Ok done) n
    → RepeatAt s now (Piece number piece cursor) (Ok done.receipt) n
piece_done s n now number piece cursor read done later far reading step =
    let a : PieceAt s now read (Ok done) n = subst (λ (m : ℕ). PieceAt s m read (Ok done) n) (effective_now s now later) step in
    let is : read ≡ view_to far.0 s.pairs piece cursor far.2.span = far.2.read_is in
    let number_is : read.element.number ≡ number = ap (λ (r : Reading). r.element.number) is ∙ number_found (facts_of s).progress number far.0 far.1 in
    let piece_is : read.piece ≡ piece = ap (λ (r : Reading). r.piece) is in
    let cursor_is : read.key_range.high ≡ cursor = ap (λ (r : Reading). r.key_range.high) is in (
      record { read = read; element_is = number_is; piece_is = piece_is; cursor_is = cursor_is; reading = reading; clear = a.0; holds = a.3 },
      subst (λ (w : What). Appends s now w done.receipt n) (λ i. Piece (number_is i) (piece_is i) (cursor_is i)) a.2,
    )

pub piece_failed : (s n : State) (now number piece : ℕ) (cursor : Bytes) (read : Reading) (refusal : PieceFault × Reading) (reported : RepeatFault) → (facts_of s).moment ≤ now → IsReadAsFar s number piece cursor read → PieceStep s now read (Err refusal) n
    → (reported ≡ NotNext → refusal.0 ≡ piece_fault.Memory → ⊥) → RepeatAt s now (Piece number piece cursor) (Err reported) n
piece_failed s n now number piece cursor read refusal reported later far step never = by reported never
  where
    a : PieceAt s now read (Err refusal.0) n
    a = subst (λ (m : ℕ). PieceAt s m read (Err refusal.0) n) (effective_now s now later) step.0

    is : read ≡ view_to far.0 s.pairs piece cursor far.2.span
    is = far.2.read_is

    here : progress_of (facts_of s).progress far.0.element.number ≡ Some far.0
    here = ap (progress_of (facts_of s).progress) (number_found (facts_of s).progress number far.0 far.1) ∙ far.1

    own : IsPieceOf (facts_of s) (view_to far.0 s.pairs piece cursor far.2.span) far.2.span
    own = record { progress = far.0; here = here; own = record { element = refl; work = refl; piece = far.2.here; low = refl; high = refl } }

    within_part : (key : Bytes) (b : Bool) → is_within far.2.span.cursor cursor key ≡ b → IsTrue b → map.get s.pairs key ≡ map.get (part s.pairs far.2.span.cursor cursor) key
    within_part key true e t = sym (get-part s.pairs far.2.span.cursor cursor key ∙ ap (λ (b : Bool). cond b (map.get s.pairs key) None) e)
    within_part key false e t = false_true t

    none : (f : PieceFault) → IsNextPiece s now number piece cursor → PieceCondition s now (view_to far.0 s.pairs piece cursor far.2.span) f → ⊥
    none piece_fault.MomentTooLarge next lt = next.clear piece_fault.MomentTooLarge lt
    none piece_fault.NotWanted next gone = none_some (sym gone ∙ here)
    none piece_fault.WrongElement next wrong = wrong far.2.span own
    none (piece_fault.Moved at) next moved = moved.3 (ap (λ (x : Span). x.cursor) (some_one (sym moved.1.own.piece ∙ ap (λ (p : Progress). slice_get p.pieces piece) (some_one (sym moved.1.here ∙ here)) ∙ far.2.here)))
    none (piece_fault.Conflict key) next c = elim c.0 [
      | inl m ↦ none_some (sym (map.get-empty _ key) ∙ m.1)
      | inr m ↦ m.1 (within_part key (is_within far.2.span.cursor cursor key) refl m.0)
    ]
    none piece_fault.Memory next x = x

    by : (t : RepeatFault) → (t ≡ NotNext → refusal.0 ≡ piece_fault.Memory → ⊥) → RepeatAt s now (Piece number piece cursor) (Err t) n
    by Memory f = a.1
    by NotNext f = (λ next. elim a.0.0 [ inl e ↦ f refl e | inr why ↦ none refusal.0 next (subst (λ (r : Reading). PieceCondition s now r refusal.0) is why) ], a.1)
