-- A round, and why the next one doesn't come.
use Rattle.std.proofs.Common.{◌≡◌, ℕ, zero, suc, ◌+◌, ◌<◌, ◌≤◌, List, [], ◌∷◌, length, Option, Some, None, Result, Ok, Err, refl, sym, ap, subst, ◌∙◌, ◌⊎◌, inl, inr, arith, Bool, true, option_map, add-one, Ordering, Less, Equal, Greater}
use Rattle.std.proofs.lemmas.Bool.{cases_lt}
use Rattle.std.proofs.lemmas.Option.{slice_get_within}
use Rattle.std.specs.Prelude.{◌≢◌, ◌&&◌, slice_get}
use Rattle.std.specs.Ordering.{is_eq, is_le}
use Rattle.keycode.specs.Order.{bytes_cmp}
use Rattle.collections.specs.Refusal.{IsRefusal}
use Rattle.schema_version.specs.declared.element.Work.{Work}
use Rattle.reorganise.specs.declared.work.Span.{Span}
use Rattle.reorganise.specs.declared.work.Progress.{Progress}
use Rattle.reorganise.specs.declared.read.Reading.{Reading}
use Rattle.reorganise.specs.declared.fault.ViewFault.{ViewFault}
use Rattle.reorganise.specs.declared.fault.ViewFault.TheVariants as view
use Rattle.reorganise.specs.Pieces.{is_ended, are_ended}
use Rattle.reorganise.specs.Refusals.{IsSpent, rank, Condition}
use Rattle.replay.specs.Kept.{IsInPiece, IsInPieces, AreInPieces}
use Rattle.replay.specs.Replay.{progress_of}
use Rattle.replay.proofs.Pieces.{at_place}
use Rattle.world.specs.declared.entry.PieceDone.{PieceDone}
use Rattle.world.specs.declared.piece.ReadFault.{ReadFault}
use Rattle.world.specs.declared.piece.ReadFault.TheVariants.{NotWanted, View}
use Rattle.world.specs.Piece.{standing, standing_at, ReadStep, PieceStep}
use Rattle.world.specs.State.{State, facts_of}
use Rattle.piece_work.specs.declared.fault.WorkFault.{WorkFault}
use Rattle.piece_work.specs.declared.fault.WorkFault.TheVariants as work_fault
use Rattle.piece_work.specs.WorkOff.{IsEndedAt, IsNext, NextStep, Round, Rounds, WasRead, HasEnded, Stops, WorkStep}
use Rattle.piece_work.specs.inner.Steps.{IsAt, WasSpent, IsUncommitted}

some_one : {A : Type 0} {v w : A} → Some v ≡ (let o : Option A = Some w in o) → v ≡ w
some_one e = cc

-- ---- the next piece

is_less : (o : Ordering) → ((o ≢ Less) → ⊥) → o ≡ Less
is_less Less h = refl
is_less Equal h = absurd (h (λ e. absurd cc))
is_less Greater h = absurd (h (λ e. absurd cc))

-- what is not spent is below its end
open_span : (p : Progress) (k : ℕ) (span : Span) → slice_get p.pieces k ≡ Some span → ¬ (IsSpent p k) → bytes_cmp span.cursor span.high ≡ Less
open_span p k span here unspent = is_less (bytes_cmp span.cursor span.high) (λ past. unspent (record { span = span; here = here; past = past }))

-- what is spent, and not past its end, has ended
at_end : (o : Ordering) → o ≢ Less → is_le o ≡ true → is_eq o ≡ true
at_end Less past le = absurd (past refl)
at_end Equal past le = refl
at_end Greater past le = absurd cc

ended_span : (p : Progress) (k : ℕ) → IsInPieces p → IsSpent p k → IsEndedAt p k
ended_span p k within spent = record {
  span = spent.span;
  here = spent.here;
  ended = at_end (bytes_cmp spent.span.cursor spent.span.high) spent.past (at_place IsInPiece p.pieces k spent.span within.cursors spent.here);
}

there : (pieces : List Span) (k : ℕ) → k < length pieces → (span : Span) × (slice_get pieces k ≡ Some span)
there [] k lt = absurd (omega (arith, lt))
there (p ∷ ps) zero lt = (p, refl)
there (p ∷ ps) (suc k) lt = there ps k (omega (arith, lt))

next_at : (s : State) (element pieces piece : ℕ) (span : Span) (at : IsAt s element pieces piece) → slice_get at.progress.pieces piece ≡ Some span → ¬ (IsSpent at.progress piece) → IsNext s element piece
next_at s element pieces piece span at here unspent =
    record { progress = at.progress; begun = at.begun; first = record { span = span; here = here; unended = open_span at.progress piece span here unspent; earlier = at.earlier } }

-- two words for one reorganisation
one_progress : (s : State) (element pieces piece : ℕ) (at : IsAt s element pieces piece) (p : Progress) → progress_of (facts_of s).progress element ≡ Some p → p ≡ at.progress
one_progress s element pieces piece at p here = some_one (sym here ∙ at.begun)

-- ---- reading

-- a spent piece has ended, and is passed
pub spent_on : (s : State) (element pieces piece limit : ℕ) → IsAt s element pieces piece → WasSpent s element piece limit → IsAt s element pieces (piece + 1)
spent_on s element pieces piece limit at read =
    let same : read.0.0 ≡ at.progress = one_progress s element pieces piece at read.0.0 read.0.1 in
    let spent : IsSpent at.progress piece = subst (λ (p : Progress). IsSpent p piece) same (reported read.0.2.0) in
    let ended : IsEndedAt at.progress piece = ended_span at.progress piece (read.1 element at.progress at.begun) spent in
    record { progress = at.progress; begun = at.begun; count = at.count; earlier = λ k lt. by k ended (at.earlier k) (below k lt) }
  where
    reported : {A : Type 0} → (view.Spent ≡ view.Memory) ⊎ A → A
    reported (inl e) = absurd cc
    reported (inr a) = a

    below : (k : ℕ) → k < piece + 1 → (k < piece) ⊎ (piece ≡ k)
    below k lt = elim (cases_lt k piece) [ inl less ↦ inl less | inr over ↦ inr (omega (arith, lt, over)) ]

    by : (k : ℕ) → IsEndedAt at.progress piece → (k < piece → IsEndedAt at.progress k) → (k < piece) ⊎ (piece ≡ k) → IsEndedAt at.progress k
    by k ended earlier (inl lt) = earlier lt
    by k ended earlier (inr e) = subst (λ (j : ℕ). IsEndedAt at.progress j) e ended

pub was_read : (s : State) (element pieces piece limit : ℕ) (read : Reading) → IsAt s element pieces piece → ReadStep s element piece limit (Ok read) → WasRead s element limit piece read
was_read s element pieces piece limit read at step =
    let same : step.0 ≡ at.progress = one_progress s element pieces piece at step.0 step.1 in
    (next_at s element pieces piece step.3.span at (subst (λ (p : Progress). slice_get p.pieces piece ≡ Some step.3.span) same step.3.here) (subst (λ (p : Progress). ¬ (IsSpent p piece)) same (step.2 view.Spent)), step)

-- why a piece that is there is not read, where it isn't spent
unspent : (p : Progress) (piece limit : ℕ) (span : Span) (fault : ViewFault) → slice_get p.pieces piece ≡ Some span → IsRefusal rank (Condition p piece limit) view.Memory fault → View fault ≢ View view.Spent → ¬ (IsSpent p piece)
unspent p piece limit span view.BadPiece here refused other = λ spent. past refused.0
  where
    past : (view.BadPiece ≡ view.Memory) ⊎ (length p.pieces ≤ piece) → ⊥
    past (inl e) = absurd cc
    past (inr le) = absurd (omega (arith, le, slice_get_within p.pieces piece span here))
unspent p piece limit span view.Spent here refused other = absurd (other refl)
unspent p piece limit span view.BadLimit here refused other = refused.1 view.Spent (omega arith)
unspent p piece limit span view.Memory here refused other = refused.1 view.Spent (omega arith)

pub next_refused : (s : State) (element pieces piece limit : ℕ) (fault : ReadFault) → IsAt s element pieces piece → piece < pieces → ReadStep s element piece limit (Err fault) → fault ≢ View view.Spent → NextStep s element limit (Err fault)
next_refused s element pieces piece limit NotWanted at lt read other = read
next_refused s element pieces piece limit (View fault) at lt read other =
    let same : read.0 ≡ at.progress = one_progress s element pieces piece at read.0 read.1 in
    let refused : IsRefusal rank (Condition at.progress piece limit) view.Memory fault = subst (λ (p : Progress). IsRefusal rank (Condition p piece limit) view.Memory fault) same read.2 in
    let found = there at.progress.pieces piece (subst (λ (n : ℕ). piece < n) (sym at.count) lt) in
    (piece, next_at s element pieces piece found.0 at found.1 (unspent at.progress piece limit found.0 fault found.1 refused other), read)

pub stops_next : (s : State) (element moment limit : ℕ) (fault : ReadFault) → NextStep s element limit (Err fault) → Stops s element moment limit (work_fault.Read fault)
stops_next s element moment limit NotWanted next = next
stops_next s element moment limit (View fault) next = next

-- ---- a round

pub round : (old new : State) (element moment limit : ℕ) (read : Reading) (done : PieceDone) → (piece : ℕ) × WasRead old element limit piece read → PieceStep old moment read (Ok done) new → Round old element moment limit new
round old new element moment limit read done was committed = record { piece = was.0; next = was.1.0; read = read; read_so = was.1.1; done = done; committed = committed }

pub one_more : (n m : ℕ) (old middle new : State) (element moment limit : ℕ) → m ≡ n + 1 → Rounds n old element moment limit middle → Round middle element moment limit new → Rounds m old element moment limit new
one_more n m old middle new element moment limit is rounds last = subst (λ (k : ℕ). Rounds k old element moment limit new) (sym (is ∙ add-one n)) (middle, rounds, last)

-- a refused commit leaves all as it was
pub stops_commit : (s new : State) (element moment limit : ℕ) (read : Reading) (fault : WorkFault) → (piece : ℕ) × WasRead s element limit piece read → IsUncommitted s moment read fault → new ≡ s → Stops new element moment limit fault
stops_commit s new element moment limit read fault was why same = subst (λ (x : State). Stops x element moment limit fault) (sym same) (by fault why)
  where
    by : (fault : WorkFault) → IsUncommitted s moment read fault → Stops s element moment limit fault
    by (work_fault.Read fault) why = absurd why
    by (work_fault.Commit fault) why = (was.0, read, was.1, why)
    by work_fault.Memory why = (was.0, read, was.1)

-- ---- how it stands

none_some : {A B : Type 0} {v : A} → None ≡ Some v → B
none_some e = absurd cc

pub not_begun : (s : State) (element : ℕ) → None ≡ standing_at (facts_of s) element → progress_of (facts_of s).progress element ≡ None
not_begun s element = by (progress_of (facts_of s).progress element)
  where
    by : (o : Option Progress) → None ≡ option_map standing o → o ≡ None
    by None e = refl
    by (Some p) e = none_some e

-- so many pieces are reported of the begun reorganisation
pub begins_at : (s : State) (element : ℕ) (work : Work) (pieces : ℕ) (ended : Bool) → Some (work, pieces, ended) ≡ standing_at (facts_of s) element → IsAt s element pieces 0
begins_at s element work pieces ended = by (progress_of (facts_of s).progress element) refl
  where
    by : (o : Option Progress) → progress_of (facts_of s).progress element ≡ o → Some (work, pieces, ended) ≡ option_map standing o → IsAt s element pieces 0
    by None is e = none_some (sym e)
    by (Some p) is e = record { progress = p; begun = is; count = ap (λ (x : Work × ℕ × Bool). x.1) (sym (some_one e)); earlier = λ k lt. absurd (omega (arith, lt)) }

-- there are few of them
pub few_pieces : (s : State) (element pieces : ℕ) → IsAt s element pieces 0 → AreInPieces (facts_of s).progress → pieces ≤ 64
few_pieces s element pieces at within = subst (λ (n : ℕ). n ≤ 64) at.count (within element at.progress at.begun).few

-- ---- where all have ended

all_ended : (pieces : List Span) → ((k : ℕ) → k < length pieces → (span : Span) × (slice_get pieces k ≡ Some span) × (is_ended span ≡ true)) → are_ended pieces ≡ true
all_ended [] at = refl
all_ended (p ∷ ps) at =
    let first = at 0 (omega arith) in
    ap (λ (b : Bool). b && are_ended ps) (ap is_ended (some_one first.1) ∙ first.2) ∙ all_ended ps (λ k lt. at (suc k) (omega (arith, lt)))

pub has_ended : (s : State) (element pieces piece : ℕ) → IsAt s element pieces piece → piece ≤ pieces → pieces ≤ piece → HasEnded s element
has_ended s element pieces piece at within over =
    let last : piece ≡ length at.progress.pieces = omega (arith, within, over, at.count) in
    let every = all_ended at.progress.pieces (λ k lt. let e = at.earlier k (omega (arith, lt, last)) in (e.span, e.here, e.ended)) in
    (at.progress.kind, length at.progress.pieces, ap (option_map standing) at.begun ∙ ap (λ (b : Bool). Some (at.progress.kind, length at.progress.pieces, b)) every)

-- ---- the call

pub stopped : (old new : State) (element moment limit commits : ℕ) (fault reported : WorkFault) (result : Result ℕ WorkFault) → result ≡ Err reported → reported ≡ fault → Rounds commits old element moment limit new → Stops new element moment limit fault
    → WorkStep old element moment limit result new
stopped old new element moment limit commits fault reported result is same rounds stops =
    subst (λ (r : Result ℕ WorkFault). WorkStep old element moment limit r new) (sym (is ∙ ap (λ (f : WorkFault). let r : Result ℕ WorkFault = Err f in r) same)) (commits, rounds, stops)
