-- What the lock answered, as what an attempt comes to.
use Rattle.std.proofs.Common.{◌≡◌, ◌≢◌, ℕ, ◌+◌, ◌<◌, ◌≤◌, ◌∷◌, [], ◌++◌, List, All, Bool, true, false, Option, Some, None, refl, sym, ap, ◌∙◌, subst, inl, inr, arith, cond, eqb-true}
use Rattle.std.specs.Prelude.{Result, Ok, Err}
use Rattle.std.proofs.lemmas.List.{length_push}
use Rattle.std.proofs.lemmas.List.Elements.{All-push, All-same, All-nil}
use Rattle.schema_version.specs.declared.element.Work.{Work}
use Rattle.reorganise.specs.declared.read.Reading.{Reading}
use Rattle.reorganise.specs.declared.work.Progress.{Progress}
use Rattle.reorganise.specs.declared.fault.ViewFault.TheVariants as view_fault
use Rattle.replay.specs.declared.entry.Entry.{Entry}
use Rattle.replay.specs.declared.entry.What.TheVariants.{Piece}
use Rattle.replay.specs.Replay.{is_of, progress_of}
use Rattle.locked_store.specs.Piece.{PieceStep, ReadStep, piece_standing_at}
use Rattle.locked_store.specs.State.{State, entry_count, facts_of}
use Rattle.locked_store.specs.PieceDone.{PieceDone}
use Rattle.locked_store.specs.Receipt.{Receipt}
use Rattle.locked_store.specs.PieceFault.{PieceFault}
use Rattle.locked_store.specs.PieceFault.TheVariants.{MomentTooLarge, NotWanted, WrongElement, Moved, Conflict, Memory}
use Rattle.locked_store.specs.ReadFault.{ReadFault}
use Rattle.locked_store.specs.ReadFault.TheVariants as read_fault
use Rattle.locked_store.specs.declared.fault.SharedFault.{SharedFault}
use Rattle.locked_store.specs.declared.fault.SharedFault.TheVariants as shared
use Rattle.locked_store.specs.declared.fault.WentBack.{WentBack}
use Rattle.locked_store.specs.Answers.{Answers, AnswersBack, BackBy, Counts, Finds, WentBackTo, no_place, piece_place}
use Rattle.locked_store.specs.Cores.{IsCore, IsCoreSince}
use Rattle.locked_store.specs.Known.{Known, own_of}
use Rattle.locked_store.proofs.Logging.{piece_logged}
use Rattle.reorganise_workers.specs.Ends.{HasSeen, WasShorter, IsEndOf, IsEndOfOne, IsAttempt, IsPieceReceipt, IsFailedTry, FailedSoOften, Stood, WasRead, WasCommitted, WasUncommitted, tries_of}
use Rattle.reorganise_workers.specs.inner.Attempts.{WasSpent, unread_end, attempt_of, failed_by}
use Rattle.reorganise_workers.specs.declared.end.PieceEnd.{PieceEnd}
use Rattle.reorganise_workers.specs.declared.end.PieceEnd.TheVariants as piece_end
use Rattle.reorganise_workers.specs.declared.job.Job.{Job}
use Rattle.reorganise_workers.specs.declared.attempt.Attempt.TheVariants as attempt

-- what has seen as much as a handle has seen as much as the job says
pub since : (start : State) (front : ℕ) (v : Known) (core : State) → front ≤ v.front → IsCore start core → v.front ≤ entry_count core → IsCoreSince start front core
since start front v core seen is_core more = record { is_core = is_core; since = omega (arith, seen, more) }

-- ---- the front of the handle

-- the log is shorter than a front that the handle had
pub was_shorter : (start : State) (most : ℕ) (v w : Known) (seen : ℕ) → HasSeen start most v.front → WentBackTo start v seen w → WasShorter start most seen
was_shorter start most v w seen has back = (back.1, (v.front, has, back.0))

-- the front after a call is the one before it, or a length that the log had
pub stays : {T E : Type 0} (start : State) (most : ℕ) (v w : Known) (answer : Result T (SharedFault E)) (step : State → Result T E → State → Type 0) (place : T → Option ℕ)
    → Answers start v answer w step place → HasSeen start most v.front → HasSeen start most w.front
stays start most v w (Ok x) step place a has = inr (a.1, a.2.1, sym a.2.4)
stays start most v w (Err (shared.World e)) step place a has = inr (a.1, a.2.1, sym a.2.4)
stays start most v w (Err (shared.WentBack seen)) step place a has = subst (λ (k : Known). HasSeen start most k.front) (sym a.2) has

pub stays_found : {T : Type 0} (start : State) (most : ℕ) (v w : Known) (answer : Result T WentBack) (says : State → T → Type 0) → Finds start v answer w says → HasSeen start most v.front → HasSeen start most w.front
stays_found start most v w (Ok x) says a has = inr (a.0, a.1.0, sym a.1.3)
stays_found start most v w (Err back) says a has = subst (λ (k : Known). HasSeen start most k.front) (sym a.2) has

pub stays_back : {T E P : Type 0} (start : State) (most : ℕ) (v w : Known) (prepared : P) (answer : Result T (SharedFault E × P)) (step : State → Result T (E × P) → State → Type 0) (place : T → Option ℕ)
    → AnswersBack start v prepared answer w step place → HasSeen start most v.front → HasSeen start most w.front
stays_back {E = E} start most v w prepared (Ok x) step place a has = inr (a.1, a.2.1, sym a.2.4)
stays_back {E = E} start most v w prepared (Err refusal) step place a has = go refusal.0 a
  where
    go : (fault : SharedFault E) → BackBy start v fault refusal.1 prepared w step place → HasSeen start most w.front
    go (shared.World e) b = inr (b.1, b.2.1, sym b.2.4)
    go (shared.WentBack seen) b = subst (λ (k : Known). HasSeen start most k.front) (sym b.0.2) has

-- ---- what a handle counts

abbrev Own : Known → Known → Type 0
Own v w = own_of w ≡ own_of v

own : (v w : Known) → w.id ≡ v.id → w.taken ≡ v.taken → Own v w
own v w id taken = λ i. (id i, taken i)

counts_own : (v w : Known) (place : Option ℕ) → Counts v place w → Own v w
counts_own v w (Some place) c = own v w c.0 c.4
counts_own v w None c = own v w c.0 c.2

counts_refused : (v w : Known) (place : Option ℕ) → Counts v place w → w.refused ≡ v.refused
counts_refused v w (Some place) c = c.5
counts_refused v w None c = c.3

pub own_back : {T E P : Type 0} (start : State) (v w : Known) (prepared : P) (answer : Result T (SharedFault E × P)) (step : State → Result T (E × P) → State → Type 0) (place : T → Option ℕ)
    → AnswersBack start v prepared answer w step place → Own v w
own_back {E = E} start v w prepared (Ok x) step place a = counts_own v w (place x) a.2.5
own_back {E = E} start v w prepared (Err refusal) step place a = go refusal.0 a
  where
    go : (fault : SharedFault E) → BackBy start v fault refusal.1 prepared w step place → Own v w
    go (shared.World e) b = own v w b.2.5.0 b.2.5.2
    go (shared.WentBack seen) b = ap own_of b.0.2

-- a commit that goes through is not counted as refused
pub unrefused : {T E P : Type 0} (start : State) (v w : Known) (prepared : P) (done : T) (step : State → Result T (E × P) → State → Type 0) (place : T → Option ℕ)
    → AnswersBack start v prepared (let r : Result T (SharedFault E × P) = Ok done in r) w step place → w.refused ≡ v.refused
unrefused start v w prepared done step place a = counts_refused v w (place done) a.2.5

failed_once : (fault : PieceFault) → failed_by (attempt_of (let f : SharedFault PieceFault = shared.World fault in f)) ≤ 1
failed_once MomentTooLarge = omega arith
failed_once NotWanted = omega arith
failed_once WrongElement = omega arith
failed_once (Moved cursor) = omega arith
failed_once (Conflict key) = omega arith
failed_once Memory = omega arith

-- a failed try is a commit that was refused
pub refused_back : {T P : Type 0} (start : State) (v w : Known) (prepared back : P) (fault : SharedFault PieceFault) (step : State → Result T (PieceFault × P) → State → Type 0) (place : T → Option ℕ)
    → AnswersBack start v prepared (let r : Result T (SharedFault PieceFault × P) = Err (fault, back) in r) w step place → v.refused + failed_by (attempt_of fault) ≤ w.refused
refused_back start v w prepared back (shared.World e) step place b = omega (arith, failed_once e, b.2.5.3)
refused_back start v w prepared back (shared.WentBack seen) step place b = omega (arith, ap (λ (k : Known). k.refused) b.0.2)

-- ---- reading

pub was_read : (start : State) (v w : Known) (job : Job) (piece : ℕ) (read : Reading) → job.front ≤ v.front
    → Answers start v (let r : Result Reading (SharedFault ReadFault) = Ok read in r) w (λ c r d. ReadStep c job.element piece job.limit r × (d ≡ c)) no_place
    → WasRead start job piece read
was_read start v w job piece read seen a = record { core = a.0; is_core = since start job.front v a.0 seen a.2.0 a.2.2; read_is = a.2.3.0 }

-- what was read, of another kind of work
pub of_another_kind : (start : State) (job : Job) (piece : ℕ) (read : Reading) → WasRead start job piece read → read.kind ≢ job.kind → IsEndOf start job piece (piece_end.Refused WrongElement)
of_another_kind start job piece read was ne = inr (inl (refl, inl (read, was, ne)))

-- how a piece ends that is not read, or that it was at its end
abbrev pub IsUnread : State → Job → ℕ → Option PieceEnd → Type 0
IsUnread start job piece None = WasSpent start job piece
IsUnread start job piece (Some end) = IsEndOfOne start job piece end

pub unread : (start : State) (v w : Known) (job : Job) (piece : ℕ) (fault : SharedFault ReadFault) → job.front ≤ v.front → HasSeen start job.most v.front
    → Answers start v (let r : Result Reading (SharedFault ReadFault) = Err fault in r) w (λ c r d. ReadStep c job.element piece job.limit r × (d ≡ c)) no_place
    → IsUnread start job piece (unread_end fault)
unread start v w job piece (shared.WentBack seen) s has a = was_shorter start job.most v w seen has a
unread start v w job piece (shared.World read_fault.NotWanted) s has a =
    inl (refl, inl (record { core = a.0; is_core = since start job.front v a.0 s a.2.0 a.2.2; unread = a.2.3.0 }))
unread start v w job piece (shared.World (read_fault.View view_fault.BadPiece)) s has a =
    inl (refl, inr (inl (record { core = a.0; is_core = since start job.front v a.0 s a.2.0 a.2.2; unread = a.2.3.0 })))
unread start v w job piece (shared.World (read_fault.View view_fault.Spent)) s has a = record { core = a.0; is_core = since start job.front v a.0 s a.2.0 a.2.2; unread = a.2.3.0 }
unread start v w job piece (shared.World (read_fault.View view_fault.BadLimit)) s has a = tt
unread start v w job piece (shared.World (read_fault.View view_fault.Memory)) s has a = tt

-- ---- looking

pub stood : (start : State) (v w : Known) (job : Job) (piece : ℕ) (found standing : Option (Work × Bool)) → job.front ≤ v.front → found ≡ standing
    → Finds start v (let r : Result (Option (Work × Bool)) WentBack = Ok found in r) w (λ c x. x ≡ piece_standing_at (facts_of c) job.element piece)
    → Stood start job piece standing
stood start v w job piece found standing seen is a = record { core = a.0; is_core = since start job.front v a.0 seen a.1.0 a.1.1; standing_is = sym a.1.2 ∙ is }

pub stood_of_another_kind : (start : State) (job : Job) (piece : ℕ) (kind : Work) (ended : Bool) → Stood start job piece (Some (kind, ended)) → kind ≢ job.kind
    → IsEndOf start job piece (piece_end.Refused WrongElement)
stood_of_another_kind start job piece kind ended s ne = inr (inl (refl, inr (kind, ended, s, ne)))

standing_same : (kind other : Work) (ended : Bool) → kind ≡ other → ended ≡ true → (let s : Option (Work × Bool) = Some (kind, ended) in s) ≡ Some (other, true)
standing_same kind other ended e f = cc

pub stood_ended : (start : State) (job : Job) (piece : ℕ) (kind : Work) (ended : Bool) → Stood start job piece (Some (kind, ended)) → kind ≡ job.kind → ended ≡ true
    → IsEndOf start job piece piece_end.Finished
stood_ended start job piece kind ended s e f = inl (subst (λ o. Stood start job piece o) (standing_same kind job.kind ended e f) s)

pub stood_nowhere : (start : State) (job : Job) (piece : ℕ) → Stood start job piece None → IsEndOf start job piece (piece_end.Refused NotWanted)
stood_nowhere start job piece s = inl (refl, inr (inr s))

-- ---- committing

pub was_committed : (start : State) (v w : Known) (job : Job) (piece : ℕ) (read prepared : Reading) (done : PieceDone)
    → job.front ≤ v.front → prepared ≡ read → WasRead start job piece read → read.kind ≡ job.kind
    → AnswersBack start v prepared (let r : Result PieceDone (SharedFault PieceFault × Reading) = Ok done in r) w (λ c r d. PieceStep c job.moment prepared r d) piece_place
    → WasCommitted start job piece done
was_committed start v w job piece read prepared done seen is was own a =
    record {
      read = prepared;
      was_read = subst (λ r. WasRead start job piece r) (sym is) was;
      own_kind = ap (λ (r : Reading). r.kind) is ∙ own;
      core = a.0;
      is_core = since start job.front v a.0 seen a.2.0 a.2.2;
      left = a.1;
      committed = a.2.3;
    }

pub brought_to_its_end : (start : State) (job : Job) (piece : ℕ) (done : PieceDone) → WasCommitted start job piece done → done.ended ≡ true → IsEndOf start job piece piece_end.Finished
brought_to_its_end start job piece done was ended = inr (done, was, ended)

pub more_left : (start : State) (job : Job) (piece : ℕ) (done : PieceDone) → WasCommitted start job piece done → done.ended ≡ false → IsAttempt start job piece attempt.More
more_left start job piece done was ended = (done, was, ended)

was_uncommitted : (start : State) (v w : Known) (job : Job) (piece : ℕ) (read prepared back : Reading) (fault : PieceFault)
    → job.front ≤ v.front → prepared ≡ read → WasRead start job piece read → read.kind ≡ job.kind
    → BackBy {T = PieceDone} start v (shared.World fault) back prepared w (λ c r d. PieceStep c job.moment prepared r d) piece_place
    → WasUncommitted start job piece fault
was_uncommitted start v w job piece read prepared back fault seen is was own a =
    record {
      read = prepared;
      was_read = subst (λ r. WasRead start job piece r) (sym is) was;
      own_kind = ap (λ (r : Reading). r.kind) is ∙ own;
      core = a.0;
      is_core = since start job.front v a.0 seen a.2.0 a.2.2;
      back = back;
      left = a.1;
      refused = a.2.3;
    }

pub refused_by : (start : State) (v w : Known) (job : Job) (piece : ℕ) (read prepared back : Reading) (fault : SharedFault PieceFault)
    → job.front ≤ v.front → HasSeen start job.most v.front → prepared ≡ read → WasRead start job piece read → read.kind ≡ job.kind
    → BackBy {T = PieceDone} start v fault back prepared w (λ c r d. PieceStep c job.moment prepared r d) piece_place → IsAttempt start job piece (attempt_of fault)
refused_by start v w job piece read prepared back (shared.WentBack seen) s has is was own a = was_shorter start job.most v w seen has a.0
refused_by start v w job piece read prepared back (shared.World MomentTooLarge) s has is was own a = inr (inr (tt, was_uncommitted start v w job piece read prepared back MomentTooLarge s is was own a))
refused_by start v w job piece read prepared back (shared.World NotWanted) s has is was own a = inr (inr (tt, was_uncommitted start v w job piece read prepared back NotWanted s is was own a))
refused_by start v w job piece read prepared back (shared.World WrongElement) s has is was own a = inr (inr (tt, was_uncommitted start v w job piece read prepared back WrongElement s is was own a))
refused_by start v w job piece read prepared back (shared.World (Moved cursor)) s has is was own a = (Moved cursor, (tt, was_uncommitted start v w job piece read prepared back (Moved cursor) s is was own a))
refused_by start v w job piece read prepared back (shared.World (Conflict key)) s has is was own a = (Conflict key, (tt, was_uncommitted start v w job piece read prepared back (Conflict key) s is was own a))
refused_by start v w job piece read prepared back (shared.World Memory) s has is was own a = tt

-- ---- failed tries

pub none_failed : (start : State) (job : Job) (piece : ℕ) → FailedSoOften start job piece 0
none_failed start job piece = ([], refl, All-nil (IsFailedTry start job piece))

pub one_more_failed : (start : State) (job : Job) (piece times : ℕ) → FailedSoOften start job piece times → IsAttempt start job piece attempt.Again → FailedSoOften start job piece (times + 1)
one_more_failed start job piece times f t =
    (f.0 ++ t.0 ∷ [], length_push f.0 t.0 ∙ ap (λ n. n + 1) f.1, All-push (IsFailedTry start job piece) f.0 t.0 f.2 t.1)

-- ---- receipts

one_number : (n : ℕ) (q p : Progress) (rest : Option Progress) → (rest ≡ Some p → p.element.number ≡ n) → (b : Bool) → is_of n q ≡ b → cond b (Some q) rest ≡ Some p → p.element.number ≡ n
one_number n q p rest others true is here = let same : q ≡ p = cc in ap (λ (x : Progress). x.element.number) (sym same) ∙ eqb-true q.element.number n is
one_number n q p rest others false is here = others here

its_number : (ps : List Progress) (n : ℕ) (p : Progress) → progress_of ps n ≡ Some p → p.element.number ≡ n
its_number [] n p at = absurd (cc)
its_number (q ∷ ps) n p at = one_number n q p (progress_of ps n) (its_number ps n p) (is_of n q) refl at

own_element : (start : State) (job : Job) (piece : ℕ) (read : Reading) → WasRead start job piece read → read.element.number ≡ job.element
own_element start job piece read was =
    let r = was.read_is in ap (λ (x : Reading). x.element.number) r.3.read_is ∙ its_number (facts_of was.core).progress job.element r.0 r.1

pub piece_receipt : (start : State) (v w : Known) (job : Job) (piece : ℕ) (read prepared : Reading) (done : PieceDone)
    → job.front ≤ v.front → prepared ≡ read → WasRead start job piece read
    → AnswersBack start v prepared (let r : Result PieceDone (SharedFault PieceFault × Reading) = Ok done in r) w (λ c r d. PieceStep c job.moment prepared r d) piece_place
    → IsPieceReceipt start job done.receipt
piece_receipt start v w job piece read prepared done seen is was a =
    record {
      piece = prepared.piece;
      cursor = prepared.key_range.high;
      what = ap (λ (e : Entry). e.what) a.2.3.2.entry
          ∙ ap (λ n. Piece n prepared.piece prepared.key_range.high) (ap (λ (r : Reading). r.element.number) is ∙ own_element start job piece read was);
      logged = piece_logged start v w job.front job.moment prepared done a seen;
    }

pub still_pieces : (start : State) (job : Job) (old new : List Receipt) → new ≡ old → All (IsPieceReceipt start job) old → All (IsPieceReceipt start job) new
still_pieces start job old new same all = All-same (IsPieceReceipt start job) new old same all

pub one_piece_more : (start : State) (job : Job) (old mid new : List Receipt) (receipt : Receipt) → mid ≡ old → new ≡ mid ++ receipt ∷ [] → IsPieceReceipt start job receipt
    → All (IsPieceReceipt start job) old → All (IsPieceReceipt start job) new
one_piece_more start job old mid new receipt same is own all =
    All-same (IsPieceReceipt start job) new (mid ++ receipt ∷ []) is (All-push (IsPieceReceipt start job) mid receipt (still_pieces start job old mid same all) own)

-- ---- the end of a piece

pub end_of_one : (start : State) (job : Job) (piece : ℕ) (end : PieceEnd) → IsEndOfOne start job piece end → IsEndOf start job piece end
end_of_one start job piece piece_end.Finished is = is
end_of_one start job piece (piece_end.Busy tries) is = absurd is
end_of_one start job piece (piece_end.Refused fault) is = is
end_of_one start job piece piece_end.Held is = is
end_of_one start job piece (piece_end.WentBack seen) is = is
end_of_one start job piece piece_end.Memory is = is

-- a single attempt does not end a piece as Busy
pub tells_none : (start : State) (job : Job) (piece : ℕ) (end : PieceEnd) → IsEndOfOne start job piece end → tries_of end ≡ 0
tells_none start job piece piece_end.Finished is = refl
tells_none start job piece (piece_end.Busy tries) is = absurd is
tells_none start job piece (piece_end.Refused fault) is = refl
tells_none start job piece piece_end.Held is = refl
tells_none start job piece (piece_end.WentBack seen) is = refl
tells_none start job piece piece_end.Memory is = refl

-- so many failed tries as were allowed
pub busy : (start : State) (job : Job) (piece failed : ℕ) → failed < job.tries → job.tries ≤ failed + 1 → FailedSoOften start job piece (failed + 1) → IsEndOf start job piece (piece_end.Busy job.tries)
busy start job piece failed below reached f = let all : failed + 1 ≡ job.tries = omega (arith, below, reached) in (refl, subst (λ n. FailedSoOften start job piece n) all f)
