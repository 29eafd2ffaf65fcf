-- What the lock answered, as what an attempt comes to.
use Rattle.std.proofs.Common.{◌≡◌, ℕ, ◌+◌, ◌≤◌, ◌⊎◌, ◌∷◌, [], ◌++◌, List, Option, Some, None, refl, sym, ap, ◌∙◌, subst, inl, inr, arith}
use Rattle.std.specs.Prelude.{Result, Ok, Err, IfOk}
use Rattle.std.proofs.lemmas.List.{length_push}
use Rattle.std.proofs.lemmas.List.Elements.{All-push, All-nil}
use Rattle.std.specs.declared.alloc.AllocError.{AllocError}
use Rattle.schema_version.specs.declared.step.Move.{Move}
use Rattle.reorganise.specs.declared.fault.ViewFault.TheVariants as view_fault
use Rattle.reorganise.specs.declared.read.Reading.{Reading}
use Rattle.locked_store.specs.BeginFault.{BeginFault}
use Rattle.locked_store.specs.BeginFault.TheVariants as begin_fault
use Rattle.locked_store.specs.PieceDone.{PieceDone}
use Rattle.locked_store.specs.Receipt.{Receipt}
use Rattle.locked_store.specs.PieceFault.{PieceFault}
use Rattle.locked_store.specs.PieceFault.TheVariants as piece_fault
use Rattle.locked_store.specs.ReadFault.{ReadFault}
use Rattle.locked_store.specs.ReadFault.TheVariants as read_fault
use Rattle.locked_store.specs.PublishFault.{PublishFault}
use Rattle.locked_store.specs.PublishFault.TheVariants as publish_fault
use Rattle.locked_store.specs.BeginReorg.{BeginStep}
use Rattle.locked_store.specs.Calls.{effective_moment}
use Rattle.locked_store.specs.Piece.{PieceStep}
use Rattle.locked_store.specs.Publish.{PublishStep}
use Rattle.locked_store.specs.State.{State, entry_count, facts_of}
use Rattle.locked_store.specs.Answers.{Answers, AnswersBack, BackBy, WentBackTo, no_place, receipt_place, publish_place, piece_place}
use Rattle.locked_store.specs.Cores.{IsCore, IsCoreSince}
use Rattle.locked_store.specs.Known.{Known, own_of}
use Rattle.locked_store.specs.declared.fault.SharedFault.{SharedFault}
use Rattle.locked_store.specs.declared.fault.SharedFault.TheVariants as shared
use Rattle.locked_store.proofs.Logging.{logged_after, same_front, stays}
use Rattle.locked_store.specs.WorkOff.{NextStep}
use Rattle.locked_store.specs.Act.{Act}
use Rattle.locked_store.specs.Act.TheVariants as act
use Rattle.locked_store.specs.Advanced.{Advanced}
use Rattle.locked_store.specs.Due.{IsDue}
use Rattle.shared_rollout.specs.Operator.{IsAdvanced, IsSeen, IsWorkedElse, WasBegun, WasCommitted, WasDue, WasDueAt, WasLooked, WasPublished, WasRead, WasOvertaken, WereOvertaken, entries_of}
use Rattle.shared_rollout.specs.inner.Attempts.{Attempt, Attempts, Says, of_begin, of_commit, of_look, of_publish, of_read, of_refusal}
use Rattle.shared_rollout.specs.declared.ask.Ask.{Ask}
use Rattle.shared_rollout.specs.declared.fault.OperatorFault.TheVariants as fault

-- ---- what is known after a call

-- what has seen as much as a handle has seen as much as was seen at entry
since : (start : State) (front : ℕ) (v : Known) (core : State) → front ≤ v.front → IsCore start core → v.front ≤ entry_count core → IsCoreSince start front core
since start front v core seen is_core more = record { is_core = is_core; since = omega (arith, seen, more) }

own : (v w : Known) → w.id ≡ v.id → w.taken ≡ v.taken → own_of w ≡ own_of v
own v w id taken = λ i. (id i, taken i)

-- a call that adds no entry
kept : (start : State) (ask : Ask) (v w : Known) (attempt : Attempt) (found left : State) → v.front ≤ entry_count found → left ≡ found → w.front ≡ entry_count left → own_of w ≡ own_of v
    → Says start ask v attempt w → Attempts start ask v attempt w
kept start ask v w attempt found left seen is front id says = record { same = id; rises = stays v w found left seen front is; says = says }

went_back : (start : State) (ask : Ask) (v w : Known) (seen : ℕ) → WentBackTo start v seen w → Attempts start ask v (Err (fault.WentBack seen)) w
went_back start ask v w seen a =
    record {
      same = ap own_of a.2;
      rises = same_front v w a.2;
      says = ((omega (arith, a.0, ap (λ (k : Known). k.front) a.2), a.1), ap (λ (k : Known). k.count) a.2);
    }

-- what a handle that looked in between learns
pub later : (start : State) (ask : Ask) (v u w : Known) (attempt : Attempt) → own_of u ≡ own_of v → u.count ≡ v.count → v.front ≤ u.front → Attempts start ask u attempt w → Attempts start ask v attempt w
later start ask v u w attempt id count front a =
    record { same = a.same ∙ id; rises = omega (arith, front, a.rises); says = by attempt a.says }
  where
    by : (attempt : Attempt) → Says start ask u attempt w → Says start ask v attempt w
    by (Ok (Some done)) s = (s.0, s.1, s.2 ∙ ap (λ n. n + entries_of done) count)
    by (Ok None) s = (s.0, s.1 ∙ count)
    by (Err why) s = (s.0, s.1 ∙ count)

-- a call that only looks keeps the handle's number and its share
quiet : {T E : Type 0} (start : State) (v w : Known) (answer : Result T (SharedFault E)) (says : State → Result T E → Type 0)
    → Answers start v answer w (λ c r d. says c r × (d ≡ c)) no_place → (own_of w ≡ own_of v) × (w.count ≡ v.count) × (v.front ≤ w.front)
quiet start v w (Ok x) says a = (own v w a.2.5.0 a.2.5.2, a.2.5.1, stays v w a.0 a.1 a.2.2 a.2.4 a.2.3.1)
quiet start v w (Err (shared.World why)) says a = (own v w a.2.5.0 a.2.5.2, a.2.5.1, stays v w a.0 a.1 a.2.2 a.2.4 a.2.3.1)
quiet start v w (Err (shared.WentBack seen)) says a = (ap own_of a.2, ap (λ (k : Known). k.count) a.2, same_front v w a.2)

-- ---- the look

pub due_quiet : (start : State) (ask : Ask) (v w : Known) (answer : Result Act (SharedFault AllocError))
    → Answers start v answer w (λ c r d. IfOk r (λ a. IsDue (facts_of c) (effective_moment c ask.moment) a) × (d ≡ c)) no_place → (own_of w ≡ own_of v) × (w.count ≡ v.count) × (v.front ≤ w.front)
due_quiet start ask v w answer a = quiet start v w answer (λ c r. IfOk r (λ x. IsDue (facts_of c) (effective_moment c ask.moment) x)) a

pub was_due : (start : State) (ask : Ask) (v w : Known) (what : Act) → ask.front ≤ v.front
    → Answers start v (let r : Result Act (SharedFault AllocError) = Ok what in r) w (λ c r d. IfOk r (λ a. IsDue (facts_of c) (effective_moment c ask.moment) a) × (d ≡ c)) no_place
    → WasDue start ask what
was_due start ask v w what seen a = (a.0, since start ask.front v a.0 seen a.2.0 a.2.2, a.2.3.0)

pub was_due_at : (start : State) (ask : Ask) (v w : Known) (what : Act)
    → Answers start v (let r : Result Act (SharedFault AllocError) = Ok what in r) w (λ c r d. IfOk r (λ a. IsDue (facts_of c) (effective_moment c ask.moment) a) × (d ≡ c)) no_place
    → WasDueAt start w.front ask.moment what
was_due_at start ask v w what a = (a.0, a.2.0, sym (a.2.4 ∙ ap entry_count a.2.3.1), a.2.3.0)

-- an act that needs no call
pub looked : (start : State) (ask : Ask) (v w : Known) (done : Advanced) → entries_of done ≡ 0 → IsAdvanced start ask done → IsSeen start ask.moment done w.front → (own_of w ≡ own_of v) × (w.count ≡ v.count) × (v.front ≤ w.front)
    → Attempts start ask v (Ok (Some done)) w
looked start ask v w done none is seen q = record { same = q.0; rises = q.2; says = (is, seen, omega (arith, q.1, none)) }

pub unseen : (start : State) (ask : Ask) (v w : Known) (why : SharedFault AllocError)
    → Answers start v (let r : Result Act (SharedFault AllocError) = Err why in r) w (λ c r d. IfOk r (λ a. IsDue (facts_of c) (effective_moment c ask.moment) a) × (d ≡ c)) no_place
    → Attempts start ask v (Err (of_look why)) w
unseen start ask v w (shared.WentBack seen) a = went_back start ask v w seen a
unseen start ask v w (shared.World why) a = kept start ask v w (Err fault.Memory) a.0 a.1 a.2.2 a.2.3.1 a.2.4 (own v w a.2.5.0 a.2.5.2) (tt, a.2.5.1)

-- ---- begins

begin_late : {A : Type 0} → (begin_fault.MomentTooLarge ≡ begin_fault.Memory) ⊎ A → A
begin_late (inl e) = absurd cc
begin_late (inr a) = a

pub began : (start : State) (ask : Ask) (v w : Known) (element : ℕ) (answer : Result Receipt (SharedFault BeginFault)) → ask.front ≤ v.front → WasDue start ask (act.Begin element)
    → Answers start v answer w (λ c r d. BeginStep c ask.moment element ask.pieces r d) receipt_place → Attempts start ask v (of_begin element answer) w
began start ask v w element (Ok receipt) seen due a =
    let s = since start ask.front v a.0 seen a.2.0 a.2.2 in
    record {
      same = own v w a.2.5.0 a.2.5.4;
      rises = omega (arith, a.2.5.2, a.2.5.3);
      says = ((due, (a.0, a.1, s, a.2.3), logged_after start ask.front a.0 a.1 _ _ receipt a.2.1 s.since a.2.3.1), a.2.5.3, a.2.5.1);
    }
began start ask v w element (Err (shared.WentBack seen)) s due a = went_back start ask v w seen a
began start ask v w element (Err (shared.World why)) seen due a = by why (a.0, a.1, since start ask.front v a.0 seen a.2.0 a.2.2, a.2.3) a
  where
    by : (why : BeginFault) → WasBegun start ask element (Err why)
        → Answers start v (let r : Result Receipt (SharedFault BeginFault) = Err (shared.World why) in r) w (λ c r d. BeginStep c ask.moment element ask.pieces r d) receipt_place
        → Attempts start ask v (of_begin element (Err (shared.World why))) w
    by begin_fault.MomentTooLarge was a = kept start ask v w (Err fault.MomentTooLarge) a.0 a.1 a.2.2 a.2.3.1 a.2.4 (own v w a.2.5.0 a.2.5.2) (inr (was.0, was.2, begin_late was.3.0.0), a.2.5.1)
    by begin_fault.NotWanted was a = kept start ask v w (Ok None) a.0 a.1 a.2.2 a.2.3.1 a.2.4 (own v w a.2.5.0 a.2.5.2) ((act.Begin element, (due, (begin_fault.NotWanted, was, tt))), a.2.5.1)
    by (begin_fault.StillUsed until) was a = kept start ask v w (Ok None) a.0 a.1 a.2.2 a.2.3.1 a.2.4 (own v w a.2.5.0 a.2.5.2) ((act.Begin element, (due, (begin_fault.StillUsed until, was, tt))), a.2.5.1)
    by begin_fault.Begun was a = kept start ask v w (Ok None) a.0 a.1 a.2.2 a.2.3.1 a.2.4 (own v w a.2.5.0 a.2.5.2) ((act.Begin element, (due, (begin_fault.Begun, was, tt))), a.2.5.1)
    by begin_fault.BadCount was a = kept start ask v w (Ok None) a.0 a.1 a.2.2 a.2.3.1 a.2.4 (own v w a.2.5.0 a.2.5.2) ((act.Begin element, (due, (begin_fault.BadCount, was, tt))), a.2.5.1)
    by begin_fault.Memory was a = kept start ask v w (Err fault.Memory) a.0 a.1 a.2.2 a.2.3.1 a.2.4 (own v w a.2.5.0 a.2.5.2) (tt, a.2.5.1)

-- ---- publications

publish_late : {A : Type 0} → (publish_fault.MomentTooLarge ≡ publish_fault.Memory) ⊎ A → A
publish_late (inl e) = absurd cc
publish_late (inr a) = a

pub published : (start : State) (ask : Ask) (v w : Known) (step : List Move) (answer : Result (ℕ × Receipt) (SharedFault PublishFault)) → ask.front ≤ v.front → WasDue start ask (act.Publish step)
    → Answers start v answer w (λ c r d. PublishStep c ask.moment step r d) publish_place → Attempts start ask v (of_publish answer) w
published start ask v w step (Ok done) seen due a =
    let s = since start ask.front v a.0 seen a.2.0 a.2.2 in
    record {
      same = own v w a.2.5.0 a.2.5.4;
      rises = omega (arith, a.2.5.2, a.2.5.3);
      says = ((step, due, (a.0, a.1, s, a.2.3), logged_after start ask.front a.0 a.1 _ _ done.1 a.2.1 s.since a.2.3.2), a.2.5.3, a.2.5.1);
    }
published start ask v w step (Err (shared.WentBack seen)) s due a = went_back start ask v w seen a
published start ask v w step (Err (shared.World why)) seen due a = by why (a.0, a.1, since start ask.front v a.0 seen a.2.0 a.2.2, a.2.3) a
  where
    by : (why : PublishFault) → WasPublished start ask step (Err why)
        → Answers start v (let r : Result (ℕ × Receipt) (SharedFault PublishFault) = Err (shared.World why) in r) w (λ c r d. PublishStep c ask.moment step r d) publish_place
        → Attempts start ask v (of_publish (Err (shared.World why))) w
    by publish_fault.MomentTooLarge was a = kept start ask v w (Err fault.MomentTooLarge) a.0 a.1 a.2.2 a.2.3.1 a.2.4 (own v w a.2.5.0 a.2.5.2) (inr (was.0, was.2, publish_late was.3.0.0), a.2.5.1)
    by (publish_fault.TooEarly first) was a = kept start ask v w (Ok None) a.0 a.1 a.2.2 a.2.3.1 a.2.4 (own v w a.2.5.0 a.2.5.2) ((act.Publish step, (due, (publish_fault.TooEarly first, was, tt))), a.2.5.1)
    by (publish_fault.Step reported) was a = kept start ask v w (Ok None) a.0 a.1 a.2.2 a.2.3.1 a.2.4 (own v w a.2.5.0 a.2.5.2) ((act.Publish step, (due, (publish_fault.Step reported, was, tt))), a.2.5.1)
    by (publish_fault.Unfinished element) was a = kept start ask v w (Ok None) a.0 a.1 a.2.2 a.2.3.1 a.2.4 (own v w a.2.5.0 a.2.5.2) ((act.Publish step, (due, (publish_fault.Unfinished element, was, tt))), a.2.5.1)
    by publish_fault.VersionsSpent was a = kept start ask v w (Err fault.VersionsSpent) a.0 a.1 a.2.2 a.2.3.1 a.2.4 (own v w a.2.5.0 a.2.5.2) ((step, due, was), a.2.5.1)
    by publish_fault.Memory was a = kept start ask v w (Err fault.Memory) a.0 a.1 a.2.2 a.2.3.1 a.2.4 (own v w a.2.5.0 a.2.5.2) (tt, a.2.5.1)

-- ---- pieces

pub was_read : (start : State) (ask : Ask) (v w : Known) (element : ℕ) (found : Option Reading) → ask.front ≤ v.front
    → Answers start v (let r : Result (Option Reading) (SharedFault ReadFault) = Ok found in r) w (λ c r d. NextStep c element ask.limit r × (d ≡ c)) no_place
    → WasLooked start ask element (Ok found)
was_read start ask v w element found seen a = (a.0, a.1, since start ask.front v a.0 seen a.2.0 a.2.2, a.2.3)

pub next_quiet : (start : State) (ask : Ask) (v w : Known) (element : ℕ) (answer : Result (Option Reading) (SharedFault ReadFault))
    → Answers start v answer w (λ c r d. NextStep c element ask.limit r × (d ≡ c)) no_place → (own_of w ≡ own_of v) × (w.count ≡ v.count) × (v.front ≤ w.front)
next_quiet start ask v w element answer a = quiet start v w answer (λ c r. NextStep c element ask.limit r) a

-- no piece was left
pub none_left : (start : State) (ask : Ask) (v w : Known) (element : ℕ) → WasDue start ask (act.Work element) → WasLooked start ask element (Ok None)
    → (own_of w ≡ own_of v) × (w.count ≡ v.count) × (v.front ≤ w.front) → Attempts start ask v (Ok None) w
none_left start ask v w element due was q = record { same = q.0; rises = q.2; says = ((act.Work element, (due, inl was)), q.1) }

pub unread : (start : State) (ask : Ask) (v w : Known) (element : ℕ) (why : SharedFault ReadFault) → ask.front ≤ v.front → WasDue start ask (act.Work element)
    → Answers start v (let r : Result (Option Reading) (SharedFault ReadFault) = Err why in r) w (λ c r d. NextStep c element ask.limit r × (d ≡ c)) no_place
    → Attempts start ask v (of_read why) w
unread start ask v w element (shared.WentBack seen) s due a = went_back start ask v w seen a
unread start ask v w element (shared.World why) seen due a = by why (a.0, a.1, since start ask.front v a.0 seen a.2.0 a.2.2, a.2.3) a
  where
    by : (why : ReadFault) → WasLooked start ask element (Err why)
        → Answers start v (let r : Result (Option Reading) (SharedFault ReadFault) = Err (shared.World why) in r) w (λ c r d. NextStep c element ask.limit r × (d ≡ c)) no_place
        → Attempts start ask v (of_read (shared.World why)) w
    by read_fault.NotWanted was a = kept start ask v w (Ok None) a.0 a.1 a.2.2 a.2.3.1 a.2.4 (own v w a.2.5.0 a.2.5.2) ((act.Work element, (due, inr (inl (read_fault.NotWanted, was, tt)))), a.2.5.1)
    by (read_fault.View view_fault.BadPiece) was a = kept start ask v w (Ok None) a.0 a.1 a.2.2 a.2.3.1 a.2.4 (own v w a.2.5.0 a.2.5.2) ((act.Work element, (due, inr (inl (read_fault.View view_fault.BadPiece, was, tt)))), a.2.5.1)
    by (read_fault.View view_fault.Spent) was a = kept start ask v w (Ok None) a.0 a.1 a.2.2 a.2.3.1 a.2.4 (own v w a.2.5.0 a.2.5.2) ((act.Work element, (due, inr (inl (read_fault.View view_fault.Spent, was, tt)))), a.2.5.1)
    by (read_fault.View view_fault.BadLimit) was a = kept start ask v w (Err fault.Memory) a.0 a.1 a.2.2 a.2.3.1 a.2.4 (own v w a.2.5.0 a.2.5.2) (tt, a.2.5.1)
    by (read_fault.View view_fault.Memory) was a = kept start ask v w (Err fault.Memory) a.0 a.1 a.2.2 a.2.3.1 a.2.4 (own v w a.2.5.0 a.2.5.2) (tt, a.2.5.1)

piece_late : {A : Type 0} → (piece_fault.MomentTooLarge ≡ piece_fault.Memory) ⊎ A → A
piece_late (inl e) = absurd cc
piece_late (inr a) = a

-- what was read was not committed
uncommitted : (start : State) (ask : Ask) (v w : Known) (element : ℕ) (read back : Reading) (why : SharedFault PieceFault) → ask.front ≤ v.front → WasDue start ask (act.Work element) → WasRead start ask element read
    → BackBy {T = PieceDone} start v why back read w (λ c r d. PieceStep c ask.moment read r d) piece_place → Attempts start ask v (of_refusal why) w
uncommitted start ask v w element read back (shared.WentBack seen) s due was_read a = went_back start ask v w seen a.0
uncommitted start ask v w element read back (shared.World why) seen due was_read a = by why (a.0, a.1, since start ask.front v a.0 seen a.2.0 a.2.2, a.2.3) a
  where
    else_first : (why : PieceFault) → WasCommitted start ask read (Err (why, back)) → IsWorkedElse why → (what : Act) × WasOvertaken start ask what
    else_first why was is = (act.Work element, (due, inr (inr (read, why, back, was_read, was, is))))

    by : (why : PieceFault) → WasCommitted start ask read (Err (why, back)) → BackBy {T = PieceDone} start v (shared.World why) back read w (λ c r d. PieceStep c ask.moment read r d) piece_place
        → Attempts start ask v (of_refusal (shared.World why)) w
    by piece_fault.MomentTooLarge was a = kept start ask v w (Err fault.MomentTooLarge) a.0 a.1 a.2.2 a.2.3.0.1 a.2.4 (own v w a.2.5.0 a.2.5.2) (inr (was.0, was.2, piece_late was.3.0.0.0), a.2.5.1)
    by piece_fault.NotWanted was a = kept start ask v w (Ok None) a.0 a.1 a.2.2 a.2.3.0.1 a.2.4 (own v w a.2.5.0 a.2.5.2) (else_first piece_fault.NotWanted was tt, a.2.5.1)
    by piece_fault.WrongElement was a = kept start ask v w (Ok None) a.0 a.1 a.2.2 a.2.3.0.1 a.2.4 (own v w a.2.5.0 a.2.5.2) (else_first piece_fault.WrongElement was tt, a.2.5.1)
    by (piece_fault.Moved cursor) was a = kept start ask v w (Ok None) a.0 a.1 a.2.2 a.2.3.0.1 a.2.4 (own v w a.2.5.0 a.2.5.2) (else_first (piece_fault.Moved cursor) was tt, a.2.5.1)
    by (piece_fault.Conflict key) was a = kept start ask v w (Ok None) a.0 a.1 a.2.2 a.2.3.0.1 a.2.4 (own v w a.2.5.0 a.2.5.2) (else_first (piece_fault.Conflict key) was tt, a.2.5.1)
    by piece_fault.Memory was a = kept start ask v w (Err fault.Memory) a.0 a.1 a.2.2 a.2.3.0.1 a.2.4 (own v w a.2.5.0 a.2.5.2) (tt, a.2.5.1)

pub worked : (start : State) (ask : Ask) (v w : Known) (element : ℕ) (read prepared : Reading) (answer : Result PieceDone (SharedFault PieceFault × Reading)) → ask.front ≤ v.front → WasDue start ask (act.Work element)
    → WasRead start ask element read → prepared ≡ read → AnswersBack start v prepared answer w (λ c r d. PieceStep c ask.moment prepared r d) piece_place → Attempts start ask v (of_commit element answer) w
worked start ask v w element read prepared (Ok done) seen due was is a =
    let s = since start ask.front v a.0 seen a.2.0 a.2.2 in
    record {
      same = own v w a.2.5.0 a.2.5.4;
      rises = omega (arith, a.2.5.2, a.2.5.3);
      says = (
        (
          due,
          (prepared, subst (λ r. WasRead start ask element r) (sym is) was, (a.0, a.1, s, a.2.3)),
          logged_after start ask.front a.0 a.1 _ _ done.receipt a.2.1 s.since a.2.3.2,
        ),
        a.2.5.3,
        a.2.5.1,
      );
    }
worked start ask v w element read prepared (Err refusal) seen due was is a =
    uncommitted start ask v w element prepared refusal.1 refusal.0 seen due (subst (λ r. WasRead start ask element r) (sym is) was) a

-- out of memory for what was read
pub unprepared : (start : State) (ask : Ask) (v w : Known) → w ≡ v → Attempts start ask v (Err fault.Memory) w
unprepared start ask v w is = record { same = ap own_of is; rises = same_front v w is; says = (tt, ap (λ (k : Known). k.count) is) }

-- ---- tries

pub none_overtaken : (start : State) (ask : Ask) → WereOvertaken start ask 0
none_overtaken start ask = ([], refl, All-nil (WasOvertaken start ask))

pub one_more_overtaken : (start : State) (ask : Ask) (times : ℕ) → WereOvertaken start ask times → (what : Act) × WasOvertaken start ask what → WereOvertaken start ask (times + 1)
one_more_overtaken start ask times f t = (f.0 ++ t.0 ∷ [], length_push f.0 t.0 ∙ ap (λ n. n + 1) f.1, All-push (WasOvertaken start ask) f.0 t.0 f.2 t.1)
