-- Why a call may answer the same in worlds that are alike.
use Rattle.std.proofs.Common.{◌≡◌, ◌≢◌, ℕ, ◌+◌, ◌-◌, ◌<◌, ◌≤◌, ◌⊎◌, inl, inr, max, List, [], ◌∷◌, length, Option, Some, None, Result, Ok, Err, refl, sym, ap, subst, ◌∙◌, arith}
use mathlib.Core.Logic.{dite}
use native.Mathlib.Decide.{ℕ_discrete}
use Rattle.collections.specs.Refusal.{IsClear, IsRefusal}
use Rattle.lease.specs.declared.lease.Lease.{Lease}
use Rattle.lease.specs.Timeline.{Timeline, IsHonest, IsInForce, IsUsable, WasNewest, granted_at, earliest, newest as newest_number, max_moment}
use Rattle.row_map.specs.declared.shape.Row.{Row}
use Rattle.row_map.specs.Expect.{Holds, IsConflict}
use Rattle.row_map.specs.Rows.{Pairs}
use Rattle.row_query.specs.declared.fault.QueryFault.{QueryFault}
use Rattle.row_query.specs.declared.fault.QueryFault.TheVariants.{NoTable, NotPublic, WrongType, Memory}
use Rattle.row_query.specs.declared.query.Query.{Query}
use Rattle.row_query.specs.declared.query.Cond.TheVariants.{Key, Equal, Between}
use Rattle.row_query.specs.inner.Checks.{query_check}
use Rattle.row_query.specs.Refused.{Part, Named, Where, PartFault, IsRefused, IsSound}
use Rattle.row_query.proofs.Decides.{Checks, check_refuses, check_passes}
use Rattle.row_write.specs.Made.{PreparedTxn}
use Rattle.schema_version.specs.declared.element.ElementDef.{ElementDef}
use Rattle.schema_version.specs.declared.element.ElementState.{ElementState}
use Rattle.schema_version.specs.declared.element.Work.{Work}
use Rattle.schema_version.specs.declared.step.Move.{Move}
use Rattle.schema_version.specs.declared.step.Move.TheVariants.{Enter, Go, Turn}
use Rattle.std.specs.Option.{option_and_then}
use Rattle.schema_version.specs.Moves.{IsRefused as refuses}
use Rattle.schema_version.specs.Edges.{needed_work, wanted_work}
use Rattle.schema_version.specs.Sound.{IsSoundVersion}
use Rattle.schema_version.specs.Version.{Version, element_at, state_of}
use Rattle.element_state.specs.Consistent.{IsConsistent}
use Rattle.reorganise.specs.declared.read.Reading.{Reading}
use Rattle.reorganise.specs.declared.work.Progress.{Progress}
use Rattle.reorganise.specs.declared.work.Span.{Span}
use Rattle.reorganise.specs.Batches.{expect_of}
use Rattle.replay.specs.declared.entry.Entry.{Entry}
use Rattle.replay.specs.declared.entry.What.{What}
use Rattle.replay.specs.declared.entry.What.TheVariants.{Lease as Granted, Txn, Publish, Begin, Piece}
use Rattle.replay.specs.Kept.{IsKept, FactsAgree, used_before}
use Rattle.replay.specs.Laws.{AreFinished, Needs, IsFinished}
use Rattle.replay.specs.Replay.{Facts, after, version_at, progress_of}
use Rattle.replay.proofs.Agree.{agrees as kept_agrees, counts_still}
use Rattle.replay.proofs.Time.{lease_kept}
use Rattle.checkpoint.specs.Alike.{AnswerAlike}
use Rattle.checkpoint.proofs.Alike.{alike_both_ways}
use Rattle.checkpoint.proofs.Answers.{alike_answer_alike}
use Rattle.world.specs.declared.begin_reorg.BeginFault.{BeginFault}
use Rattle.world.specs.declared.begin_reorg.BeginFault.TheVariants as begin_fault
use Rattle.world.specs.declared.commit.CommitFault.{CommitFault}
use Rattle.world.specs.declared.commit.CommitFault.TheVariants as commit_fault
use Rattle.world.specs.declared.committed.Committed.{Committed}
use Rattle.world.specs.declared.committed.Committed.TheVariants as committed
use Rattle.world.specs.declared.entry.Grant.{Grant}
use Rattle.world.specs.declared.entry.PieceDone.{PieceDone}
use Rattle.world.specs.declared.entry.Receipt.{Receipt}
use Rattle.world.specs.declared.event.Event.{Event}
use Rattle.world.specs.declared.event.Event.TheVariants as event
use Rattle.world.specs.declared.event.Reply.{Reply}
use Rattle.world.specs.declared.event.Reply.TheVariants as reply
use Rattle.world.specs.declared.grant.GrantFault.{GrantFault}
use Rattle.world.specs.declared.piece.PieceFault.{PieceFault}
use Rattle.world.specs.declared.piece.PieceFault.TheVariants as piece_fault
use Rattle.world.specs.declared.publish.PublishFault.{PublishFault}
use Rattle.world.specs.declared.publish.PublishFault.TheVariants as publish_fault
use Rattle.world.specs.declared.query.QueryRefusal.{QueryRefusal}
use Rattle.world.specs.declared.query.QueryRefusal.TheVariants as refusal
use Rattle.world.specs.BeginReorg.{BeginAt, BeginCondition, begin_rank, IsSettled}
use Rattle.world.specs.Calls.{Appends, effective_moment, LeaseAt, CommitAt, CommitCondition, commit_rank}
use Rattle.world.specs.Piece.{PieceAt, PieceCondition, piece_rank, IsPieceOf}
use Rattle.world.specs.Publish.{PublishAt, PublishCondition, publish_rank, max_versions, IsUnfinished, Lacks}
use Rattle.world.specs.Query.{QueryAt, QueryCondition, query_rank, IsFaulty}
use Rattle.world.specs.Run.{Happens, Runs}
use Rattle.world.specs.State.{State, facts_of, effect, entry_count, Agrees, IsReplayed}
use Rattle.checkpoint_laws.specs.Later.{AreAlikeStates, MayAnswer, MayRun, CallsAnswerAlike, RunsAnswerAlike, AlikeBothWays, AlikeStatesAnswerAlike}
use Rattle.checkpoint_laws.proofs.Later.{accepted_go_on, alike_states_answer_alike}

pub both_ways : AlikeBothWays
both_ways one other a = record {
  alike = alike_both_ways (facts_of one) (facts_of other) a.alike;
  counted = sym a.counted;
  replayed = a.also_replayed;
  also_replayed = a.replayed;
}

-- ---- leases

abbrev WasOrNot : List ℕ → ℕ → ℕ → ℕ → Type 0
WasOrNot published version moment now = WasNewest published version moment now ⊎ (¬ (WasNewest published version moment now))

less : (a b : ℕ) → (a ≤ b) ⊎ (b < a)
less a b = dite (ℕ_discrete (a - b) 0) (λ none. inl (omega arith)) (λ some. inr (omega arith))

was_newest_at : (at : ℕ) (rest : List ℕ) (version moment now : ℕ) → WasOrNot rest version moment at → WasOrNot (at ∷ rest) version moment now
was_newest_at at rest version moment now before =
    dite (ℕ_discrete version (length (at ∷ rest)))
    (λ is. within is (less at moment) (less moment now))
    (λ other. older (λ here. other here.0))
  where
    older : ¬ ((version ≡ length (at ∷ rest)) × (at ≤ moment) × (moment ≤ now)) → WasOrNot (at ∷ rest) version moment now
    older none = elim before [
      | inl w ↦ inl (inr w)
      | inr no_older ↦ inr (λ w. elim w [ inl here ↦ none here | inr there ↦ no_older there ])
    ]

    within : version ≡ length (at ∷ rest) → (at ≤ moment) ⊎ (moment < at) → (moment ≤ now) ⊎ (now < moment) → WasOrNot (at ∷ rest) version moment now
    within is (inl from) (inl to) = inl (inl (is, from, to))
    within is (inr below) to = older (λ here. absurd (omega (arith, below, here.1)))
    within is (inl from) (inr above) = older (λ here. absurd (omega (arith, above, here.2)))

was_newest_or_not : (published : List ℕ) (version moment now : ℕ) → WasOrNot published version moment now
was_newest_or_not [] version moment now = inr (λ w. absurd w)
was_newest_or_not (at ∷ rest) version moment now = was_newest_at at rest version moment now (was_newest_or_not rest version moment at)

-- nothing stands against the lease, so it is one of a usable version
usable_if : (line : Timeline) (lease : Lease) (now : ℕ) → ¬ (¬ (IsHonest line now lease)) → ¬ (¬ (IsInForce lease now)) → IsUsable line lease.version now
usable_if line lease now honest force = (lease, refl, is_honest (was_newest_or_not line.published lease.version lease.granted now) (dite (ℕ_discrete lease.until (lease.granted + line.length)) (λ e. inl e) (λ ne. inr ne)), in_force (dite (ℕ_discrete (now + 1 - lease.until) 0) (λ none. inl (omega arith)) (λ some. inr (omega arith))))
  where
    is_honest : WasNewest line.published lease.version lease.granted now ⊎ (¬ (WasNewest line.published lease.version lease.granted now)) → (lease.until ≡ lease.granted + line.length) ⊎ (lease.until ≢ lease.granted + line.length) → IsHonest line now lease
    is_honest (inl in_time) (inl full) = record { in_time = in_time; full = full }
    is_honest (inl in_time) (inr other) = absurd (honest (λ (h : IsHonest line now lease). other h.full))
    is_honest (inr never) full = absurd (honest (λ (h : IsHonest line now lease). never h.in_time))

    in_force : (now + 1 ≤ lease.until) ⊎ (lease.until ≤ now) → IsInForce lease now
    in_force (inl lt) = omega (arith, lt)
    in_force (inr le) = absurd (force (λ (lt : now < lease.until). absurd (omega (arith, lt, le))))

-- ---- refusals

clear : {F : Type 0} (C D : F → Type 0) → ((o : F) → D o → C o) → IsClear C → IsClear D
clear C D from none o d = none o (from o d)

refused : {F : Type 0} (rank : F → ℕ) (C D : F → Type 0) (memory fault : F) → (C fault → D fault) → ((o : F) → rank o < rank fault → D o → C o) → IsRefusal rank C memory fault → IsRefusal rank D memory fault
refused rank C D memory fault to from (inl is, none) = (inl is, λ o lt d. none o lt (from o lt d))
refused rank C D memory fault to from (inr c, none) = (inr (to c), λ o lt d. none o lt (from o lt d))

-- ---- queries

no_memory : (version : Version) (query : Query) → ¬ (IsRefused version query Memory)
no_memory version query (table, at, first) = none first.2 first.4.0
  where
    none : (part : Part) → ¬ (PartFault version query.table table part Memory)
    none (Named c) fault = absurd fault
    none (Where (Key key)) fault = absurd fault
    none (Where (Equal column value)) fault = absurd fault
    none (Where (Between column low high)) fault = absurd fault

-- a query is sound unless it has a fault
sound_unless : (version : Version) → IsSoundVersion version → (query : Query) → ((fault : QueryFault) → ¬ (IsRefused version query fault)) → IsSound version query
sound_unless version sound query none = by (query_check version query) refl
  where
    by : (r : Checks) → r ≡ query_check version query → IsSound version query
    by (Ok tt) is = check_passes version sound query (Ok tt) is
    by (Err fault) is = absurd (none fault (check_refuses version sound query (Err fault) is))

module _ (facts : Facts) (k : IsKept facts) (number now : ℕ) (version : Version) (later : facts.moment ≤ now) (usable : IsUsable facts.line number now) (at : version_at facts number ≡ Some version) where
  sound_usable : IsSoundVersion version
  sound_usable =
      let kept : IsKept (after facts (record { moment = now; what = Granted usable.0 })) = lease_kept facts now usable.0 later k in
      elim (counts_still (after facts (record { moment = now; what = Granted usable.0 })) kept number version usable at) [
        | inl is ↦ subst IsSoundVersion (sym is) kept.sound_before
        | inr is ↦ subst IsSoundVersion (sym is) kept.sound
      ]

-- ---- conditions that read versions and begun reorganisations

module _ (one other : State) (a : AreAlikeStates one other) where
  alike_facts : AnswerAlike (facts_of one) (facts_of other)
  alike_facts = (alike_states_answer_alike one other a).facts

  alike_pairs : other.pairs ≡ one.pairs
  alike_pairs = (alike_states_answer_alike one other a).pairs

  same_element : (number : ℕ) → element_at (facts_of other).newest number ≡ element_at (facts_of one).newest number
  same_element number = ap (λ (v : Version). element_at v number) alike_facts.newest

  same_progress : (number : ℕ) → progress_of (facts_of other).progress number ≡ progress_of (facts_of one).progress number
  same_progress number = ap (λ (ps : List Progress). progress_of ps number) alike_facts.progress

  finished_to : (number : ℕ) (w : Option Work) → IsFinished (facts_of one) number w → IsFinished (facts_of other) number w
  finished_to number None d = tt
  finished_to number (Some work) d = record { progress = d.progress; here = same_progress number ∙ d.here; work_is = d.work_is; ended = d.ended }

  all_finished_to : (step : List Move) → AreFinished (facts_of one) step → AreFinished (facts_of other) step
  all_finished_to step h number to element there at = finished_to number (needed_work element.kind to) (h number to element there (sym (same_element number) ∙ at))

  piece_to : (read : Reading) (span : Span) → IsPieceOf (facts_of one) read span → IsPieceOf (facts_of other) read span
  piece_to read span is = record { progress = is.progress; here = same_progress read.element.number ∙ is.here; own = is.own }

lacks_to : (one other : State) (a : AreAlikeStates one other) (m : Move) (number : ℕ) → Lacks (facts_of one) m number → Lacks (facts_of other) m number
lacks_to one other a (Enter fresh to) number l = absurd l
lacks_to one other a (Turn moving) number l = absurd l
lacks_to one other a (Go moving to) number (is, element, at, lacks) =
    (is, element, same_element one other a moving ∙ at, λ needs. lacks (finished_to other one (both_ways one other a) moving (needed_work element.kind to) needs))

publish_to : (one other : State) → AreAlikeStates one other → (now : ℕ) (step : List Move) (o : PublishFault) → PublishCondition one now step o → PublishCondition other now step o
publish_to one other a now step publish_fault.MomentTooLarge c = c
publish_to one other a now step (publish_fault.TooEarly first) c = subst (λ (l : Timeline). (first ≡ earliest l) × (now < earliest l)) (sym (alike_facts one other a).line) c
publish_to one other a now step (publish_fault.Step fault) c = subst (λ (v : Version). refuses v step fault) (sym (alike_facts one other a).newest) c
publish_to one other a now step (publish_fault.Unfinished element) c = record { earlier = c.earlier; move = c.move; rest = c.rest; split = c.split; lacks = lacks_to one other a c.move element c.lacks; finished = all_finished_to one other a c.earlier c.finished }
publish_to one other a now step publish_fault.VersionsSpent c = subst (λ (l : Timeline). max_versions ≤ newest_number l) (sym (alike_facts one other a).line) c
publish_to one other a now step publish_fault.Memory c = absurd c

begin_to : (one other : State) → AreAlikeStates one other → (now number pieces : ℕ) (o : BeginFault) → BeginCondition one now number pieces o → BeginCondition other now number pieces o
begin_to one other a now number pieces begin_fault.MomentTooLarge c = c
begin_to one other a now number pieces begin_fault.NotWanted c = ap (λ (e : Option ElementDef). option_and_then wanted_work e) (same_element one other a number) ∙ c
begin_to one other a now number pieces (begin_fault.StillUsed until) c =
    let f = alike_facts one other a in (
      c.0 ∙ ap earliest (sym f.line),
      λ settled. c.1 (ap (λ (v : Version). state_of v number) (sym (f.used now)) ∙ settled ∙ ap (λ (v : Version). state_of v number) f.newest),
    )
begin_to one other a now number pieces begin_fault.Begun c = λ none. c (sym (same_progress one other a number) ∙ none)
begin_to one other a now number pieces begin_fault.BadCount c = c
begin_to one other a now number pieces begin_fault.Memory c = absurd c

read_to : (one other : State) → AreAlikeStates one other → (now : ℕ) (read : Reading) (o : PieceFault) → PieceCondition one now read o → PieceCondition other now read o
read_to one other a now read piece_fault.MomentTooLarge c = c
read_to one other a now read piece_fault.NotWanted c = same_progress one other a read.element.number ∙ c
read_to one other a now read piece_fault.WrongElement c = λ span is. c span (piece_to other one (both_ways one other a) read span is)
read_to one other a now read (piece_fault.Moved cursor) (span, is, at, moved) = (span, piece_to one other a read span is, at, moved)
read_to one other a now read (piece_fault.Conflict key) c = subst (λ (ps : Pairs). IsConflict (expect_of read.key_range) ps key) (sym (alike_pairs one other a)) c
read_to one other a now read piece_fault.Memory c = absurd c

-- ---- each call

module _ (one other : State) (a : AreAlikeStates one other) where
  answers : AnswerAlike (facts_of one) (facts_of other)
  answers = (alike_states_answer_alike one other a).facts

  same_pairs : other.pairs ≡ one.pairs
  same_pairs = (alike_states_answer_alike one other a).pairs

  same_moment : (moment : ℕ) → effective_moment other moment ≡ effective_moment one moment
  same_moment moment = ap (max moment) answers.moment

  -- an answer that leaves the world as it was
  stays : (event : Event) (r : Reply) (new : State) → new ≡ one → Happens other event r other → MayAnswer other event r new
  stays event r new same happens = record { left = other; happens = happens; alike = subst (λ (s : State). AreAlikeStates s other) (sym same) a }

  appends : (now : ℕ) (what : What) (receipt : Receipt) (new : State) → Appends one now what receipt new → Appends other now what receipt (effect other receipt.entry) × AreAlikeStates new (effect other receipt.entry)
  appends now what receipt new is =
      let next = accepted_go_on one other new now what receipt a is in (
        record { later = next.0; follows = next.1; entry = is.entry; place = is.place ∙ ap (λ (n : ℕ). n + 1) (sym a.counted); state = refl },
        next.2,
      )

  holds : (expect : _) → Holds expect one.pairs → Holds expect other.pairs
  holds expect h = subst (Holds expect) (sym same_pairs) h

  -- ---- commits

  -- where no condition of a lower number than this one holds in the one
  module _ (now : ℕ) (p : PreparedTxn) (later : (facts_of one).moment ≤ now) (top : ℕ) (none : (o : CommitFault) → commit_rank o < top → ¬ (CommitCondition one now p o)) where
    commit_usable : 3 < top → IsUsable (facts_of one).line p.lease.version now
    commit_usable lt = usable_if (facts_of one).line p.lease now (none commit_fault.BadLease (omega (arith, lt))) (λ not. none (commit_fault.LeaseEnded p.lease.until now) (omega (arith, lt)) (refl, refl, not))

    commit_to : (o : CommitFault) → (o ≡ commit_fault.WrongSchema → 3 < top) → CommitCondition one now p o → CommitCondition other now p o
    commit_to commit_fault.MomentTooLarge lt c = c
    commit_to commit_fault.BadLease lt c = subst (λ (l : Timeline). ¬ (IsHonest l now p.lease)) (sym answers.line) c
    commit_to (commit_fault.LeaseEnded until counted) lt c = c
    commit_to commit_fault.WrongSchema lt c = λ e. c (sym (answers.versions p.lease.version now later (commit_usable (lt refl))) ∙ e)
    commit_to (commit_fault.Conflict key) lt c = subst (λ (ps : Pairs). IsConflict p.expect ps key) (sym same_pairs) c
    commit_to commit_fault.Memory lt c = absurd c

    commit_from : (o : CommitFault) → (o ≡ commit_fault.WrongSchema → 3 < top) → CommitCondition other now p o → CommitCondition one now p o
    commit_from commit_fault.MomentTooLarge lt d = d
    commit_from commit_fault.BadLease lt d = subst (λ (l : Timeline). ¬ (IsHonest l now p.lease)) answers.line d
    commit_from (commit_fault.LeaseEnded until counted) lt d = d
    commit_from commit_fault.WrongSchema lt d = λ e. d (answers.versions p.lease.version now later (commit_usable (lt refl)) ∙ e)
    commit_from (commit_fault.Conflict key) lt d = subst (λ (ps : Pairs). IsConflict p.expect ps key) same_pairs d
    commit_from commit_fault.Memory lt d = absurd d

  wrong_rank : (o : CommitFault) → o ≡ commit_fault.WrongSchema → commit_rank o ≡ 4
  wrong_rank o is = ap commit_rank is

  commit_clear : (now : ℕ) (p : PreparedTxn) → (facts_of one).moment ≤ now → IsClear (CommitCondition one now p) → IsClear (CommitCondition other now p)
  commit_clear now p later none = clear (CommitCondition one now p) (CommitCondition other now p) (λ o d. commit_from now p later 9 (λ f lt. none f) o (λ is. omega arith) d) none

  commit_refused : (now : ℕ) (p : PreparedTxn) (fault : CommitFault) → (facts_of one).moment ≤ now → IsRefusal commit_rank (CommitCondition one now p) commit_fault.Memory fault → IsRefusal commit_rank (CommitCondition other now p) commit_fault.Memory fault
  commit_refused now p fault later why =
      refused commit_rank (CommitCondition one now p) (CommitCondition other now p) commit_fault.Memory fault
      (commit_to now p later (commit_rank fault) why.1 fault (λ is. omega (arith, wrong_rank fault is)))
      (λ o lt d. commit_from now p later (commit_rank fault) why.1 o (λ is. omega (arith, lt, wrong_rank o is)) d) why

  commits : (moment now : ℕ) (p : PreparedTxn) (result : Result Committed (CommitFault × PreparedTxn)) (new : State) → now ≡ effective_moment one moment
      → Happens one (event.Commit moment p) (reply.Commit result) new → MayAnswer other (event.Commit moment p) (reply.Commit result) new
  commits moment now p (Ok (committed.Done receipt)) new is step =
      let n = effective_moment one moment in
      let next = appends n (Txn p.lease p.ops) receipt new step.2 in
      let at : CommitAt other n p (Ok (committed.Done receipt)) (effect other receipt.entry) = (commit_clear n p (omega arith) step.0, answers.outcomes p.ops ∙ step.1, next.0, holds p.expect step.3) in
      record { left = effect other receipt.entry; happens = subst (λ (m : ℕ). CommitAt other m p (Ok (committed.Done receipt)) (effect other receipt.entry)) (sym (same_moment moment)) at; alike = next.1 }
  commits moment now p (Ok (committed.Refused op why)) new is step =
      let n = effective_moment one moment in
      let at : CommitAt other n p (Ok (committed.Refused op why)) other = (commit_clear n p (omega arith) step.0, answers.outcomes p.ops ∙ step.1, refl, holds p.expect step.3) in
      stays (event.Commit moment p) (reply.Commit (Ok (committed.Refused op why))) new step.2 (subst (λ (m : ℕ). CommitAt other m p (Ok (committed.Refused op why)) other) (sym (same_moment moment)) at)
  commits moment now p (Err refusal) new is step =
      let n = effective_moment one moment in
      let at : CommitAt other n p (Err refusal.0) other = (commit_refused n p refusal.0 (omega arith) step.0.0, refl) in
      stays (event.Commit moment p) (reply.Commit (Err refusal)) new step.0.1 (subst (λ (m : ℕ). CommitAt other m p (Err refusal.0) other) (sym (same_moment moment)) at, step.1)

  -- ---- queries

  module _ (now : ℕ) (lease : Lease) (query : Query) (later : (facts_of one).moment ≤ now) (top : ℕ) (none : (o : QueryRefusal) → query_rank o < top → ¬ (QueryCondition one now lease query o)) where
    query_usable : 3 < top → IsUsable (facts_of one).line lease.version now
    query_usable lt = usable_if (facts_of one).line lease now (none refusal.BadLease (omega (arith, lt))) (λ not. none (refusal.LeaseEnded lease.until now) (omega (arith, lt)) (refl, refl, not))

    faulty_to : (fault : QueryFault) → 3 < top → IsFaulty one lease query fault → IsFaulty other lease query fault
    faulty_to fault lt (version, at, why) = (version, answers.versions lease.version now later (query_usable lt) ∙ at, why)

    faulty_from : (fault : QueryFault) → 3 < top → IsFaulty other lease query fault → IsFaulty one lease query fault
    faulty_from fault lt (version, at, why) = (version, sym (answers.versions lease.version now later (query_usable lt)) ∙ at, why)

    query_to : (o : QueryRefusal) → query_rank o ≤ top → QueryCondition one now lease query o → QueryCondition other now lease query o
    query_to refusal.MomentTooLarge le c = c
    query_to refusal.BadLease le c = subst (λ (l : Timeline). ¬ (IsHonest l now lease)) (sym answers.line) c
    query_to (refusal.LeaseEnded until counted) le c = c
    query_to (refusal.Query Memory) le c = absurd c
    query_to (refusal.Query NoTable) le c = faulty_to NoTable (omega (arith, le)) c
    query_to (refusal.Query (NotPublic column)) le c = faulty_to (NotPublic column) (omega (arith, le)) c
    query_to (refusal.Query WrongType) le c = faulty_to WrongType (omega (arith, le)) c

    query_from : (o : QueryRefusal) → query_rank o < top → QueryCondition other now lease query o → QueryCondition one now lease query o
    query_from refusal.MomentTooLarge lt d = d
    query_from refusal.BadLease lt d = subst (λ (l : Timeline). ¬ (IsHonest l now lease)) answers.line d
    query_from (refusal.LeaseEnded until counted) lt d = d
    query_from (refusal.Query Memory) lt d = absurd d
    query_from (refusal.Query NoTable) lt d = faulty_from NoTable (omega (arith, lt)) d
    query_from (refusal.Query (NotPublic column)) lt d = faulty_from (NotPublic column) (omega (arith, lt)) d
    query_from (refusal.Query WrongType) lt d = faulty_from WrongType (omega (arith, lt)) d

  small_rank : (o : QueryRefusal) → query_rank o < 9
  small_rank refusal.MomentTooLarge = omega arith
  small_rank refusal.BadLease = omega arith
  small_rank (refusal.LeaseEnded until counted) = omega arith
  small_rank (refusal.Query Memory) = omega arith
  small_rank (refusal.Query NoTable) = omega arith
  small_rank (refusal.Query (NotPublic column)) = omega arith
  small_rank (refusal.Query WrongType) = omega arith

  no_fault : (now : ℕ) (lease : Lease) (query : Query) (version : Version) → IsClear (QueryCondition one now lease query) → version_at (facts_of one) lease.version ≡ Some version → (fault : QueryFault) → ¬ (IsRefused version query fault)
  no_fault now lease query version none at NoTable why = none (refusal.Query NoTable) (version, at, why)
  no_fault now lease query version none at (NotPublic column) why = none (refusal.Query (NotPublic column)) (version, at, why)
  no_fault now lease query version none at WrongType why = none (refusal.Query WrongType) (version, at, why)
  no_fault now lease query version none at Memory why = no_memory version query why

  query_at : (now : ℕ) (lease : Lease) (query : Query) (result : Result (List Row) QueryRefusal) → (facts_of one).moment ≤ now → QueryAt one now lease query result → QueryAt other now lease query result
  query_at now lease query (Ok found) later (none, (version, at, is)) =
      let usable = query_usable now lease query later 9 (λ o lt. none o) (omega arith) in
      let sound = sound_usable (facts_of one) a.alike.kept lease.version now version later usable at in (
        clear (QueryCondition one now lease query) (QueryCondition other now lease query) (λ o d. query_from now lease query later 9 (λ f lt. none f) o (small_rank o) d) none,
        (
          version,
          answers.versions lease.version now later usable ∙ at,
          is ∙ sym (answers.queries lease.version now version query later usable at (sound_unless version sound query (no_fault now lease query version none at))),
        ),
      )
  query_at now lease query (Err fault) later why =
      refused query_rank (QueryCondition one now lease query) (QueryCondition other now lease query) (refusal.Query Memory) fault
      (query_to now lease query later (query_rank fault) why.1 fault (omega arith))
      (λ o lt d. query_from now lease query later (query_rank fault) why.1 o lt d) why

  queries : (moment : ℕ) (lease : Lease) (query : Query) (result : Result (List Row) QueryRefusal) (new : State) → Happens one (event.Query moment lease query) (reply.Query result) new → MayAnswer other (event.Query moment lease query) (reply.Query result) new
  queries moment lease query result new step =
      stays (event.Query moment lease query) (reply.Query result) new step.1
      (subst (λ (m : ℕ). QueryAt other m lease query result) (sym (same_moment moment)) (query_at (effective_moment one moment) lease query result (omega arith) step.0), refl)

  -- ---- leases

  leases : (moment : ℕ) (result : Result Grant GrantFault) (new : State) → Happens one (event.Lease moment) (reply.Lease result) new → MayAnswer other (event.Lease moment) (reply.Lease result) new
  leases moment (Ok given) new step =
      let n = effective_moment one moment in
      let next = appends n (Granted given.lease) given.receipt new step.3 in
      let at : LeaseAt other n (Ok given) (effect other given.receipt.entry) = (step.0, step.1 ∙ ap (λ (l : Timeline). granted_at l n) (sym answers.line), step.2 ∙ sym answers.newest, next.0) in
      record { left = effect other given.receipt.entry; happens = subst (λ (m : ℕ). LeaseAt other m (Ok given) (effect other given.receipt.entry)) (sym (same_moment moment)) at; alike = next.1 }
  leases moment (Err fault) new step =
      let n = effective_moment one moment in
      stays (event.Lease moment) (reply.Lease (Err fault)) new step.1 (subst (λ (m : ℕ). LeaseAt other m (Err fault) other) (sym (same_moment moment)) (step.0, refl))

  -- ---- publications, begins and pieces

  back : AreAlikeStates other one
  back = both_ways one other a

  publishes : (moment : ℕ) (step : List Move) (result : Result (ℕ × Receipt) PublishFault) (new : State) → Happens one (event.Publish moment step) (reply.Publish result) new → MayAnswer other (event.Publish moment step) (reply.Publish result) new
  publishes moment moves (Ok done) new step =
      let n = effective_moment one moment in
      let next = appends n (Publish moves) done.1 new step.2 in
      let at : PublishAt other n moves (Ok done) (effect other done.1.entry) = (
        clear (PublishCondition one n moves) (PublishCondition other n moves) (publish_to other one back n moves) step.0,
        step.1 ∙ ap (λ (l : Timeline). newest_number l + 1) (sym answers.line),
        next.0,
      ) in
      record { left = effect other done.1.entry; happens = subst (λ (m : ℕ). PublishAt other m moves (Ok done) (effect other done.1.entry)) (sym (same_moment moment)) at; alike = next.1 }
  publishes moment moves (Err fault) new step =
      let n = effective_moment one moment in
      let why = refused publish_rank (PublishCondition one n moves) (PublishCondition other n moves) publish_fault.Memory fault (publish_to one other a n moves fault) (λ o lt d. publish_to other one back n moves o d) step.0 in
      stays (event.Publish moment moves) (reply.Publish (Err fault)) new step.1 (subst (λ (m : ℕ). PublishAt other m moves (Err fault) other) (sym (same_moment moment)) (why, refl))

  begins : (moment number pieces : ℕ) (result : Result Receipt BeginFault) (new : State) → Happens one (event.Begin moment number pieces) (reply.Begin result) new → MayAnswer other (event.Begin moment number pieces) (reply.Begin result) new
  begins moment number pieces (Ok receipt) new step =
      let n = effective_moment one moment in
      let next = appends n (Begin number pieces) receipt new step.1 in
      let at : BeginAt other n number pieces (Ok receipt) (effect other receipt.entry) = (clear (BeginCondition one n number pieces) (BeginCondition other n number pieces) (begin_to other one back n number pieces) step.0, next.0) in
      record { left = effect other receipt.entry; happens = subst (λ (m : ℕ). BeginAt other m number pieces (Ok receipt) (effect other receipt.entry)) (sym (same_moment moment)) at; alike = next.1 }
  begins moment number pieces (Err fault) new step =
      let n = effective_moment one moment in
      let why = refused begin_rank (BeginCondition one n number pieces) (BeginCondition other n number pieces) begin_fault.Memory fault (begin_to one other a n number pieces fault) (λ o lt d. begin_to other one back n number pieces o d) step.0 in
      stays (event.Begin moment number pieces) (reply.Begin (Err fault)) new step.1 (subst (λ (m : ℕ). BeginAt other m number pieces (Err fault) other) (sym (same_moment moment)) (why, refl))

  pieces_move : (moment : ℕ) (read : Reading) (result : Result PieceDone (PieceFault × Reading)) (new : State) → Happens one (event.Piece moment read) (reply.Piece result) new → MayAnswer other (event.Piece moment read) (reply.Piece result) new
  pieces_move moment read (Ok done) new step =
      let n = effective_moment one moment in
      let next = appends n (Piece read.element.number read.piece read.key_range.high) done.receipt new step.2 in
      let at : PieceAt other n read (Ok done) (effect other done.receipt.entry) = (clear (PieceCondition one n read) (PieceCondition other n read) (read_to other one back n read) step.0, step.1, next.0, holds (expect_of read.key_range) step.3) in
      record { left = effect other done.receipt.entry; happens = subst (λ (m : ℕ). PieceAt other m read (Ok done) (effect other done.receipt.entry)) (sym (same_moment moment)) at; alike = next.1 }
  pieces_move moment read (Err fault) new step =
      let n = effective_moment one moment in
      let why = refused piece_rank (PieceCondition one n read) (PieceCondition other n read) piece_fault.Memory fault.0 (read_to one other a n read fault.0) (λ o lt d. read_to other one back n read o d) step.0.0 in
      stays (event.Piece moment read) (reply.Piece (Err fault)) new step.0.1 (subst (λ (m : ℕ). PieceAt other m read (Err fault.0) other) (sym (same_moment moment)) (why, refl), step.1)

-- ---- any call, and any run of calls

pub calls_answer_alike : CallsAnswerAlike
calls_answer_alike one other new (event.Lease moment) (reply.Lease answer) a step = leases one other a moment answer new step
calls_answer_alike one other new (event.Lease moment) (reply.Commit answer) a step = absurd step
calls_answer_alike one other new (event.Lease moment) (reply.Query answer) a step = absurd step
calls_answer_alike one other new (event.Lease moment) (reply.Publish answer) a step = absurd step
calls_answer_alike one other new (event.Lease moment) (reply.Begin answer) a step = absurd step
calls_answer_alike one other new (event.Lease moment) (reply.Piece answer) a step = absurd step
calls_answer_alike one other new (event.Commit moment prepared) (reply.Lease answer) a step = absurd step
calls_answer_alike one other new (event.Commit moment prepared) (reply.Commit answer) a step = commits one other a moment (effective_moment one moment) prepared answer new refl step
calls_answer_alike one other new (event.Commit moment prepared) (reply.Query answer) a step = absurd step
calls_answer_alike one other new (event.Commit moment prepared) (reply.Publish answer) a step = absurd step
calls_answer_alike one other new (event.Commit moment prepared) (reply.Begin answer) a step = absurd step
calls_answer_alike one other new (event.Commit moment prepared) (reply.Piece answer) a step = absurd step
calls_answer_alike one other new (event.Query moment lease query) (reply.Lease answer) a step = absurd step
calls_answer_alike one other new (event.Query moment lease query) (reply.Commit answer) a step = absurd step
calls_answer_alike one other new (event.Query moment lease query) (reply.Query answer) a step = queries one other a moment lease query answer new step
calls_answer_alike one other new (event.Query moment lease query) (reply.Publish answer) a step = absurd step
calls_answer_alike one other new (event.Query moment lease query) (reply.Begin answer) a step = absurd step
calls_answer_alike one other new (event.Query moment lease query) (reply.Piece answer) a step = absurd step
calls_answer_alike one other new (event.Publish moment moves) (reply.Lease answer) a step = absurd step
calls_answer_alike one other new (event.Publish moment moves) (reply.Commit answer) a step = absurd step
calls_answer_alike one other new (event.Publish moment moves) (reply.Query answer) a step = absurd step
calls_answer_alike one other new (event.Publish moment moves) (reply.Publish answer) a step = publishes one other a moment moves answer new step
calls_answer_alike one other new (event.Publish moment moves) (reply.Begin answer) a step = absurd step
calls_answer_alike one other new (event.Publish moment moves) (reply.Piece answer) a step = absurd step
calls_answer_alike one other new (event.Begin moment element pieces) (reply.Lease answer) a step = absurd step
calls_answer_alike one other new (event.Begin moment element pieces) (reply.Commit answer) a step = absurd step
calls_answer_alike one other new (event.Begin moment element pieces) (reply.Query answer) a step = absurd step
calls_answer_alike one other new (event.Begin moment element pieces) (reply.Publish answer) a step = absurd step
calls_answer_alike one other new (event.Begin moment element pieces) (reply.Begin answer) a step = begins one other a moment element pieces answer new step
calls_answer_alike one other new (event.Begin moment element pieces) (reply.Piece answer) a step = absurd step
calls_answer_alike one other new (event.Piece moment read) (reply.Lease answer) a step = absurd step
calls_answer_alike one other new (event.Piece moment read) (reply.Commit answer) a step = absurd step
calls_answer_alike one other new (event.Piece moment read) (reply.Query answer) a step = absurd step
calls_answer_alike one other new (event.Piece moment read) (reply.Publish answer) a step = absurd step
calls_answer_alike one other new (event.Piece moment read) (reply.Begin answer) a step = absurd step
calls_answer_alike one other new (event.Piece moment read) (reply.Piece answer) a step = pieces_move one other a moment read answer new step

agree : (one other : State) → AreAlikeStates one other → Agrees other
agree one other a number version usable at = subst (λ (ps : Pairs). IsConsistent version (facts_of other).rows ps) (sym a.also_replayed) (kept_agrees (facts_of other) a.alike.also number version usable at)

pub runs_answer_alike : RunsAnswerAlike
runs_answer_alike one other new [] [] a is = record { left = other; runs = refl; alike = subst (λ (s : State). AreAlikeStates s other) (sym is) a }
runs_answer_alike one other new (event ∷ events) (reply ∷ replies) a (middle, happens, replayed, agrees, runs) =
    let next = calls_answer_alike one other middle event reply a happens in
    let rest = runs_answer_alike middle next.left new events replies next.alike runs in
    record { left = rest.left; runs = (next.left, next.happens, next.alike.also_replayed, agree middle next.left next.alike, rest.runs); alike = rest.alike }
runs_answer_alike one other new [] (reply ∷ replies) a runs = absurd runs
runs_answer_alike one other new (event ∷ events) [] a runs = absurd runs
