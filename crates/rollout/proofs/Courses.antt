-- What advances and courses keep.
use Rattle.std.proofs.Common.{◌≡◌, ℕ, zero, suc, ◌<◌, List, [], ◌∷◌, ◌++◌, refl, sym, ap, subst, ◌∙◌, arith, append_assoc, append-nil}
use Rattle.replay.specs.declared.entry.Entry.{Entry}
use Rattle.replay.specs.declared.entry.What.{What}
use Rattle.replay.specs.declared.entry.What.TheVariants.{Lease as Granted, Txn, Publish, Begin, Piece}
use Rattle.replay.specs.Kept.{IsKept}
use Rattle.replay.specs.Replay.{Facts, after}
use Rattle.world.specs.Calls.{effective_moment, Appends}
use Rattle.world.specs.declared.entry.Receipt.{Receipt}
use Rattle.world.specs.State.{State, facts_of}
use Rattle.rollout.specs.declared.advanced.Advanced.{Advanced}
use Rattle.rollout.specs.declared.advanced.Advanced.TheVariants as advanced
use Rattle.rollout.specs.Advance.{Advances}
use Rattle.rollout.specs.Course.{moment_after, Leg, Legs, Grows, CoursesGrow, Stays, AdvancesStay}
use Rattle.rollout.proofs.CountLemmas.{facts_then}
use Rattle.rollout.proofs.Ended.{one_round, step_way, completed}
use Rattle.rollout.proofs.Way.{same_way, way_on, way_ends}

-- ---- a state grows

grows_here : (s : State) (moment : ℕ) → Grows s moment s moment
grows_here s moment = record { opening = refl; more = []; log = sym (append-nil s.log); later = omega arith; past = λ le. le }

grows_on : (old middle new : State) (moment then end : ℕ) → Grows old moment middle then → Grows middle then new end → Grows old moment new end
grows_on old middle new moment then end first second =
    let a = first.later in
    let b = second.later in
    record {
      opening = second.opening ∙ first.opening;
      more = first.more ++ second.more;
      log = second.log ∙ ap (λ (l : List Entry). l ++ second.more) first.log ∙ append_assoc old.log first.more second.more;
      later = omega (arith, a, b);
      past = λ le. second.past (first.past le);
    }

moment_then : (facts : Facts) (now : ℕ) (what : What) → (after facts (record { moment = now; what = what })).moment ≡ now
moment_then facts now (Granted lease) = refl
moment_then facts now (Txn lease ops) = refl
moment_then facts now (Publish step) = refl
moment_then facts now (Begin element pieces) = refl
moment_then facts now (Piece element piece cursor) = refl

entry_grows : (old new : State) (moment : ℕ) (what : What) (receipt : Receipt) → Appends old (effective_moment old moment) what receipt new → Grows old moment new moment
entry_grows old new moment what receipt a =
    let is = ap (λ (f : Facts). f.moment) (facts_then old new (effective_moment old moment) what receipt a) ∙ moment_then (facts_of old) (effective_moment old moment) what in
    record {
      opening = ap (λ (s : State). s.opening) a.state;
      more = receipt.entry ∷ [];
      log = ap (λ (s : State). s.log) a.state;
      later = omega arith;
      past = λ le. omega (arith, is, le);
    }

-- a wait moves the moment on
wait_grows : (s : State) (moment until : ℕ) → effective_moment s moment < until → Grows s moment s until
wait_grows s moment until lt = record { opening = refl; more = []; log = sym (append-nil s.log); later = omega (arith, lt); past = λ le. omega (arith, lt, le) }

advance_grows : (old new : State) (moment pieces limit : ℕ) (done : Advanced) → Advances old moment pieces limit done new → Grows old moment new (moment_after moment done)
advance_grows old new moment pieces limit (advanced.Began number receipt) (due, at) = entry_grows old new moment (Begin number pieces) receipt at.1
advance_grows old new moment pieces limit (advanced.Published version receipt) (step, due, at) = entry_grows old new moment (Publish step) receipt at.2
advance_grows old new moment pieces limit (advanced.Worked number done) (due, w) = entry_grows old new moment (Piece w.read.element.number w.read.piece w.read.key_range.high) done.receipt w.committed.2
advance_grows old new moment pieces limit (advanced.Waiting until) (due, same) = subst (λ (s : State). Grows old moment s until) (sym same) (wait_grows old moment until due.0.1)
advance_grows old new moment pieces limit advanced.Finished (due, same) = subst (λ (s : State). Grows old moment s moment) (sym same) (grows_here old moment)

leg_grows : (old new : State) (moment pieces limit end : ℕ) → Leg pieces limit old moment new end → Grows old moment new end
leg_grows old new moment pieces limit end leg = subst (λ (t : ℕ). Grows old moment new t) (sym leg.end_is) (advance_grows old new moment pieces limit leg.done leg.advances)

legs_grow : (n : ℕ) (old new : State) (moment pieces limit end : ℕ) → Legs n pieces limit old moment new end → Grows old moment new end
legs_grow zero old new moment pieces limit end (same, at) =
    subst (λ (s : State). Grows old moment s end) (sym same) (subst (λ (t : ℕ). Grows old moment old t) (sym at) (grows_here old moment))
legs_grow (suc n) old new moment pieces limit end (middle, then, legs, leg) =
    grows_on old middle new moment then end (legs_grow n old middle moment pieces limit then legs) (leg_grows middle new then pieces limit end leg)

pub courses_grow : CoursesGrow
courses_grow old new moment pieces limit end course = legs_grow course.0 old new moment pieces limit end course.1

-- ---- each element stays on its way

stays_here : (facts : Facts) → Stays facts facts
stays_here facts = record { way = same_way facts facts refl; rows = refl }

one_stays : (old new : State) (moment pieces limit : ℕ) (done : Advanced) → IsKept (facts_of old) → Advances old moment pieces limit done new → Stays (facts_of old) (facts_of new)
one_stays old new moment pieces limit (advanced.Began number receipt) kept (due, at) =
    subst (Stays (facts_of old)) (sym (facts_then old new (effective_moment old moment) (Begin number pieces) receipt at.1))
    (record { way = same_way (facts_of old) (after (facts_of old) (record { moment = effective_moment old moment; what = Begin number pieces })) refl; rows = refl })
one_stays old new moment pieces limit (advanced.Published version receipt) kept (step, due, at) =
    subst (Stays (facts_of old)) (sym (facts_then old new (effective_moment old moment) (Publish step) receipt at.2))
    (record { way = step_way (facts_of old) (effective_moment old moment) kept step due.0.1 due.0.2; rows = refl })
one_stays old new moment pieces limit (advanced.Worked number done) kept (due, w) =
    let r = one_round old new number moment limit (record {
      piece = w.piece;
      next = w.was_read.0;
      read = w.read;
      read_so = w.was_read.1;
      done = done;
      committed = w.committed;
    }) in
    record { way = same_way (facts_of old) (facts_of new) r.newest; rows = r.rows }
one_stays old new moment pieces limit (advanced.Waiting until) kept (due, same) = subst (λ (s : State). Stays (facts_of old) (facts_of s)) (sym same) (stays_here (facts_of old))
one_stays old new moment pieces limit advanced.Finished kept (due, same) = subst (λ (s : State). Stays (facts_of old) (facts_of s)) (sym same) (stays_here (facts_of old))

pub advances_stay : AdvancesStay
advances_stay = record {
  one = one_stays;
  more = λ old middle new first second. record { way = way_on old middle new first.way second.way; rows = second.rows ∙ first.rows };
  finished = λ old new moment pieces limit kept stays done. completed old (facts_of new) kept done.0.0 (way_ends old (facts_of new) stays.way);
}
