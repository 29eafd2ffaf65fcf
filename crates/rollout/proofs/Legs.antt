-- Acts as legs of a course.
use Rattle.std.proofs.Common.{◌≡◌, ℕ, zero, suc, ◌≤◌, List, Ok, refl, sym, subst}
use Rattle.schema_version.specs.declared.step.Move.{Move}
use Rattle.world.specs.BeginReorg.{BeginStep}
use Rattle.world.specs.Calls.{effective_moment}
use Rattle.world.specs.Publish.{PublishStep}
use Rattle.world.specs.declared.entry.Receipt.{Receipt}
use Rattle.world.specs.State.{State, facts_of}
use Rattle.piece_work.specs.WorkOff.{Round, Rounds}
use Rattle.rollout.specs.declared.act.Act.{Act}
use Rattle.rollout.specs.declared.act.Act.TheVariants as act
use Rattle.rollout.specs.declared.advanced.Advanced.TheVariants as advanced
use Rattle.rollout.specs.Course.{Leg, IsCourse}
use Rattle.rollout.specs.Due.{IsDue}
use Rattle.rollout.proofs.Ended.{all_rounds, counted_is, due_as}
use Rattle.rollout.proofs.Stands.{open_next, work_stays}

-- ---- one more

pub no_course : (pieces limit : ℕ) (s : State) (moment : ℕ) → IsCourse pieces limit s moment s moment
no_course pieces limit s moment = (zero, (refl, refl))

one_leg : (pieces limit : ℕ) (old middle new : State) (moment then end : ℕ) → IsCourse pieces limit old moment middle then → Leg pieces limit middle then new end → IsCourse pieces limit old moment new end
one_leg pieces limit old middle new moment then end course leg = (suc course.0, (middle, then, course.1, leg))

-- ---- each act

pub begin_on : (old middle new : State) (moment now number pieces limit : ℕ) (receipt : Receipt) (what : Act) → IsCourse pieces limit old moment middle now → what ≡ act.Begin number → IsDue (facts_of middle) (effective_moment middle now) what → BeginStep middle now number pieces (Ok receipt) new → IsCourse pieces limit old moment new now
begin_on old middle new moment now number pieces limit receipt what course is due at =
    one_leg pieces limit old middle new moment now now course
    (record {
      done = advanced.Began number receipt;
      unfinished = λ e. absurd cc;
      advances = (due_as (facts_of middle) (effective_moment middle now) what (act.Begin number) is due, at);
      end_is = refl;
    })

pub step_on : (old middle new : State) (moment now pieces limit : ℕ) (step : List Move) (done : ℕ × Receipt) (what : Act) → IsCourse pieces limit old moment middle now → what ≡ act.Publish step → IsDue (facts_of middle) (effective_moment middle now) what → PublishStep middle now step (Ok done) new → IsCourse pieces limit old moment new now
step_on old middle new moment now pieces limit step done what course is due at =
    one_leg pieces limit old middle new moment now now course
    (record {
      done = advanced.Published done.0 done.1;
      unfinished = λ e. absurd cc;
      advances = (step, due_as (facts_of middle) (effective_moment middle now) what (act.Publish step) is due, at);
      end_is = refl;
    })

pub wait_on : (old middle : State) (moment now until pieces limit : ℕ) (what : Act) → IsCourse pieces limit old moment middle now → what ≡ act.Wait until → IsDue (facts_of middle) (effective_moment middle now) what → IsCourse pieces limit old moment middle until
wait_on old middle moment now until pieces limit what course is due =
    one_leg pieces limit old middle middle moment now until course
    (record {
      done = advanced.Waiting until;
      unfinished = λ e. absurd cc;
      advances = (due_as (facts_of middle) (effective_moment middle now) what (act.Wait until) is due, refl);
      end_is = refl;
    })

-- ---- the rounds of an element's pieces

-- a piece that is due
round_leg : (old new : State) (now number pieces limit : ℕ) → IsDue (facts_of old) (effective_moment old now) (act.Work number) → Round old number now limit new → Leg pieces limit old now new now
round_leg old new now number pieces limit due t = record {
  done = advanced.Worked number t.done;
  unfinished = λ e. absurd cc;
  advances = (due, record { piece = t.piece; read = t.read; was_read = (t.next, t.read_so); committed = t.committed });
  end_is = refl;
}

-- it is still due after some rounds, if another one follows
still_due : (n : ℕ) (old middle new : State) (now number limit : ℕ) → (facts_of old).moment ≤ now → IsDue (facts_of old) (effective_moment old now) (act.Work number) → Rounds n old number now limit middle → Round middle number now limit new → IsDue (facts_of middle) (effective_moment middle now) (act.Work number)
still_due n old middle new now number limit past due rounds last =
    let w = all_rounds n old middle number now limit rounds in
    let due_now : IsDue (facts_of old) now (act.Work number) = subst (λ (t : ℕ). IsDue (facts_of old) t (act.Work number)) (counted_is old now past) due in
    subst (λ (t : ℕ). IsDue (facts_of middle) t (act.Work number)) (sym (counted_is middle now (w.past past)))
    (work_stays (facts_of old) (facts_of middle) now number w due.0 (open_next old middle now number last.piece w due.0 last.next) due_now)

rounds_legs : (n : ℕ) (old middle new : State) (moment now number pieces limit : ℕ) → IsCourse pieces limit old moment middle now → (facts_of middle).moment ≤ now → IsDue (facts_of middle) (effective_moment middle now) (act.Work number) → Rounds n middle number now limit new → IsCourse pieces limit old moment new now
rounds_legs zero old middle new moment now number pieces limit course past due same = subst (λ (s : State). IsCourse pieces limit old moment s now) (sym same) course
rounds_legs (suc n) old middle new moment now number pieces limit course past due (before, rounds, last) =
    one_leg pieces limit old before new moment now now (rounds_legs n old middle before moment now number pieces limit course past due rounds)
    (round_leg before new now number pieces limit (still_due n middle before new now number limit past due rounds last) last)

pub work_on : (old middle new : State) (moment now number pieces limit : ℕ) (what : Act) → IsCourse pieces limit old moment middle now → (facts_of middle).moment ≤ now → what ≡ act.Work number → IsDue (facts_of middle) (effective_moment middle now) what → (commits : ℕ) × Rounds commits middle number now limit new → IsCourse pieces limit old moment new now
work_on old middle new moment now number pieces limit what course past is due rounds =
    rounds_legs rounds.0 old middle new moment now number pieces limit course past (due_as (facts_of middle) (effective_moment middle now) what (act.Work number) is due) rounds.1
