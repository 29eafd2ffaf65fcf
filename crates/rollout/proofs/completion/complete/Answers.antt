use Rattle.std.proofs.Common.{◌∙◌, Err, ap, sym, subst, arith}
use Rattle.std.proofs.lemmas.Result.{err_from_is_err_and}
use Rattle.world.specs.Calls.{effective_moment}
use Rattle.world.specs.State.{State, facts_of}
use Rattle.rollout.specs.Course.{IsCourse}
use Rattle.rollout.specs.Due.{IsDue}
use Rattle.rollout.proofs.Carried.{IsCarried, begin_next, step_next, work_next, wait_next, some_rounds, complete_step, memory_step, refused_step, nothing_step}
use Rattle.rollout.proofs.Legs.{begin_on, step_on, wait_on, work_on}
use Rattle.rollout.proofs.completion.complete.Goals as goal

pub returns-then-now-gt-MAX_MOMENT : goal.returns-then-now-gt-MAX_MOMENT
returns-then-now-gt-MAX_MOMENT c = record {
  step = complete_step c.args.world.now c.acts.world c.args.moment c.acts.now c.args.pieces c.args.limit _ c.acts.invariant.course c.acts.invariant.carried
      (c.are_counts.ensures.0 c.if-not-are_counts.false, omega (arith, c.if-now-gt-MAX_MOMENT.true), c.acts.invariant.late (omega (arith, c.if-now-gt-MAX_MOMENT.true)));
}

pub returns-in_err-element : goal.returns-in_err-element
returns-in_err-element c =
    let p = err_from_is_err_and c.from_residual.result c.from_residual.ensures.1 in
    record {
      step = memory_step c.args.world.now c.acts.world c.args.moment c.acts.now c.args.pieces c.args.limit c.from_residual.result c.acts.invariant.course c.acts.invariant.carried
          (c.are_counts.ensures.0 c.if-not-are_counts.false) (omega (arith, c.if-now-gt-MAX_MOMENT.false)) (p.1 ∙ ap Err p.2);
    }

pub returns-in_err-begin-in-Begin : goal.returns-in_err-begin-in-Begin
returns-in_err-begin-in-Begin c =
    let p = err_from_is_err_and c.from_residual-in_err-begin-in-Begin.result c.from_residual-in_err-begin-in-Begin.ensures.1 in
    record {
      step = memory_step c.args.world.now c.begin.new.world c.args.moment c.acts.now c.args.pieces c.args.limit c.from_residual-in_err-begin-in-Begin.result
          (subst (λ (s : State). IsCourse c.args.pieces c.args.limit c.args.world.now (effective_moment c.args.world.now c.args.moment) s c.acts.now) (sym c.in_err-begin-in-Begin.ensures.same) c.acts.invariant.course)
          (subst (IsCarried c.args.pieces c.args.limit c.args.world.now) (sym c.in_err-begin-in-Begin.ensures.same) c.acts.invariant.carried)
          (c.are_counts.ensures.0 c.if-not-are_counts.false) (omega (arith, c.if-now-gt-MAX_MOMENT.false)) (p.1 ∙ ap Err p.2);
    }

pub acts-smaller-in-Begin : goal.acts-smaller-in-Begin
acts-smaller-in-Begin c =
    (begin_next c.args.world.now c.acts.world c.begin.new.world c.acts.now c.in-Begin.element c.args.pieces c.args.limit c.in_ok-begin-in-Begin.field-0 c.in_ok-element.field-0 (c.are_counts.ensures.0 c.if-not-are_counts.false) c.acts.invariant.carried c.lemma_agrees.ensures.kept c.acts.invariant.past c.in-Begin.is c.in_ok-element.ensures.due c.in_ok-begin-in-Begin.ensures.step).lower

pub acts-preserved-in-Begin : goal.acts-preserved-in-Begin
acts-preserved-in-Begin c =
    let r = begin_next c.args.world.now c.acts.world c.begin.new.world c.acts.now c.in-Begin.element c.args.pieces c.args.limit c.in_ok-begin-in-Begin.field-0 c.in_ok-element.field-0 (c.are_counts.ensures.0 c.if-not-are_counts.false) c.acts.invariant.carried c.lemma_agrees.ensures.kept c.acts.invariant.past c.in-Begin.is c.in_ok-element.ensures.due c.in_ok-begin-in-Begin.ensures.step in
    record { course = begin_on c.args.world.now c.acts.world c.begin.new.world (effective_moment c.args.world.now c.args.moment) c.acts.now c.in-Begin.element c.args.pieces c.args.limit c.in_ok-begin-in-Begin.field-0 c.in_ok-element.field-0 c.acts.invariant.course c.in-Begin.is c.in_ok-element.ensures.due c.in_ok-begin-in-Begin.ensures.step; carried = r.carried; past = r.past; since = c.acts.invariant.since; late = λ lt. absurd (omega (arith, lt, c.if-now-gt-MAX_MOMENT.false)) }

pub returns-in_err-publish-in-Publish : goal.returns-in_err-publish-in-Publish
returns-in_err-publish-in-Publish c =
    let p = err_from_is_err_and c.from_residual-in_err-publish-in-Publish.result c.from_residual-in_err-publish-in-Publish.ensures.1 in
    record {
      step = refused_step c.args.world.now c.acts.world c.publish.new.world c.args.moment c.acts.now c.args.pieces c.args.limit c.in_err-publish-in-Publish.field-0.0 c.from_residual-in_err-publish-in-Publish.result c.acts.invariant.course c.acts.invariant.carried c.in_err-publish-in-Publish.ensures.same
          (c.are_counts.ensures.0 c.if-not-are_counts.false) (omega (arith, c.if-now-gt-MAX_MOMENT.false)) (c.in-Publish.step, subst (IsDue (facts_of c.acts.world) (effective_moment c.acts.world c.acts.now)) c.in-Publish.is c.in_ok-element.ensures.due) c.in_err-publish-in-Publish.ensures.refused (p.1 ∙ ap Err p.2);
    }

pub acts-smaller-in-Publish : goal.acts-smaller-in-Publish
acts-smaller-in-Publish c =
    (step_next c.args.world.now c.acts.world c.publish.new.world c.acts.now c.args.pieces c.args.limit c.in-Publish.step c.in_ok-publish-in-Publish.field-0 c.in_ok-element.field-0 c.acts.invariant.carried c.lemma_agrees.ensures.kept c.acts.invariant.past c.in-Publish.is c.in_ok-element.ensures.due c.in_ok-publish-in-Publish.ensures.step).lower

pub acts-preserved-in-Publish : goal.acts-preserved-in-Publish
acts-preserved-in-Publish c =
    let r = step_next c.args.world.now c.acts.world c.publish.new.world c.acts.now c.args.pieces c.args.limit c.in-Publish.step c.in_ok-publish-in-Publish.field-0 c.in_ok-element.field-0 c.acts.invariant.carried c.lemma_agrees.ensures.kept c.acts.invariant.past c.in-Publish.is c.in_ok-element.ensures.due c.in_ok-publish-in-Publish.ensures.step in
    record { course = step_on c.args.world.now c.acts.world c.publish.new.world (effective_moment c.args.world.now c.args.moment) c.acts.now c.args.pieces c.args.limit c.in-Publish.step c.in_ok-publish-in-Publish.field-0 c.in_ok-element.field-0 c.acts.invariant.course c.in-Publish.is c.in_ok-element.ensures.due c.in_ok-publish-in-Publish.ensures.step; carried = r.carried; past = r.past; since = c.acts.invariant.since; late = λ lt. absurd (omega (arith, lt, c.if-now-gt-MAX_MOMENT.false)) }

pub acts-smaller-in-Continue-branch-5 : goal.acts-smaller-in-Continue-branch-5
acts-smaller-in-Continue-branch-5 c =
    (work_next c.args.world.now c.acts.world c.work_all.new.world c.acts.now c.in-Work.element c.args.pieces c.args.limit c.in_ok-element.field-0 c.acts.invariant.carried c.lemma_agrees.ensures.kept c.lemma_agrees.ensures.replayed c.acts.invariant.past c.in-Work.is c.in_ok-element.ensures.due c.in_ok-work_all-in-Work.ensures.rounds c.in_ok-work_all-in-Work.ensures.ended).lower

pub acts-preserved-in-Continue-branch-5 : goal.acts-preserved-in-Continue-branch-5
acts-preserved-in-Continue-branch-5 c =
    let r = work_next c.args.world.now c.acts.world c.work_all.new.world c.acts.now c.in-Work.element c.args.pieces c.args.limit c.in_ok-element.field-0 c.acts.invariant.carried c.lemma_agrees.ensures.kept c.lemma_agrees.ensures.replayed c.acts.invariant.past c.in-Work.is c.in_ok-element.ensures.due c.in_ok-work_all-in-Work.ensures.rounds c.in_ok-work_all-in-Work.ensures.ended in
    record { course = work_on c.args.world.now c.acts.world c.work_all.new.world (effective_moment c.args.world.now c.args.moment) c.acts.now c.in-Work.element c.args.pieces c.args.limit c.in_ok-element.field-0 c.acts.invariant.course c.acts.invariant.past c.in-Work.is c.in_ok-element.ensures.due c.in_ok-work_all-in-Work.ensures.rounds; carried = r.carried; past = r.past; since = c.acts.invariant.since; late = λ lt. absurd (omega (arith, lt, c.if-now-gt-MAX_MOMENT.false)) }

pub returns-in_err-work_all-in-Work : goal.returns-in_err-work_all-in-Work
returns-in_err-work_all-in-Work c =
    let p = err_from_is_err_and c.from_residual-in_err-work_all-in-Work.result c.from_residual-in_err-work_all-in-Work.ensures.1 in
    record {
      step = memory_step c.args.world.now c.work_all.new.world c.args.moment c.acts.now c.args.pieces c.args.limit c.from_residual-in_err-work_all-in-Work.result
          (work_on c.args.world.now c.acts.world c.work_all.new.world (effective_moment c.args.world.now c.args.moment) c.acts.now c.in-Work.element c.args.pieces c.args.limit c.in_ok-element.field-0 c.acts.invariant.course c.acts.invariant.past c.in-Work.is c.in_ok-element.ensures.due c.in_err-work_all-in-Work.ensures.rounds)
          (some_rounds c.args.world.now c.acts.world c.work_all.new.world c.acts.now c.in-Work.element c.args.pieces c.args.limit c.acts.invariant.carried c.lemma_agrees.ensures.kept c.lemma_agrees.ensures.replayed c.in_err-work_all-in-Work.ensures.rounds)
          (c.are_counts.ensures.0 c.if-not-are_counts.false) (omega (arith, c.if-now-gt-MAX_MOMENT.false)) (p.1 ∙ ap Err p.2);
    }

pub acts-preserved : goal.acts-preserved
acts-preserved c =
    let w = wait_next c.args.world.now c.acts.world c.args.moment c.acts.now c.in-Wait.until c.in_ok-element.field-0 c.in-Wait.is c.in_ok-element.ensures.due in
    let later = w.0 in
    record {
      course = wait_on c.args.world.now c.acts.world (effective_moment c.args.world.now c.args.moment) c.acts.now c.in-Wait.until c.args.pieces c.args.limit c.in_ok-element.field-0 c.acts.invariant.course c.in-Wait.is c.in_ok-element.ensures.due;
      carried = c.acts.invariant.carried;
      past = omega (arith, later, c.acts.invariant.past);
      since = omega (arith, later, c.acts.invariant.since);
      late = w.1;
    }

pub returns-in-Nothing : goal.returns-in-Nothing
returns-in-Nothing c = record {
  step = nothing_step c.args.world.now c.acts.world c.args.moment c.args.pieces c.args.limit c.acts.now c.in_ok-element.field-0 c.acts.invariant.course c.acts.invariant.carried
      (c.are_counts.ensures.0 c.if-not-are_counts.false) c.lemma_agrees.ensures.kept c.in-Nothing.is c.in_ok-element.ensures.due c.acts.invariant.since c.acts.invariant.past (omega (arith, c.if-now-gt-MAX_MOMENT.false));
}
