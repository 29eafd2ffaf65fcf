use Rattle.std.proofs.Common.{refl, arith}
use Rattle.shared_rollout.proofs.Attempts.{none_overtaken, one_more_overtaken}
use Rattle.shared_rollout.proofs.Acts.{busy, done_at_last, none_done, refused_at_last, still_later, still_same, too_late}
use Rattle.shared_rollout.proofs.advanced.do_act.Goals as goal

pub returns-then-ask-gt-MAX_MOMENT : goal.returns-then-ask-gt-MAX_MOMENT
returns-then-ask-gt-MAX_MOMENT g c = too_late g.L.SharedLedger.start c.args.ask.now c.args.me.now c.args.me.now refl c.if-ask-gt-MAX_MOMENT.true

pub loop-failed-init : goal.loop-failed-init
loop-failed-init g c = (still_same c.args.me.now c.args.me.now refl, omega arith, none_overtaken g.L.SharedLedger.start c.args.ask.now)

pub returns-in-Ok-Some : goal.returns-in-Ok-Some
returns-in-Ok-Some g c = done_at_last g.L.SharedLedger.start c.args.ask.now c.args.me.now c.loop-failed.me c.attempt_act.new.me c.in-Ok-Some.field-0 c.in-Ok-Some.done c.in-Ok-Some.field-0-is c.loop-failed.invariant.0 c.in-Ok-Some.ensures

pub loop-failed-preserved : goal.loop-failed-preserved
loop-failed-preserved g c =
    let a = none_done g.L.SharedLedger.start c.args.ask.now c.loop-failed.me c.attempt_act.new.me c.in-Ok-None.field-0 c.in-Ok-None.field-0-is c.in-Ok-None.ensures in (
      still_later g.L.SharedLedger.start c.args.ask.now c.args.me.now c.loop-failed.me c.attempt_act.new.me c.loop-failed.invariant.0 a,
      omega (arith, c.loop-failed-test.true),
      one_more_overtaken g.L.SharedLedger.start c.args.ask.now c.loop-failed.failed c.loop-failed.invariant.2 a.says.0,
    )

pub returns-in-Err : goal.returns-in-Err
returns-in-Err g c = refused_at_last g.L.SharedLedger.start c.args.ask.now c.args.me.now c.loop-failed.me c.attempt_act.new.me c.in-Err.fault c.loop-failed.invariant.0 c.in-Err.ensures

pub returns : goal.returns
returns g c = busy g.L.SharedLedger.start c.args.ask.now c.args.me.now c.loop-failed.me c.loop-failed.failed c.loop-failed.invariant.0 c.loop-failed.invariant.1 c.loop-failed-test.false c.loop-failed.invariant.2
