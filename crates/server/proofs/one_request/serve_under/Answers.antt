use Rattle.std.proofs.Common.{◌≡◌, ℕ, ◌∙◌, refl, subst, arith}
use Rattle.server.specs.Outcomes.{FailedSoOften}
use Rattle.server.proofs.Ends.{one_more_failed, none_holds_none, one_more_retry, try_ended, try_failed}
use Rattle.server.proofs.one_request.serve_under.Goals as goal

pub returns-in-Some-clause-own : goal.returns-in-Some-clause-own
returns-in-Some-clause-own g c f m requests at among held =
    try_ended (g.P.Port.may f m) requests c.args.request.now.moment c.args.tries c.args.request.now.ops c.try_once-outcome.result.0 c.in-Some.outcome c.in-Some.is
    (c.try_once-outcome.ensures.own f m c.args.tries requests (omega (arith, at.0, c.loop-i.invariant.rises), c.loop-i.invariant.stays m at.1) among (c.loop-i.invariant.held f m requests at among held))

pub returns-in-Some-clause-held : goal.returns-in-Some-clause-held
returns-in-Some-clause-held g c f m requests at among held =
    c.try_once-outcome.ensures.held f m requests (omega (arith, at.0, c.loop-i.invariant.rises), c.loop-i.invariant.stays m at.1) among (c.loop-i.invariant.held f m requests at among held)

pub returns-in-Some-clause-kept_receipts : goal.returns-in-Some-clause-kept_receipts
returns-in-Some-clause-kept_receipts g c f m at all =
    c.try_once-outcome.ensures.kept_receipts f m (omega (arith, at.0, c.loop-i.invariant.rises), c.loop-i.invariant.stays m at.1) (c.loop-i.invariant.kept_receipts f m at all)

pub loop-i-preserved : goal.loop-i-preserved
loop-i-preserved g c =
    record {
      retries = omega (arith, c.loop-i.invariant.retries, c.try_once-outcome.ensures.retries, one_more_retry (g.P.Port.tally c.loop-i.port).retries c.try_once-outcome.result.0 c.in_default.is);
      held = λ f m requests at among held. c.try_once-outcome.ensures.held f m requests (omega (arith, at.0, c.loop-i.invariant.rises), c.loop-i.invariant.stays m at.1) among (c.loop-i.invariant.held f m requests at among held);
      failed = λ f m requests at among held. one_more_failed (g.P.Port.may f m) c.args.request.now.moment c.args.request.now.ops c.loop-i._i (c.loop-i.invariant.failed f m requests at among held)
          (try_failed (g.P.Port.may f m) requests c.args.request.now.moment c.args.tries c.args.request.now.ops c.try_once-outcome.result.0 c.in_default.is
          (c.try_once-outcome.ensures.own f m c.args.tries requests (omega (arith, at.0, c.loop-i.invariant.rises), c.loop-i.invariant.stays m at.1) among (c.loop-i.invariant.held f m requests at among held)));
      none = λ first in_force. absurd (omega (arith, first));
      rises = omega (arith, c.loop-i.invariant.rises, c.try_once-outcome.ensures.rises);
      stays = λ m has. c.try_once-outcome.ensures.stays m (c.loop-i.invariant.stays m has);
      counted = omega (arith, c.loop-i.invariant.counted, c.try_once-outcome.ensures.counted, none_holds_none c.try_once-outcome.result.0 c.in_default.is);
      refusals = omega (arith, c.loop-i.invariant.refusals, c.try_once-outcome.ensures.refusals);
      own_handle = c.try_once-outcome.ensures.own_handle ∙ c.loop-i.invariant.own_handle;
      kept_receipts = λ f m at all. c.try_once-outcome.ensures.kept_receipts f m (omega (arith, at.0, c.loop-i.invariant.rises), c.loop-i.invariant.stays m at.1) (c.loop-i.invariant.kept_receipts f m at all);
    }

pub returns-clause-own : goal.returns-clause-own
returns-clause-own g c f m requests at among held =
    let all : c.loop-i._i ≡ c.args.tries = omega arith in
    (refl, subst (λ (n : ℕ). FailedSoOften (g.P.Port.may f m) c.args.request.now.moment c.args.request.now.ops n) all (c.loop-i.invariant.failed f m requests at among held))
