use Rattle.std.proofs.Common.{◌∙◌, refl, arith, rules}
use Rattle.reorganise_workers.proofs.Ends.{none_failed, one_more_failed, busy, end_of_one, tells_none}
use Rattle.reorganise_workers.proofs.worker.work_piece.Goals as goal

pub loop-i-init : goal.loop-i-init
loop-i-init g c = (refl, refl, omega arith, λ all. all, omega (arith, c.requires.job.2), none_failed g.L.SharedLedger.start c.args.job.now c.args.piece, c.requires.had, omega arith)

pub loop-i-preserved-in-More : goal.loop-i-preserved-in-More
loop-i-preserved-in-More g c = (
  c.make_attempt.ensures.own ∙ c.loop-i.invariant.0,
  omega (arith, c.make_attempt.ensures.counted, c.loop-i.invariant.1),
  omega (arith, c.make_attempt.ensures.rises, c.loop-i.invariant.2),
  λ all. c.make_attempt.ensures.pieces (c.loop-i.invariant.3 all),
  c.loop-i.invariant.4,
  c.loop-i.invariant.5,
  c.make_attempt.ensures.had,
  omega (arith, c.in-More.ensures.refusals, c.loop-i.invariant.7),
)

pub loop-i-preserved-in-Reread : goal.loop-i-preserved-in-Reread
loop-i-preserved-in-Reread g c = (
  c.make_attempt.ensures.own ∙ c.loop-i.invariant.0,
  omega (arith, c.make_attempt.ensures.counted, c.loop-i.invariant.1),
  omega (arith, c.make_attempt.ensures.rises, c.loop-i.invariant.2),
  λ all. c.make_attempt.ensures.pieces (c.loop-i.invariant.3 all),
  c.loop-i.invariant.4,
  c.loop-i.invariant.5,
  c.make_attempt.ensures.had,
  omega (arith, c.in-Reread.ensures.refusals, c.loop-i.invariant.7),
)

pub returns-then-failed-job-clause-pieces : goal.returns-then-failed-job-clause-pieces
returns-then-failed-job-clause-pieces g c = λ all. c.make_attempt.ensures.pieces (c.loop-i.invariant.3 all)

pub returns-then-failed-job-clause-end : goal.returns-then-failed-job-clause-end
returns-then-failed-job-clause-end g c =
    busy g.L.SharedLedger.start c.args.job.now c.args.piece c.loop-i.failed c.loop-i.invariant.4 c.if-failed-job.true (one_more_failed g.L.SharedLedger.start c.args.job.now c.args.piece c.loop-i.failed c.loop-i.invariant.5 c.in-Again.ensures.attempt)

pub loop-i-preserved : goal.loop-i-preserved
loop-i-preserved g c = (
  c.make_attempt.ensures.own ∙ c.loop-i.invariant.0,
  omega (arith, c.make_attempt.ensures.counted, c.loop-i.invariant.1),
  omega (arith, c.make_attempt.ensures.rises, c.loop-i.invariant.2),
  λ all. c.make_attempt.ensures.pieces (c.loop-i.invariant.3 all),
  grind (arith, c.if-failed-job.false, rules),
  one_more_failed g.L.SharedLedger.start c.args.job.now c.args.piece c.loop-i.failed c.loop-i.invariant.5 c.in-Again.ensures.attempt,
  c.make_attempt.ensures.had,
  omega (arith, c.in-Again.ensures.refusals, c.loop-i.invariant.7),
)

pub returns-in-Ended-clause-pieces : goal.returns-in-Ended-clause-pieces
returns-in-Ended-clause-pieces g c = λ all. c.make_attempt.ensures.pieces (c.loop-i.invariant.3 all)

pub returns-in-Ended-clause-end : goal.returns-in-Ended-clause-end
returns-in-Ended-clause-end g c = end_of_one g.L.SharedLedger.start c.args.job.now c.args.piece c.in-Ended.end c.in-Ended.ensures.attempt

pub returns-in-Ended-clause-tried : goal.returns-in-Ended-clause-tried
returns-in-Ended-clause-tried g c = omega (arith, tells_none g.L.SharedLedger.start c.args.job.now c.args.piece c.in-Ended.end c.in-Ended.ensures.attempt, c.in-Ended.ensures.refusals, c.loop-i.invariant.7)
