use Rattle.std.proofs.Common.{ℕ, ◌≡◌, ◌<◌, ◌∙◌, ap, subst, max, arith}
use Rattle.lease.specs.Timeline.{earliest}
use Rattle.world.specs.State.{facts_of}
use Rattle.world.specs.Calls.{effective_moment}
use Rattle.rollout.specs.declared.act.Act.TheVariants.{Wait}
use Rattle.rollout.specs.Due.{IsDue, MayBegin, AreMovesNow}
use Rattle.rollout.proofs.Searches.{no_moves, wait_due}
use Rattle.rollout.proofs.act.due.Goals as goal

pub returns-then-is_under_way-clause-due : goal.returns-then-is_under_way-clause-due
returns-then-is_under_way-clause-due c =
    let facts = facts_of c.args.world.now in
    let now_is : c.max-now.result ≡ effective_moment c.args.world.now c.args.moment = c.max-now.ensures ∙ ap (max c.args.moment) c.moment.ensures in
    let none = subst (AreMovesNow facts c.max-now.result) (no_moves c.in_ok-step.step (omega (arith, c.len.ensures, c.if-len-gt0.false))) c.in_ok-step.ensures in
    subst (λ (n : ℕ). IsDue facts n (Wait c.earliest.result)) now_is
    (wait_due facts c.max-now.result c.in_default.ensures none c.in_default-find_open.ensures c.lemma_agrees.ensures.kept c.earliest.result (c.earliest.ensures ∙ ap earliest c.timeline.ensures.value) (c.is_under_way.ensures.0 c.if-is_under_way.true))

pub returns-in-Some-clause-first : goal.returns-in-Some-clause-first
returns-in-Some-clause-first c =
    let facts = facts_of c.args.world.now in
    let now_is : c.max-now.result ≡ effective_moment c.args.world.now c.args.moment = c.max-now.ensures ∙ ap (max c.args.moment) c.moment.ensures in
    subst (λ (n : ℕ). (other : ℕ) → other < c.in-Some.element → ¬ (MayBegin facts n other)) now_is c.in-Some.ensures.1
