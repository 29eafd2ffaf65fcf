use Rattle.std.proofs.Common.{◌-◌, arith}
use Rattle.script_replies.proofs.Uses.{some_version, one_usable, two_usable}
use Rattle.piece_work.specs.State.{facts_of}
use Rattle.script_replies.proofs.usable.usable_versions.Goals as goal

pub overflow_sub-before : goal.overflow_sub-before
overflow_sub-before c = omega (arith, some_version c.timeline-line.result.now c.timeline-line.ensures.valid, c.newest-newest.ensures.value)

pub returns-then-usable : goal.returns-then-usable
returns-then-usable c =
    two_usable (facts_of c.args.world.now) c.timeline-line.result.now (c.newest-newest.result - 1) c.newest-newest.result c.moment-now.result c.in_ok-vec.field-0.items
    c.timeline-line.ensures.value c.moment-now.ensures c.timeline-line.ensures.valid (omega (arith, c.timeline-line.ensures.past, c.moment-now.ensures)) c.newest-newest.ensures.value
    (omega (arith, some_version c.timeline-line.result.now c.timeline-line.ensures.valid, c.newest-newest.ensures.value)) (c.usable.ensures.0 c.if-usable.true) c.in_ok-vec.ensures.items

pub returns : goal.returns
returns c =
    one_usable (facts_of c.args.world.now) c.timeline-line.result.now (c.newest-newest.result - 1) c.newest-newest.result c.moment-now.result c.in_ok-vec-2.field-0.items
    c.timeline-line.ensures.value c.moment-now.ensures c.timeline-line.ensures.valid (omega (arith, c.timeline-line.ensures.past, c.moment-now.ensures)) c.newest-newest.ensures.value
    (omega (arith, some_version c.timeline-line.result.now c.timeline-line.ensures.valid, c.newest-newest.ensures.value)) (λ used. absurd (cc (c.if-usable.ensures.1 used))) c.in_ok-vec-2.ensures.items
