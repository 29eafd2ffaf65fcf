use Rattle.std.proofs.Common.{◌∙◌, arith}
use Rattle.byte_map.proofs.Numbers.{by_byte, by_length}
use Rattle.byte_map.proofs.words.compare_few.Goals as goal

pub returns-then-x-i : goal.returns-then-x-i
returns-then-x-i c =
    c.by_number.ensures
    ∙ by_byte c.loop-i.i c.args.x.now c.args.y.now c.loop-i.invariant.same (omega (arith, c.loop-i-test.true, c.min-i-end.ensures)) (omega (arith, c.loop-i-test.true, c.min-i-end.ensures)) c.if-x-i.true

pub returns : goal.returns
returns c =
    c.cmp.ensures
    ∙ by_length c.loop-i.i c.args.x.now c.args.y.now (omega (arith, c.loop-i-test.false, c.min-i-end.ensures)) c.loop-i.invariant.same
