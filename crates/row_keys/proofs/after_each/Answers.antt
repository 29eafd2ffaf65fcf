use Rattle.std.proofs.Common.{arith}
use Rattle.keycode.specs.Code.{escape}
use Rattle.row_keys.proofs.Codes.{next_part, no_part, all_parts}
use Rattle.row_keys.proofs.after_each.Goals as goal

pub returns-in_default : goal.returns-in_default
returns-in_default c = no_part escape c.args.text.now c.args.bytes.now c.loop-byte.rest.now c.loop-byte.byte-index c.loop-byte.invariant 0 c.loop-byte-test.true (rw c.in_default.is at c.after_byte.ensures)

pub loop-byte-preserved : goal.loop-byte-preserved
loop-byte-preserved c = next_part escape c.args.text.now c.args.bytes.now c.loop-byte.rest.now c.loop-byte.byte-index c.loop-byte.invariant 0 c.in-Some.more.now c.loop-byte-test.true (rw c.in-Some.is at c.after_byte.ensures)

pub returns : goal.returns
returns c = all_parts escape c.args.text.now c.args.bytes.now c.loop-byte.rest.now c.loop-byte.byte-index c.loop-byte.invariant (omega (arith, c.loop-byte-test.false))
