use Rattle.std.proofs.Common.{subst, Some, None, arith}
use Rattle.row_keys.specs.inner.After.{IsAfter}
use Rattle.keycode.specs.Code.{code}
use Rattle.row_keys.proofs.Codes.{next_part, no_part, all_parts}
use Rattle.row_keys.proofs.after_values.Goals as goal

pub returns-in_default : goal.returns-in_default
returns-in_default c = no_part code c.args.values.now c.args.bytes.now c.loop-value.rest.now c.loop-value.value-index c.loop-value.invariant c.value-item.result c.loop-value-test.true (subst (λ v. IsAfter (code v) c.loop-value.rest.now None) c.value-item.is (rw c.in_default.is at c.after_value.ensures))

pub loop-value-preserved : goal.loop-value-preserved
loop-value-preserved c = next_part code c.args.values.now c.args.bytes.now c.loop-value.rest.now c.loop-value.value-index c.loop-value.invariant c.value-item.result c.in-Some.more.now c.loop-value-test.true (subst (λ v. IsAfter (code v) c.loop-value.rest.now (Some c.in-Some.more.now)) c.value-item.is (rw c.in-Some.is at c.after_value.ensures))

pub returns : goal.returns
returns c = all_parts code c.args.values.now c.args.bytes.now c.loop-value.rest.now c.loop-value.value-index c.loop-value.invariant (omega (arith, c.loop-value-test.false))
