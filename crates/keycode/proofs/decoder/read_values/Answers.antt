use Rattle.std.proofs.Common.{[]}
use Rattle.std.proofs.lemmas.Result.{err_from_is_err_and}
use Rattle.keycode.specs.Read.{values_at}
use Rattle.keycode.proofs.Loop.{goes_on, ends, is_done}
use Rattle.keycode.proofs.decoder.read_values.Goals as goal

pub returns-in_err-value : goal.returns-in_err-value
returns-in_err-value c =
    let p = err_from_is_err_and c.from_residual.result c.from_residual.ensures.1 in
    rw (p.1, p.2) (ends c.in_err-value.field-0.0 c.loop.values.items c.args.count c.loop.counter c.loop.rest.now (values_at [] c.args.count c.args.bytes.now) c.loop-test.true c.in_err-value.ensures.exact c.loop.invariant)

pub loop-preserved : goal.loop-preserved
loop-preserved c =
    rw c.in_ok-push.ensures.items (goes_on c.loop.values.items c.args.count c.loop.counter c.loop.rest.now c.in_ok-value.value c.in_ok-value.after.now (values_at [] c.args.count c.args.bytes.now) c.loop-test.true c.in_ok-value.ensures.exact c.loop.invariant)

pub returns : goal.returns
returns c = rw c.new.ensures (is_done c.loop.values.items c.args.count c.loop.counter c.loop.rest.now (values_at [] c.args.count c.args.bytes.now) c.loop-test.false c.loop.invariant)
