use Rattle.std.proofs.Common.{[]}
use Rattle.std.proofs.lemmas.Result.{err_from_is_err_and}
use Rattle.entry_code.specs.inner.At.{items_at}
use Rattle.entry_code.proofs.Loop.{goes_on, ends, is_done}
use Rattle.entry_code.proofs.lists.read_items.Goals as goal

pub returns-in_err-item : goal.returns-in_err-item
returns-in_err-item g c =
    let at = g.T.Encoded.at in
    let p = err_from_is_err_and c.from_residual-in_err-item.result c.from_residual-in_err-item.ensures.1 in
    let e = c.in_err-item.field-0.0 in
    rw (p.1, p.2) (ends at e c.loop.items.items c.args.count c.loop.counter c.loop.rest.now (items_at at [] c.args.count c.args.bytes.now) c.loop-test.true c.in_err-item.ensures c.loop.invariant)

pub loop-preserved : goal.loop-preserved
loop-preserved g c =
    let at = g.T.Encoded.at in
    rw c.in_ok-push.ensures.items (goes_on at c.loop.items.items c.args.count c.loop.counter c.loop.rest.now c.in_ok-item.item c.in_ok-item.after.now (items_at at [] c.args.count c.args.bytes.now) c.loop-test.true c.in_ok-item.ensures c.loop.invariant)

pub returns : goal.returns
returns g c =
    let at = g.T.Encoded.at in
    is_done at c.loop.items.items c.args.count c.loop.counter c.loop.rest.now (items_at at [] c.args.count c.args.bytes.now) c.loop-test.false c.loop.invariant
