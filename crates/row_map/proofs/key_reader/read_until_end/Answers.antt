use Rattle.std.proofs.Common.{◌≡◌, ◌<◌, length, arith}
use Rattle.std.proofs.lemmas.Bool.Decides.{nat_tests}
use Rattle.std.proofs.lemmas.Result.{err_from_is_err_and}
use Rattle.row_map.proofs.Loops.{end_goes_on, end_fails, end_done}
use Rattle.row_map.proofs.key_reader.read_until_end.Goals as goal

pub returns-in_err-value : goal.returns-in_err-value
returns-in_err-value c =
    let i = c.loop-rest.invariant in
    let some : 0 < length c.loop-rest.rest.now = grind (arith, nat_tests) in
    let p = err_from_is_err_and c.from_residual.result c.from_residual.ensures.1 in
    rw (p.1, p.2) (end_fails c.in_err-value.field-0.0 i.0 _ _ _ i.1 some c.in_err-value.ensures.exact i.2)

pub loop-rest-preserved : goal.loop-rest-preserved
loop-rest-preserved c =
    let i = c.loop-rest.invariant in
    let some : 0 < length c.loop-rest.rest.now = grind (arith, nat_tests) in
    rw c.in_ok-push.ensures.items (end_goes_on i.0 _ _ c.in_ok-value.value _ _ i.1 some c.in_ok-value.ensures.shorter c.in_ok-value.ensures.exact i.2)

pub returns : goal.returns
returns c =
    let i = c.loop-rest.invariant in
    let none : length c.loop-rest.rest.now ≡ 0 = grind (arith, nat_tests) in
    rw c.new.ensures (end_done i.0 _ _ _ none i.2)
