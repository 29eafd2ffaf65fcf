use Rattle.std.proofs.Common.{◌≡◌, get_or, arith, inr}
use Rattle.std.proofs.lemmas.Result.{err_from_is_err_and}
use Rattle.row_map.proofs.Loops.{zero_goes_on, zero_fails, zero_short, zero_done}
use Rattle.row_map.proofs.key_reader.read_until_zero.Goals as goal

pub returns-in-empty : goal.returns-in-empty
returns-in-empty c = let i = c.loop-rest.invariant in inr (zero_short i.0 _ _ _ c.in-empty.len_below i.2)

pub returns-in-0 : goal.returns-in-0
returns-in-0 c =
    let i = c.loop-rest.invariant in
    let is : get_or c.loop-rest.rest.now 0 0 ≡ 0 = omega arith in
    rw c.new.ensures (zero_done i.0 _ _ _ c.in-0.len_at_least is i.2)

pub returns-in_err-value-in-len1-up : goal.returns-in_err-value-in-len1-up
returns-in_err-value-in-len1-up c =
    let i = c.loop-rest.invariant in
    let p = err_from_is_err_and c.from_residual.result c.from_residual.ensures.1 in
    rw (p.1, p.2) (zero_fails c.in_err-value-in-len1-up.field-0.0 i.0 _ _ _ i.1 c.in-len1-up.len_at_least (λ e. omega arith) c.in_err-value-in-len1-up.ensures.exact i.2)

pub loop-rest-preserved : goal.loop-rest-preserved
loop-rest-preserved c =
    let i = c.loop-rest.invariant in
    let v = c.in_ok-value-in-len1-up in
    rw c.in_ok-push-in-len1-up.ensures.items (zero_goes_on i.0 _ _ v.value _ _ i.1 c.in-len1-up.len_at_least (λ e. omega arith) v.ensures.shorter v.ensures.exact i.2)
