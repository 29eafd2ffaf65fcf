use Rattle.std.proofs.Common.{arith}
use Rattle.page_map.proofs.InPlace.{some_more, some_put}
use Rattle.page_map.proofs.in_place.may_empty.Goals as goal

pub returns : goal.returns
returns c = λ es sorted is some out. some_put (λ w. w.now) es c.args.writes.now c.first_removal.result c.is_some.result sorted (omega (arith, is, some)) c.first_removal.ensures c.is_some.ensures out

pub returns-then-writes-len : goal.returns-then-writes-len
returns-then-writes-len c = λ es sorted is some out. some_more es c.args.writes.now sorted (omega (arith, is, c.if-writes-len.true))
