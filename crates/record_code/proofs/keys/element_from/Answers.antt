use Rattle.std.proofs.Common.{sym, ◌∙◌, arith}
use Rattle.record_code.proofs.KeyCodes.{number_same}
use Rattle.record_code.proofs.keys.element_from.Goals as goal

pub returns-then-number-from : goal.returns-then-number-from
returns-then-number-from c = λ element below e.
    let same = number_same element c.in_ok-number.number (omega (arith, below)) c.in_ok-number.ensures.0 (sym e ∙ c.in_ok-number.ensures.1) in
    absurd (omega (arith, below, same, c.if-number-from.true, c.from.ensures))
