use Rattle.std.proofs.Common.{◌∙◌, arith}
use Rattle.record_code.proofs.KeyCodes.{cursor_only}
use Rattle.record_code.proofs.keys.cursor_key_from.Goals as goal

pub returns-then-rest-lt8 : goal.returns-then-rest-lt8
returns-then-rest-lt8 c = λ key is e. let two = cursor_only key c.args.rest.now is e in absurd (omega (arith, two.long))

pub returns-in-None : goal.returns-in-None
returns-in-None c = λ key is e. let two = cursor_only key c.args.rest.now is e in c.in-None.ensures two.element two.below (c.split_at.ensures.front ∙ two.first)

pub returns-in-None-number_from : goal.returns-in-None-number_from
returns-in-None-number_from c = λ key is e. let two = cursor_only key c.args.rest.now is e in c.in-None-number_from.ensures two.piece (c.split_at.ensures.back ∙ two.second)
