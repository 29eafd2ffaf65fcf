use Rattle.std.proofs.Common.{refl, ◌∙◌}
use Rattle.prompt.proofs.carry.finish_line.Goals as goal

pub returns : goal.returns
returns c = (c.complete-outcome.result, c.complete-outcome.ensures.step, (refl, refl, c.new-2.ensures ∙ c.new.ensures.items), c.in_ok-text.ensures)
