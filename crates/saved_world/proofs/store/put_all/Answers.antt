use Rattle.std.proofs.Common.{ap, ◌∙◌}
use Rattle.byte_map.specs.Writes.{laid}
use Rattle.saved_world.proofs.Puts.{laid_puts}
use Rattle.saved_world.proofs.store.put_all.Goals as goal

pub returns-in-Ok-clause-ok : goal.returns-in-Ok-clause-ok
returns-in-Ok-clause-ok c = c.in-Ok.ensures.1 ∙ ap (λ b. laid b c.args.store.now) (c.in_ok-batch.ensures) ∙ laid_puts c.args.store.now c.args.page.now
