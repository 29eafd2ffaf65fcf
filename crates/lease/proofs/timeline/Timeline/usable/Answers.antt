use Rattle.std.proofs.Common.{arith}
use Rattle.std.proofs.lemmas.Grind.{common_steps}
use Rattle.lease.proofs.Uses.{usable_exactly}
use Rattle.lease.proofs.timeline.Timeline.usable.Goals as goal

pub returns-then-version-newest : goal.returns-then-version-newest
returns-then-version-newest c =
    let h = usable_exactly c.args.self.now c.args.version c.args.moment c.newest-newest.ensures.valid c.requires in
    grind (arith, common_steps, h)

pub returns-then-version-newest-2 : goal.returns-then-version-newest-2
returns-then-version-newest-2 c =
    let h = usable_exactly c.args.self.now c.args.version c.args.moment c.newest-newest.ensures.valid c.requires in
    grind (arith, common_steps, h)

pub returns-else-version-newest-2 : goal.returns-else-version-newest-2
returns-else-version-newest-2 c =
    let h = usable_exactly c.args.self.now c.args.version c.args.moment c.newest-newest.ensures.valid c.requires in
    grind (arith, common_steps, h)
