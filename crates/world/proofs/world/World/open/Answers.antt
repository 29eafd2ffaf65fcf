use Rattle.world.proofs.Wholes.{whole_start}
use Rattle.world.proofs.world.World.open.Goals as goal

pub invariant_of-start : goal.invariant_of-start
invariant_of-start c =
    whole_start c.in_ok-line.line c.in_ok-schema.schema c.in_ok-newest.newest c.new-2.result.items c.new-3.result c.args.config.now.length c.lemma_checkpoints_keep.ensures.open c.in_ok-line.ensures.opened c.in_ok-line.ensures.length
    c.lemma_known.ensures c.in_ok-newest.ensures c.new-2.ensures.items c.new-3.ensures
