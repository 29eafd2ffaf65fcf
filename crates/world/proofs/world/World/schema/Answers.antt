use Rattle.std.proofs.Common.{sym, ap, ◌∙◌, Some}
use Rattle.lease.specs.Timeline.{newest}
use Rattle.world.specs.State.{facts_of}
use Rattle.world.proofs.Invariant.{follow_of, kept_of, newest_recent}
use Rattle.world.proofs.world.World.schema.Goals as goal

pub returns-then-version-newest : goal.returns-then-version-newest
returns-then-version-newest c =
    let w = follow_of c.self.inside c.args.self.now c.self.invariant c.self.view_is in
    ap Some w.newest ∙ sym (newest_recent (facts_of c.args.self.now) c.args.version (kept_of c.self.inside c.args.self.now c.self.invariant c.self.view_is) (c.if-version-newest.true ∙ c.newest-newest.ensures.value ∙ ap newest w.line))
