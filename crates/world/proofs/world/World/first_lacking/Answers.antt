use Rattle.std.proofs.Common.{sym, ap, ◌∙◌, true≢false}
use Rattle.std.specs.Option.{option_copied}
use Rattle.schema_version.specs.Version.{element_at}
use Rattle.world.specs.State.{facts_of}
use Rattle.world.proofs.Awaited.{lacks_work}
use Rattle.world.proofs.Invariant.{follow_of}
use Rattle.world.proofs.world.World.first_lacking.Goals as goal

pub returns-else-is_done : goal.returns-else-is_done
returns-else-is_done c =
    let newest = (follow_of c.self.inside c.args.self.now c.self.invariant c.self.view_is).newest in
    lacks_work (facts_of c.args.self.now) c.args.change.now c.in-Go.element c.in-Go.to c.in_ok-found.found.now c.in_ok-work.work c.in-Go.is
    (ap (λ v. element_at v c.in-Go.element) (sym (c.get.ensures ∙ newest)) ∙ sym c.element.ensures ∙ ap option_copied (c.in_ok-found.was)) (sym c.needed_work.ensures ∙ c.in_ok-work.was)
    (λ d. true≢false (sym (c.is_done.ensures.1 d) ∙ c.if-is_done.false))
