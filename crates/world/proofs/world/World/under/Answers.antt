use Rattle.std.proofs.Common.{sym, ap, ◌∙◌, Some}
use Rattle.lease.specs.Timeline.{newest}
use Rattle.world.specs.State.{facts_of}
use Rattle.world.proofs.Invariant.{follow_of, kept_of, under_newest, under_before, some_before}
use Rattle.world.proofs.world.World.under.Goals as goal

pub returns-then-lease-newest : goal.returns-then-lease-newest
returns-then-lease-newest c =
    let w = follow_of c.self.inside c.args.self.now c.self.invariant c.self.view_is in
    under_newest (facts_of c.args.self.now) c.args.lease.now.version (kept_of c.self.inside c.args.self.now c.self.invariant c.self.view_is) (c.if-lease-newest.true ∙ c.newest.ensures.value ∙ ap newest w.line) ∙ ap Some (sym w.newest)

pub returns-in-Some : goal.returns-in-Some
returns-in-Some c =
    let w = follow_of c.self.inside c.args.self.now c.self.invariant c.self.view_is in
    under_before (facts_of c.args.self.now) c.args.lease.now c.args.now (Some c.in-Some.before) (kept_of c.self.inside c.args.self.now c.self.invariant c.self.view_is) c.requires.later c.requires.serves (λ e. c.if-lease-newest.false (e ∙ sym (c.newest.ensures.value ∙ ap newest w.line))) (sym c.in-Some.is ∙ w.before)

pub returns-in-None : goal.returns-in-None
returns-in-None c =
    let w = follow_of c.self.inside c.args.self.now c.self.invariant c.self.view_is in
    absurd (some_before (facts_of c.args.self.now) c.args.lease.now c.args.now (kept_of c.self.inside c.args.self.now c.self.invariant c.self.view_is) c.requires.later c.requires.serves (λ e. c.if-lease-newest.false (e ∙ sym (c.newest.ensures.value ∙ ap newest w.line))) (sym c.in-None.is ∙ w.before))
