use Rattle.std.proofs.Common.{subst, ◌∙◌}
use Rattle.std.proofs.lemmas.Result.{IfOk-weaker}
use Rattle.audit.specs.Audit.{IsAudit}
use Rattle.world.specs.State.{State, facts_of}
use Rattle.world.proofs.Invariant.{follow_of}
use Rattle.world.proofs.world.World.check.Goals as goal

pub returns : goal.returns
returns c =
    let w = follow_of c.self.inside c.args.self.now c.self.invariant c.self.view_is in
    IfOk-weaker _ _ _ (λ report is. subst (λ (s : State). IsAudit (facts_of c.args.self.now).newest s.pairs report) c.self.view_is (subst (λ v. IsAudit v c.self.inside.store report) (c.get.ensures ∙ w.newest) is)) c.audit.ensures
