use Rattle.world.proofs.Invariant.{IsLogged, logged, later, published}
use Rattle.world.proofs.CallSteps.{lease_entry, lease_held, lease_step}
use Rattle.world.proofs.world.World.lease.Goals as goal

pub grant-requires : goal.grant-requires
grant-requires c = published c.self.inside c.args.self.now c.self.invariant c.self.view_is c.args.moment c.effective_moment-now.result c.effective_moment-now.ensures

pub invariant_of-self-2 : goal.invariant_of-self-2
invariant_of-self-2 c =
    let entered : IsLogged c.self.inside.log (lease_entry c.effective_moment-now.result c.in-Ok.lease) c.enter-receipt.result c.enter-receipt.new.self
    = logged c.self.inside.log c.make_ready.new.self c.enter-receipt.new.self c.in_ok-draft.draft (lease_entry c.effective_moment-now.result c.in-Ok.lease) c.enter-receipt.result c.in_ok-draft.ensures.entries c.in_ok-draft.ensures.draft
    c.enter-receipt.ensures.entries c.enter-receipt.ensures.moment c.enter-receipt.ensures.receipt in
    lease_held c.self.inside c.args.self.now c.enter-receipt.new.self c.effective_moment-now.result c.in-Ok.lease c.enter-receipt.result c.lemma_leases_keep.ensures c.self.invariant c.self.view_is
    (later c.self.inside c.args.self.now c.args.moment c.effective_moment-now.result c.effective_moment-now.ensures) entered

pub returns : goal.returns
returns c =
    let entered : IsLogged c.self.inside.log (lease_entry c.effective_moment-now.result c.in-Ok.lease) c.enter-receipt.result c.enter-receipt.new.self
    = logged c.self.inside.log c.make_ready.new.self c.enter-receipt.new.self c.in_ok-draft.draft (lease_entry c.effective_moment-now.result c.in-Ok.lease) c.enter-receipt.result c.in_ok-draft.ensures.entries c.in_ok-draft.ensures.draft
    c.enter-receipt.ensures.entries c.enter-receipt.ensures.moment c.enter-receipt.ensures.receipt in
    record {
      step = lease_step c.self.inside c.args.self.now c.enter-receipt.new.self c.effective_moment-now.result c.args.moment c.in-Ok.lease c.in_ok-schema.schema c.enter-receipt.result c.self.invariant c.self.view_is c.effective_moment-now.ensures
          c.in-Ok.ensures.serves c.in-Ok.ensures.granted c.in_ok-schema.ensures.cases entered;
    }
