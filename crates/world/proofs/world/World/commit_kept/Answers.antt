use Rattle.std.proofs.Common.{◌≡◌, false, refl, sym, subst, ap, ◌∙◌, true≢false, rules}
use Rattle.world.specs.Calls.{CommitAt}
use Rattle.world.specs.declared.commit.CommitFault.TheVariants.{WrongSchema}
use Rattle.world.specs.State.{facts_of}
use Rattle.std.proofs.Common.{Err, ℕ}
use Rattle.world.proofs.Invariant.{published, later}
use Rattle.world.proofs.CallSteps.{commit_unheld, commit_other, differs, serves_there}
use Rattle.world.proofs.world.World.commit_kept.Goals as goal

pub standing-requires : goal.standing-requires
standing-requires c = published c.self.inside c.args.self.now c.self.invariant c.self.view_is c.args.moment c.effective_moment-now.result c.effective_moment-now.ensures

pub under-schema-requires : goal.under-schema-requires
under-schema-requires c = record {
  later = later c.self.inside c.args.self.now c.args.moment c.effective_moment-now.result c.effective_moment-now.ensures;
  serves = serves_there c.self.inside c.args.self.now c.effective_moment-now.result c.lease.result.now c.lease-2.result.now c.self.invariant c.self.view_is (c.lease.ensures ∙ sym c.lease-2.ensures) (c.in-Ok.ensures.serves.0 refl);
}

pub returns-in-Err : goal.returns-in-Err
returns-in-Err c = record {
  step = (
    commit_unheld c.self.inside c.args.self.now c.args.moment c.effective_moment-now.result c.args.prepared.now c.lease.result.now c.in-Err.fault c.from.result c.self.invariant c.self.view_is c.effective_moment-now.ensures c.lease.ensures c.in-Err.ensures.refused c.from.ensures,
    refl,
  );
}

pub returns-then-not-is_same : goal.returns-then-not-is_same
returns-then-not-is_same c =
    let differ : c.is_same.result ≡ false = search rules in
    record {
      step = (
        subst (λ (n : ℕ). CommitAt c.args.self.now n c.args.prepared.now (Err WrongSchema) c.args.self.now) c.effective_moment-now.ensures
            (commit_other c.args.self.now c.effective_moment-now.result c.args.prepared.now (serves_there c.self.inside c.args.self.now c.effective_moment-now.result c.lease.result.now c.args.prepared.now.lease c.self.invariant c.self.view_is c.lease.ensures (c.in-Ok.ensures.serves.0 refl))
            (differs (facts_of c.args.self.now) c.args.prepared.now c.lease-2.result.now.version c.under-schema.result.now (ap (λ l. l.version) c.lease-2.ensures) c.under-schema.ensures
            (λ same. true≢false (sym (c.is_same.ensures.1 (c.get.ensures ∙ c.schema.ensures ∙ same ∙ sym c.get-2.ensures)) ∙ differ)))),
        refl,
      );
    }
