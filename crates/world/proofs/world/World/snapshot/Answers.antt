use Rattle.std.proofs.Common.{refl, ap, ◌∙◌, Some, sym}
use Rattle.std.proofs.lemmas.Result.{err_from_is_err_and}
use Rattle.world.proofs.Invariant.{published, later}
use Rattle.world.proofs.CallSteps.{serves_there}
use Rattle.world.proofs.Queries.{IsServed}
use Rattle.world.proofs.Snapshots.{snapshot_unserved, snapshot_short, snapshot_taken}
use Rattle.world.proofs.world.World.snapshot.Goals as goal

pub standing-requires : goal.standing-requires
standing-requires c = published c.self.inside c.args.self.now c.self.invariant c.self.view_is c.args.moment c.effective_moment-now.result c.effective_moment-now.ensures

pub under-schema-requires : goal.under-schema-requires
under-schema-requires c = record {
  later = later c.self.inside c.args.self.now c.args.moment c.effective_moment-now.result c.effective_moment-now.ensures;
  serves = serves_there c.self.inside c.args.self.now c.effective_moment-now.result c.args.lease.now c.args.lease.now c.self.invariant c.self.view_is refl (c.in_ok-standing.ensures.serves.0 refl);
}

pub returns-in_err-standing : goal.returns-in_err-standing
returns-in_err-standing c =
    let p = err_from_is_err_and c.from_residual.result c.from_residual.ensures.1 in
    rw p.1 (snapshot_unserved c.self.inside c.args.self.now c.args.moment c.effective_moment-now.result c.args.lease.now c.in_err-standing.field-0.0 p.0 c.self.invariant c.self.view_is c.effective_moment-now.ensures c.in_err-standing.ensures.refused p.2)

pub returns-in_err-schema : goal.returns-in_err-schema
returns-in_err-schema c =
    let served : IsServed c.self.inside c.args.self.now c.args.moment c.effective_moment-now.result c.args.lease.now c.under-schema.result.now
    = record {
      held = c.self.invariant;
      view = c.self.view_is;
      counts = c.effective_moment-now.ensures;
      serves = serves_there c.self.inside c.args.self.now c.effective_moment-now.result c.args.lease.now c.args.lease.now c.self.invariant c.self.view_is refl (c.in_ok-standing.ensures.serves.0 refl);
      schema_is = c.under-schema.ensures;
    } in
    let p = err_from_is_err_and c.from_residual-in_err-schema.result c.from_residual-in_err-schema.ensures.1 in
    rw p.1 (snapshot_short c.self.inside c.args.self.now c.args.moment c.effective_moment-now.result c.args.lease.now c.under-schema.result.now p.0 served p.2)

pub returns-in_err-newest : goal.returns-in_err-newest
returns-in_err-newest c =
    let served : IsServed c.self.inside c.args.self.now c.args.moment c.effective_moment-now.result c.args.lease.now c.under-schema.result.now
    = record {
      held = c.self.invariant;
      view = c.self.view_is;
      counts = c.effective_moment-now.ensures;
      serves = serves_there c.self.inside c.args.self.now c.effective_moment-now.result c.args.lease.now c.args.lease.now c.self.invariant c.self.view_is refl (c.in_ok-standing.ensures.serves.0 refl);
      schema_is = c.under-schema.ensures;
    } in
    let p = err_from_is_err_and c.from_residual-in_err-newest.result c.from_residual-in_err-newest.ensures.1 in
    rw p.1 (snapshot_short c.self.inside c.args.self.now c.args.moment c.effective_moment-now.result c.args.lease.now c.under-schema.result.now p.0 served p.2)

pub returns-in_err-pairs : goal.returns-in_err-pairs
returns-in_err-pairs c =
    let served : IsServed c.self.inside c.args.self.now c.args.moment c.effective_moment-now.result c.args.lease.now c.under-schema.result.now
    = record {
      held = c.self.invariant;
      view = c.self.view_is;
      counts = c.effective_moment-now.ensures;
      serves = serves_there c.self.inside c.args.self.now c.effective_moment-now.result c.args.lease.now c.args.lease.now c.self.invariant c.self.view_is refl (c.in_ok-standing.ensures.serves.0 refl);
      schema_is = c.under-schema.ensures;
    } in
    let p = err_from_is_err_and c.from_residual-in_err-pairs.result c.from_residual-in_err-pairs.ensures.1 in
    rw p.1 (snapshot_short c.self.inside c.args.self.now c.args.moment c.effective_moment-now.result c.args.lease.now c.under-schema.result.now p.0 served p.2)

pub returns : goal.returns
returns c =
    let served : IsServed c.self.inside c.args.self.now c.args.moment c.effective_moment-now.result c.args.lease.now c.in_ok-schema.schema
    = record {
      held = c.self.invariant;
      view = c.self.view_is;
      counts = c.effective_moment-now.ensures;
      serves = serves_there c.self.inside c.args.self.now c.effective_moment-now.result c.args.lease.now c.args.lease.now c.self.invariant c.self.view_is refl (c.in_ok-standing.ensures.serves.0 refl);
      schema_is = c.under-schema.ensures ∙ ap Some (sym c.in_ok-schema.ensures.cases);
    } in
    snapshot_taken c.self.inside c.args.self.now c.args.moment c.effective_moment-now.result c.args.lease.now c.in_ok-schema.schema c.in_ok-newest.newest c.in_ok-pairs.pairs c.lemma_leases_keep.ensures c.lemma_kept_agrees.ensures served c.in_ok-newest.ensures.cases c.in_ok-pairs.ensures
