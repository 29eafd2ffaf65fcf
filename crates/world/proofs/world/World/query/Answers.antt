use Rattle.std.proofs.Common.{refl, sym, ap, ◌∙◌, Some}
use Rattle.std.proofs.lemmas.Result.{err_from_is_err_and}
use Rattle.world.proofs.Invariant.{published, later}
use Rattle.world.proofs.CallSteps.{serves_there}
use Rattle.world.proofs.Queries.{IsServed, query_unserved, query_faulty, query_answered}
use Rattle.world.proofs.world.World.query.Goals as goal

pub standing-requires : goal.standing-requires
standing-requires c = published c.self.inside c.args.self.now c.self.invariant c.self.view_is c.args.moment c.effective_moment-now.result c.effective_moment-now.ensures

pub under-schema-requires : goal.under-schema-requires
under-schema-requires c = record {
  later = later c.self.inside c.args.self.now c.args.moment c.effective_moment-now.result c.effective_moment-now.ensures;
  serves = serves_there c.self.inside c.args.self.now c.effective_moment-now.result c.args.lease.now c.args.lease.now c.self.invariant c.self.view_is refl (c.in_ok-standing.ensures.serves.0 refl);
}

pub returns-in_err-standing : goal.returns-in_err-standing
returns-in_err-standing c =
    let p = err_from_is_err_and c.from_residual.result c.from_residual.ensures.1 in
    rw p.1 (query_unserved c.self.inside c.args.self.now c.args.moment c.effective_moment-now.result c.args.lease.now c.args.query.now c.in_err-standing.field-0.0 p.0 c.self.invariant c.self.view_is c.effective_moment-now.ensures c.in_err-standing.ensures.refused p.2)

pub returns-in_err-answer : goal.returns-in_err-answer
returns-in_err-answer c =
    let served : IsServed c.self.inside c.args.self.now c.args.moment c.effective_moment-now.result c.args.lease.now c.get.result.now
    = record {
      held = c.self.invariant;
      view = c.self.view_is;
      counts = c.effective_moment-now.ensures;
      serves = serves_there c.self.inside c.args.self.now c.effective_moment-now.result c.args.lease.now c.args.lease.now c.self.invariant c.self.view_is refl (c.in_ok-standing.ensures.serves.0 refl);
      schema_is = c.under-schema.ensures ∙ ap Some (sym c.get.ensures);
    } in
    let p = err_from_is_err_and c.from_residual-in_err-answer.result c.from_residual-in_err-answer.ensures.1 in
    rw p.1 (query_faulty c.self.inside c.args.self.now c.args.moment c.effective_moment-now.result c.args.lease.now c.args.query.now c.get.result.now c.in_err-answer.field-0.0 p.0 served c.lemma_one_refusal.ensures.or_none c.in_err-answer.ensures.refused p.2)

pub returns : goal.returns
returns c =
    let served : IsServed c.self.inside c.args.self.now c.args.moment c.effective_moment-now.result c.args.lease.now c.get.result.now
    = record {
      held = c.self.invariant;
      view = c.self.view_is;
      counts = c.effective_moment-now.ensures;
      serves = serves_there c.self.inside c.args.self.now c.effective_moment-now.result c.args.lease.now c.args.lease.now c.self.invariant c.self.view_is refl (c.in_ok-standing.ensures.serves.0 refl);
      schema_is = c.under-schema.ensures ∙ ap Some (sym c.get.ensures);
    } in
    query_answered c.self.inside c.args.self.now c.args.moment c.effective_moment-now.result c.args.lease.now c.args.query.now c.get.result.now c.in_ok-answer.field-0 c.lemma_leases_keep.ensures c.lemma_kept_agrees.ensures served c.lemma_one_refusal.ensures.or_none c.in_ok-answer.ensures.clear c.in_ok-answer.ensures.rows
