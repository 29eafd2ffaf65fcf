use Rattle.std.proofs.Common.{refl, sym, ap, ◌∙◌, Some}
use Rattle.std.proofs.lemmas.Result.{err_from_is_err_and}
use Rattle.world.proofs.Invariant.{published, later}
use Rattle.world.proofs.CallSteps.{serves_there}
use Rattle.world.proofs.Queries.{IsServed}
use Rattle.world.proofs.Pages.{page_unserved, page_faulty, page_answered}
use Rattle.world.proofs.world.World.query_page.Goals as goal

pub standing-requires : goal.standing-requires
standing-requires c = published c.self.inside c.args.self.now c.self.invariant c.self.view_is c.args.moment c.effective_moment-now.result c.effective_moment-now.ensures

pub under-schema-requires : goal.under-schema-requires
under-schema-requires c = record {
  later = later c.self.inside c.args.self.now c.args.moment c.effective_moment-now.result c.effective_moment-now.ensures;
  serves = serves_there c.self.inside c.args.self.now c.effective_moment-now.result c.args.lease.now c.args.lease.now c.self.invariant c.self.view_is refl (c.in_ok-standing.ensures.serves.0 refl);
}

pub returns-in_err-standing : goal.returns-in_err-standing
returns-in_err-standing c =
    let p = err_from_is_err_and c.from_residual.result c.from_residual.ensures.1 in
    rw p.1 (page_unserved c.self.inside c.args.self.now c.args.moment c.effective_moment-now.result c.args.lease.now c.args.query.now c.args.range.now c.args.limit c.in_err-standing.field-0.0 p.0 c.self.invariant c.self.view_is c.effective_moment-now.ensures c.in_err-standing.ensures.refused p.2)

pub returns-in_err-page : goal.returns-in_err-page
returns-in_err-page c =
    let served : IsServed c.self.inside c.args.self.now c.args.moment c.effective_moment-now.result c.args.lease.now c.get.result.now
    = record {
      held = c.self.invariant;
      view = c.self.view_is;
      counts = c.effective_moment-now.ensures;
      serves = serves_there c.self.inside c.args.self.now c.effective_moment-now.result c.args.lease.now c.args.lease.now c.self.invariant c.self.view_is refl (c.in_ok-standing.ensures.serves.0 refl);
      schema_is = c.under-schema.ensures ∙ ap Some (sym c.get.ensures);
    } in
    let p = err_from_is_err_and c.from_residual-in_err-page.result c.from_residual-in_err-page.ensures.1 in
    rw p.1 (page_faulty c.self.inside c.args.self.now c.args.moment c.effective_moment-now.result c.args.lease.now c.args.query.now c.args.range.now c.args.limit c.get.result.now c.in_err-page.field-0.0 p.0 served c.in_err-page.ensures.refused p.2)

pub returns : goal.returns
returns c =
    let served : IsServed c.self.inside c.args.self.now c.args.moment c.effective_moment-now.result c.args.lease.now c.get.result.now
    = record {
      held = c.self.invariant;
      view = c.self.view_is;
      counts = c.effective_moment-now.ensures;
      serves = serves_there c.self.inside c.args.self.now c.effective_moment-now.result c.args.lease.now c.args.lease.now c.self.invariant c.self.view_is refl (c.in_ok-standing.ensures.serves.0 refl);
      schema_is = c.under-schema.ensures ∙ ap Some (sym c.get.ensures);
    } in
    page_answered c.self.inside c.args.self.now c.args.moment c.effective_moment-now.result c.args.lease.now c.args.query.now c.args.range.now c.args.limit c.get.result.now c.in_ok-page.page c.lemma_leases_keep.ensures c.lemma_kept_agrees.ensures served c.in_ok-page.ensures.clear c.in_ok-page.ensures.rows
