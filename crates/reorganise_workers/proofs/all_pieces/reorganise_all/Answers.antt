use Rattle.std.proofs.Common.{subst, sym}
use Rattle.reorganise_workers.specs.ReorganiseAll.{IsRefused}
use Rattle.reorganise_workers.specs.declared.all_pieces.ReorganiseFault.{ReorganiseFault}
use Rattle.reorganise_workers.proofs.Reorganises.{ok_map, err_map, worked_off, same_stays}
use Rattle.reorganise_workers.proofs.all_pieces.reorganise_all.Goals as goal

pub returns-in_default-clause-refused : goal.returns-in_default-clause-refused
returns-in_default-clause-refused g c = (c.in-Ok.ensures.counts, (c.in-Ok.job.kind, c.in-Ok.job.pieces, c.in-Ok.ensures.begun))

pub returns-in_default-with_capacity-clause-refused : goal.returns-in_default-with_capacity-clause-refused
returns-in_default-with_capacity-clause-refused g c = (c.in-Ok.ensures.counts, (c.in-Ok.job.kind, c.in-Ok.job.pieces, c.in-Ok.ensures.begun))

pub returns-clause-done : goal.returns-clause-done
returns-clause-done g c =
    ok_map c.run.result c.run.ensures.done
    (λ s r. worked_off g.L.SharedLedger.start c.args.moment c.args.element c.args.limit c.args.tries c.in-Ok.job c.args.handles.items c.look_again.new.handles.items s.ends.items s.handles.items s.receipts.items
    c.in-Ok.ensures.stays.0 c.in-Ok.ensures.job.1 c.in-Ok.ensures.begun c.in-Ok.ensures.least c.in-Ok.ensures.greatest r)

pub returns-clause-refused : goal.returns-clause-refused
returns-clause-refused g c =
    err_map c.run.result c.run.ensures.refused
    (λ r is. subst (λ (f : ReorganiseFault). IsRefused g.L.SharedLedger.start c.args.element c.args.limit c.args.tries c.args.handles.items f) (sym is)
    (c.in-Ok.ensures.counts, (c.in-Ok.job.kind, c.in-Ok.job.pieces, c.in-Ok.ensures.begun)))

pub returns-clause-unchanged : goal.returns-clause-unchanged
returns-clause-unchanged g c = err_map c.run.result c.run.ensures.unchanged (λ r is. same_stays c.args.handles.items c.look_again.new.handles.items r.1.items c.in-Ok.ensures.stays.0 is)
