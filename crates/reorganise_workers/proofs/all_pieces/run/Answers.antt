use Rattle.reorganise_workers.proofs.Reorganises.{reorganises}
use Rattle.reorganise_workers.proofs.all_pieces.run.Goals as goal

pub returns-in-Ok-clause-done : goal.returns-in-Ok-clause-done
returns-in-Ok-clause-done g c =
    reorganises g.L.SharedLedger.start c.args.job c.args.handles.items c.make_workers-workers.result.items c.in-Ok.field-0.workers.items c.in-Ok.field-0.outcomes.items c.into_parts.new.handles.items c.into_parts.new.receipts.items
    c.make_workers-workers.ensures.staff c.make_workers-workers.ensures.idle c.in-Ok.ensures.each c.in-Ok.ensures.fits c.in-Ok.ensures.back c.in-Ok.ensures.plans c.in-Ok.ensures.counted c.in-Ok.ensures.tried
    c.into_parts.ensures.back c.into_parts.ensures.risen c.into_parts.ensures.lists c.into_parts.ensures.kept_receipts c.into_parts.ensures.pieces
