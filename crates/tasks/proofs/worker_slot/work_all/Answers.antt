use Rattle.std.proofs.Common.{arith}
use Rattle.std.proofs.lemmas.List.{take_at}
use Rattle.std.proofs.lemmas.List.Elements.{All-same}
use Rattle.tasks.specs.Outcomes.{IsOnPlan}
use Rattle.tasks.specs.declared.worker_slot.WorkerSlot.{WorkerSlot}
use Rattle.tasks.proofs.worker_slot.work_all.Given.{Over}
use Rattle.tasks.proofs.worker_slot.work_all.Goals as goal

abbrev Here : Over → Type 0
Here g = WorkerSlot g.row.W.Denot g.row.T.Denot g.row.W-Outcome.Denot g.W.Worker g.T.Drawing

pub returns-clause-fits : goal.returns-clause-fits
returns-clause-fits g c plan all =
    let P : Here g → Type 0 = λ s. IsOnPlan g.W.Worker.plan g.W.Worker.fits plan s.worker s.done.items in
    All-same P _ c.work_each.new.worker_slots (take_at c.work_each.new.worker_slots _ _ (omega (arith, c.work_each.auto.worker_slots, c.as_mut_slice.ensures.len)))
    (c.work_each.ensures.fits plan (All-same P c.as_mut_slice.result.now c.args.worker_slots.now.items c.as_mut_slice.ensures.value all))
