use Rattle.std.proofs.Common.{rules, arith}
use Rattle.tasks.specs.declared.worker_slot.WorkerSlot.{WorkerSlot}
use Rattle.tasks.proofs.Runs.{all_stay, all_same, all_count, all_tried}
use Rattle.tasks.proofs.worker_slot.work_each.Given.{Over}
use Rattle.tasks.proofs.worker_slot.work_each.Goals as goal

abbrev Here : Over → Type 0
Here g = WorkerSlot g.row.W.Denot g.row.T.Denot g.row.W-Outcome.Denot g.W.Worker g.T.Drawing

pub returns-clause-ids : goal.returns-clause-ids
returns-clause-ids g c =
    all_same {S = Here g} (λ (s : Here g). g.W.Worker.id s.worker) c.args.worker_slots.now c.for_each_mut.new.s (search rules) (λ i d lt. grind (arith, rules))

pub returns-clause-fits : goal.returns-clause-fits
returns-clause-fits g c plan all =
    all_stay {S = Here g} (λ (s : Here g). s.worker) (λ (s : Here g). s.done.items) g.W.Worker.plan g.W.Worker.fits plan c.args.worker_slots.now c.for_each_mut.new.s (search rules) (λ i d lt. grind (arith, rules)) all

pub returns-clause-counted : goal.returns-clause-counted
returns-clause-counted g c =
    all_count {S = Here g} (λ (s : Here g). s.worker) (λ (s : Here g). s.done.items) g.W.Worker.count g.W.Worker.kept_receipts g.W.Worker.held c.args.worker_slots.now c.for_each_mut.new.s (search rules) (λ i d lt. grind (arith, rules))

pub returns-clause-tried : goal.returns-clause-tried
returns-clause-tried g c =
    all_tried {S = Here g} (λ (s : Here g). s.worker) (λ (s : Here g). s.done.items) g.W.Worker.failed g.W.Worker.reported c.args.worker_slots.now c.for_each_mut.new.s (search rules) (λ i d lt. grind (arith, rules))
