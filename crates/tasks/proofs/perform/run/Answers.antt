use Rattle.std.proofs.Common.{arith}
use Rattle.claims.specs.Seats.{all_drawn}
use Rattle.tasks.specs.Outcomes.{AreOnce}
use Rattle.tasks.specs.declared.worker_slot.WorkerSlot.{WorkerSlot}
use Rattle.tasks.proofs.Places.{are_once}
use Rattle.tasks.proofs.Seats.{same_back, counted_back, tried_back, on_start, at_end}
use Rattle.tasks.proofs.perform.run.Given.{Over}
use Rattle.tasks.proofs.perform.run.Goals as goal

abbrev Here : Over → Type 0
Here g = WorkerSlot g.row.W.Denot g.row.T.Denot g.row.W-Outcome.Denot g.W.Worker g.T.Drawing

pub returns-clause-fits : goal.returns-clause-fits
returns-clause-fits g c plan all =
    let on = on_start (λ (s : Here g). s.worker) (λ (s : Here g). s.done.items) g.W.Worker.plan g.W.Worker.fits plan c.seat_workers-worker_slots.result.items c.args.workers.items c.seat_workers-worker_slots.ensures.workers c.seat_workers-worker_slots.ensures.idle all in
    c.collect.ensures.fits plan (c.work_all.ensures.fits plan on) (c.requires.blank plan)

pub returns-clause-back : goal.returns-clause-back
returns-clause-back g c =
    same_back (λ (s : Here g). s.worker) g.W.Worker.id c.seat_workers-worker_slots.result.items c.work_all.new.worker_slots.items c.args.workers.items c.collect.new.workers.items c.seat_workers-worker_slots.ensures.workers c.collect.ensures.workers c.work_all.ensures.ids

pub returns-clause-plans : goal.returns-clause-plans
returns-clause-plans g c plan all =
    let on = on_start (λ (s : Here g). s.worker) (λ (s : Here g). s.done.items) g.W.Worker.plan g.W.Worker.fits plan c.seat_workers-worker_slots.result.items c.args.workers.items c.seat_workers-worker_slots.ensures.workers c.seat_workers-worker_slots.ensures.idle all in
    at_end (λ (s : Here g). s.worker) (λ (s : Here g). s.done.items) g.W.Worker.plan g.W.Worker.fits plan c.work_all.new.worker_slots.items c.collect.new.workers.items c.collect.ensures.workers (c.work_all.ensures.fits plan on)

pub returns-clause-counted : goal.returns-clause-counted
returns-clause-counted g c =
    let once : AreOnce (all_drawn c.collect.new.seats.items) = are_once _ _ (c.finish-next.ensures.all (omega (arith, c.collect.ensures.seats, c.work_all.ensures.len, c.seat_workers-worker_slots.ensures.len, c.requires.counts))) in
    counted_back (λ (s : Here g). s.worker) (λ (s : Here g). s.done.items) g.W.Worker.count g.W.Worker.kept_receipts g.W.Worker.held c.seat_workers-worker_slots.result.items c.work_all.new.worker_slots.items c.args.workers.items c.collect.new.workers.items _
    c.seat_workers-worker_slots.ensures.workers c.collect.ensures.workers c.seat_workers-worker_slots.ensures.idle (c.collect.ensures.counted g.W.Worker.held c.requires.none.0 once) c.work_all.ensures.counted

pub returns-clause-tried : goal.returns-clause-tried
returns-clause-tried g c =
    let once : AreOnce (all_drawn c.collect.new.seats.items) = are_once _ _ (c.finish-next.ensures.all (omega (arith, c.collect.ensures.seats, c.work_all.ensures.len, c.seat_workers-worker_slots.ensures.len, c.requires.counts))) in
    tried_back (λ (s : Here g). s.worker) (λ (s : Here g). s.done.items) g.W.Worker.failed g.W.Worker.reported c.seat_workers-worker_slots.result.items c.work_all.new.worker_slots.items c.args.workers.items c.collect.new.workers.items _
    c.seat_workers-worker_slots.ensures.workers c.collect.ensures.workers c.seat_workers-worker_slots.ensures.idle (c.collect.ensures.counted g.W.Worker.reported c.requires.none.1 once) c.work_all.ensures.tried
