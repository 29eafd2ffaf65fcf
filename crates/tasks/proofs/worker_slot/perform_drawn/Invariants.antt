use Rattle.std.proofs.Common.{◌≡◌, ◌+◌, ◌≤◌}
use Rattle.tasks.specs.Outcomes.{held_in, numbers_of, early, AreFit}
use Rattle.tasks.proofs.worker_slot.perform_drawn.Given as goal

abbrev pub invariant-loop-i : goal.invariant-loop-i
invariant-loop-i g l = record {
  numbers : numbers_of l.done.items ≡ early g.T.Drawing.total l.seat.drawn;
  plan : g.W.Worker.plan l.worker ≡ g.W.Worker.plan l.fn.worker;
  id : g.W.Worker.id l.worker ≡ g.W.Worker.id l.fn.worker;
  fits : AreFit (g.W.Worker.fits (g.W.Worker.plan l.fn.worker)) l.fn.done.items → AreFit (g.W.Worker.fits (g.W.Worker.plan l.fn.worker)) l.done.items;
  counted : g.W.Worker.count l.worker + g.W.Worker.kept_receipts l.fn.worker + held_in g.W.Worker.held l.fn.done.items ≡ g.W.Worker.count l.fn.worker + g.W.Worker.kept_receipts l.worker + held_in g.W.Worker.held l.done.items;
  tried : g.W.Worker.failed l.fn.worker + held_in g.W.Worker.reported l.done.items ≤ g.W.Worker.failed l.worker + held_in g.W.Worker.reported l.fn.done.items;
}
