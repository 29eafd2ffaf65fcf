use Rattle.std.proofs.Common.{rules, arith, subst, ◌≤◌, []}
use Rattle.std.proofs.lemmas.Grind.{common_steps}
use Rattle.std.proofs.lemmas.List.Elements.{All-push, All-same, All-nil}
use Rattle.server.specs.Works.{Serving}
use Rattle.server.proofs.Works.{one_more_leases}
use Rattle.server.proofs.serve_all.into_parts.Goals as goal

abbrev IsRisen : Serving → Type 0
IsRisen w = w.first_front ≤ w.handle.front

pub loop-worker-preserved : goal.loop-worker-preserved
loop-worker-preserved g c = (
  search rules,
  search rules,
  search rules,
  search rules,
  grind (arith, common_steps),
  grind (arith, common_steps),
  λ orders all. one_more_leases g.L.SharedLedger.start orders _ _ c.in-Some.worker _ _ _ _ c.in-Some.ensures.items c.worker.view_is c.new.ensures c.push_reserved-in-Some.ensures.items c.worker.invariant.0 (c.loop-worker.invariant.6 orders all),
  λ all.
      c.loop-worker.invariant.7
      (All-same IsRisen c.loop-worker.workers.items _ c.in-Some.ensures.items (All-push IsRisen c.pop.new.self.items c.in-Some.worker all (subst IsRisen c.worker.view_is c.worker.invariant.0.risen))),
)

pub returns-clause-leases : goal.returns-clause-leases
returns-clause-leases g c orders all = (c.loop-worker.invariant.6 orders all).1

pub returns-clause-risen : goal.returns-clause-risen
returns-clause-risen g c = c.loop-worker.invariant.7 (All-same IsRisen c.loop-worker.workers.items [] (search rules) (All-nil IsRisen))
