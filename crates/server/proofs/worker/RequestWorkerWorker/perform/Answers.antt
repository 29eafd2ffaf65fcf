use Rattle.std.proofs.Common.{◌<◌, Option, arith, length, subst, sym}
use Rattle.std.specs.List.{Contains}
use Rattle.std.specs.Prelude.{slice_index_or}
use Rattle.std.proofs.lemmas.List.Elements.{Contains-get_or}
use Rattle.lease.specs.declared.lease.Lease.{Lease}
use Rattle.schema_version.specs.Version.{Version}
use Rattle.server.specs.HandlePorts.{SaidByCore}
use Rattle.server.specs.Outcomes.{IsHeld}
use Rattle.server.specs.Works.{IsAtWork, Orders, Serving, IsOutcomeAt}
use Rattle.server.proofs.Works.{outcome_at}
use Rattle.server.proofs.worker.RequestWorkerWorker.perform.Goals as goal

pub invariant_of-self : goal.invariant_of-self
invariant_of-self g c =
    let orders : Orders = record { requests = c.self.inside.requests.now; tries = c.self.inside.tries; front = c.self.inside.front; most = c.self.inside.most } in
    let after : Serving = record { handle = c.outcome_of-outcome.new.port.handle; first_front = c.self.inside.first_front; kept_receipts = c.outcome_of-outcome.new.port.kept_receipts.items; orders = orders } in
    let is_within : c.args.number < length orders.requests = subst (λ (w : Serving). c.args.number < length w.orders.requests) (sym c.self.view_is) c.requires.inside in
    let among : Contains orders.requests (slice_index_or orders.requests c.args.number c.index-requests-number.result) = Contains-get_or orders.requests c.args.number c.index-requests-number.result is_within in
    let at_hand : IsHeld (SaidByCore g.L.SharedLedger.start orders.front orders.most) orders.requests c.take.result =
    subst (λ (h : Option (Lease × Version)). IsHeld (SaidByCore g.L.SharedLedger.start orders.front orders.most) orders.requests h) (sym c.take.ensures.value) c.self.invariant.1 in
    let is_at_work : IsAtWork g.L.SharedLedger.start after =
    record {
      some_tries = c.self.invariant.0.some_tries;
      few_tries = c.self.invariant.0.few_tries;
      seen = omega (arith, c.self.invariant.0.seen, c.outcome_of-outcome.ensures.rises);
      risen = omega (arith, c.self.invariant.0.risen, c.outcome_of-outcome.ensures.rises);
      had = c.outcome_of-outcome.ensures.stays c.self.inside.most c.self.invariant.0.had;
      leases = c.outcome_of-outcome.ensures.leases c.self.inside.front c.self.inside.most (c.self.invariant.0.seen, c.self.invariant.0.had) c.self.invariant.0.leases;
    } in
    (is_at_work, c.outcome_of-outcome.ensures.held c.self.inside.front c.self.inside.most orders.requests (c.self.invariant.0.seen, c.self.invariant.0.had) among at_hand)

pub returns-clause-fits : goal.returns-clause-fits
returns-clause-fits g c =
    let orders : Orders = record { requests = c.self.inside.requests.now; tries = c.self.inside.tries; front = c.self.inside.front; most = c.self.inside.most } in
    let is_within : c.args.number < length orders.requests = subst (λ (w : Serving). c.args.number < length w.orders.requests) (sym c.self.view_is) c.requires.inside in
    let among : Contains orders.requests (slice_index_or orders.requests c.args.number c.index-requests-number.result) = Contains-get_or orders.requests c.args.number c.index-requests-number.result is_within in
    let at_hand : IsHeld (SaidByCore g.L.SharedLedger.start orders.front orders.most) orders.requests c.take.result =
    subst (λ (h : Option (Lease × Version)). IsHeld (SaidByCore g.L.SharedLedger.start orders.front orders.most) orders.requests h) (sym c.take.ensures.value) c.self.invariant.1 in
    subst (λ (w : Serving). IsOutcomeAt g.L.SharedLedger.start w.orders c.args.number c.outcome_of-outcome.result.0) c.self.view_is
    (outcome_at g.L.SharedLedger.start orders c.args.number c.index-requests-number.result _ (c.outcome_of-outcome.ensures.own c.self.inside.front c.self.inside.most orders.requests (c.self.invariant.0.seen, c.self.invariant.0.had) among at_hand))
