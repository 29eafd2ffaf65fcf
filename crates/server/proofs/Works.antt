-- What becomes of one request at a port.
use Rattle.std.proofs.Common.{◌≡◌, ℕ, List, [], ◌∷◌, ◌++◌, subst, sym, ap, ◌∙◌}
use Rattle.std.specs.Prelude.{All, Some, slice_index_or}
use Rattle.std.proofs.lemmas.List.{get_or_default}
use Rattle.std.proofs.lemmas.List.Elements.{All-pop, All-push, All-same}
use Rattle.locked_store.specs.Receipt.{Receipt}
use Rattle.locked_store.specs.State.{State}
use Rattle.server.specs.declared.request.Request.{Request}
use Rattle.server.specs.declared.request.Outcome.{Outcome}
use Rattle.server.specs.HandlePorts.{SaidByCore}
use Rattle.server.specs.Outcomes.{IsLeaseReceipt}
use Rattle.server.specs.Works.{IsOutcomeOf, Orders, Serving, IsAtWork, IsOutcomeAt}

-- of the request of this number, whatever is given for none
pub outcome_at : (start : State) (orders : Orders) (number : ℕ) (e : Request) (o : Outcome) → IsOutcomeOf start orders.front orders.most orders.requests (slice_index_or orders.requests number e) orders.tries o
    → IsOutcomeAt start orders number o
outcome_at start orders number e o own d lt = subst (λ (r : Request). IsOutcomeOf start orders.front orders.most orders.requests r orders.tries o) (get_or_default orders.requests number e d lt) own

-- the receipts that a server of these orders keeps
kept_leases : (start : State) (orders : Orders) (w : Serving) → IsAtWork start w → w.orders ≡ orders → All (IsLeaseReceipt (SaidByCore start orders.front orders.most)) w.kept_receipts
kept_leases start orders w at is = subst (λ (o : Orders). All (IsLeaseReceipt (SaidByCore start o.front o.most)) w.kept_receipts) is at.leases

-- a server leaves, the last one of all, and its receipts are put beside those of the others
pub one_more_leases : (start : State) (orders : Orders) (ws rest : List Serving) (w v : Serving) (rs qs : List (List Receipt)) (kept_receipts : List Receipt)
    → ws ≡ rest ++ w ∷ [] → v ≡ w → kept_receipts ≡ v.kept_receipts → qs ≡ rs ++ kept_receipts ∷ [] → IsAtWork start v
    → All (λ (x : Serving). x.orders ≡ orders) ws × All (All (IsLeaseReceipt (SaidByCore start orders.front orders.most))) rs → All (λ (x : Serving). x.orders ≡ orders) rest × All (All (IsLeaseReceipt (SaidByCore start orders.front orders.most))) qs
one_more_leases start orders ws rest w v rs qs kept_receipts ws_is w_is kept_is qs_is at was =
    let on_plan : All (λ (x : Serving). x.orders ≡ orders) rest × (w.orders ≡ orders) = All-pop (λ (x : Serving). x.orders ≡ orders) ws rest (Some w) ws_is was.0 in (
      on_plan.0,
      All-same (All (IsLeaseReceipt (SaidByCore start orders.front orders.most))) qs (rs ++ kept_receipts ∷ []) qs_is
          (All-push (All (IsLeaseReceipt (SaidByCore start orders.front orders.most))) rs kept_receipts was.1 (subst (λ (x : List Receipt). All (IsLeaseReceipt (SaidByCore start orders.front orders.most)) x) (sym kept_is) (kept_leases start orders v at (ap (λ (x : Serving). x.orders) w_is ∙ on_plan.1)))),
    )
