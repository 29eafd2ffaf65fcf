-- Cited by the contracts of RequestWorker.
-- What workers do.
use Rattle.std.specs.Prelude.{◌≡◌, ℕ, ◌<◌, ◌≤◌, List, [], length, All, slice_index_or}
use Rattle.locked_store.specs.Receipt.{Receipt}
use Rattle.locked_store.specs.State.{State}
use Rattle.locked_store.specs.Known.{Known}
use Rattle.server.specs.declared.request.Request.{Request}
use Rattle.server.specs.declared.request.Outcome.{Outcome}
use Rattle.server.specs.HandlePorts.{SaidByCore, HasSeen}
use Rattle.server.specs.Outcomes.{IsTrueOf, IsLeaseReceipt}

-- what all servers share: the requests, how often each is tried at most, and the least and the greatest front with which their handles came
pub record Orders : Type 0 where
  pub requests : List Request
  pub tries : ℕ
  pub front : ℕ
  pub most : ℕ

-- what may become of a request, served in this shared world by handles that came with fronts from `front` to `most`, with so many tries,
-- under leases granted at the moments of these requests
abbrev pub IsOutcomeOf : State → ℕ → ℕ → List Request → Request → ℕ → Outcome → Type 0
IsOutcomeOf start front most requests request tries = IsTrueOf (SaidByCore start front most) requests request.moment request.ops tries

-- what may become of the request of this number
abbrev pub IsOutcomeAt : State → Orders → ℕ → Outcome → Type 0
IsOutcomeAt start orders number o = (d : Request) → number < length orders.requests → IsOutcomeOf start orders.front orders.most orders.requests (slice_index_or orders.requests number d) orders.tries o

-- each outcome is one of the request of its number
abbrev pub AreOutcomes : State → Orders → List (ℕ × Outcome) → Type 0
AreOutcomes start orders os = All (λ o. IsOutcomeAt start orders o.0 o.1) os

-- a worker, as contracts see it: its handle, the front with which the handle came, the receipts of leases that it keeps, and its orders
pub record Serving : Type 0 where
  pub handle : Known
  pub first_front : ℕ
  pub kept_receipts : List Receipt
  pub orders : Orders

-- it has so many tries; its handle has seen at least what the orders say that all handles had seen, and what it had seen itself when it
-- came; its front is one that a handle came with, or a length that the log had; each receipt is of a lease
pub record IsAtWork (start : State) (w : Serving) : Type 0 where
  pub some_tries : 1 ≤ w.orders.tries
  pub few_tries : w.orders.tries ≤ 1000
  pub seen : w.orders.front ≤ w.handle.front
  pub risen : w.first_front ≤ w.handle.front
  pub had : HasSeen start w.orders.most w.handle.front
  pub leases : All (IsLeaseReceipt (SaidByCore start w.orders.front w.orders.most)) w.kept_receipts

-- servers with these orders that have served no request yet
abbrev pub AreIdle : Orders → List Serving → Type 0
AreIdle orders ws = All (λ w. (w.kept_receipts ≡ []) × (w.orders ≡ orders) × (w.first_front ≡ w.handle.front)) ws
