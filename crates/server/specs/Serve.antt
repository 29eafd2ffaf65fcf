-- Cited by the contracts of serve.
-- What many servers answer.
use Rattle.std.specs.Prelude.{◌≡◌, ℕ, ◌+◌, ◌<◌, ◌≤◌, ◌⊎◌, List, length, All, map, sum_by}
use Rattle.tasks.specs.Outcomes.{IsRow, held_in}
use Rattle.tasks.specs.declared.fault.TaskFault.{TaskFault}
use Rattle.tasks.specs.declared.fault.TaskFault.TheVariants as task_fault
use Rattle.locked_store.specs.Receipt.{Receipt}
use Rattle.locked_store.specs.State.{State}
use Rattle.locked_store.specs.Known.{Known, own_of, total_count, total_refused, HaveRisen, IsLeastFront}
use Rattle.server.specs.HandlePorts.{SaidByCore}
use Rattle.server.specs.Outcomes.{receipts_of, tries_of, IsLeaseReceipt}
use Rattle.server.specs.Works.{AreOutcomes}
use Rattle.server.specs.declared.request.Request.{Request}
use Rattle.server.specs.declared.request.Outcome.{Outcome}
use Rattle.server.specs.declared.serve_all.ServeFault.{ServeFault}
use Rattle.server.specs.declared.serve_all.ServeFault.TheVariants as serve_fault

abbrev pub IsCount : ℕ → ℕ → ℕ → Type 0
IsCount handles requests tries = (1 ≤ handles) × (handles ≤ 64) × (1 ≤ tries) × (tries ≤ 1000) × (requests ≤ 1000000)

-- bad numbers, and only those, are refused as such: out of memory comes after them
abbrev pub IsRefused : ℕ → ℕ → ℕ → ServeFault → Type 0
IsRefused handles requests tries serve_fault.BadCount = (handles ≡ 0) ⊎ ((64 < handles) ⊎ ((tries ≡ 0) ⊎ ((1000 < tries) ⊎ (1000000 < requests))))
IsRefused handles requests tries serve_fault.Memory = IsCount handles requests tries

-- the greatest log length that any of these handles has seen
pub record IsMostFront (handles : List Known) (front : ℕ) : Type 0 where
  pub seen : All (λ h. h.front ≤ front) handles
  pub least : (other : ℕ) → All (λ h. h.front ≤ other) handles → front ≤ other

-- one outcome for each request, by rising number, and each is one that may become of its own request in this shared world, after all that
-- the handles had seen, with so many tries; all handles are back, in their order, none with a lower front, and their shares rose together by
-- the receipts, those in outcomes and the others; the others are a list for each handle, of leases alone; the failed tries that outcomes tell
-- of are different ones, each a commit that was refused meanwhile
pub record Serves (start : State) (requests : List Request) (tries : ℕ) (handles : List Known) (outcomes : List (ℕ × Outcome)) (back : List Known) (receipts : List (List Receipt)) : Type 0 where
  pub front : ℕ
  pub most : ℕ
  pub least : IsLeastFront handles front
  pub greatest : IsMostFront handles most
  pub each : IsRow (length requests) outcomes
  pub own : AreOutcomes start (record { requests = requests; tries = tries; front = front; most = most }) outcomes
  pub same : map own_of back ≡ map own_of handles
  pub risen : HaveRisen handles back
  pub counted : total_count back ≡ total_count handles + held_in receipts_of outcomes + sum_by length receipts
  pub tried : total_refused handles + held_in tries_of outcomes ≤ total_refused back
  pub lists : length receipts ≡ length handles
  pub leases : All (All (IsLeaseReceipt (SaidByCore start front most))) receipts

abbrev pub to_fault : TaskFault → ServeFault
to_fault task_fault.BadCount = serve_fault.BadCount
to_fault task_fault.Memory = serve_fault.Memory
