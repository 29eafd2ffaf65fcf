-- What many servers answer, from what their tasks came to.
use Rattle.std.proofs.Common.{◌≡◌, ℕ, ◌+◌, ◌≤◌, List, length, map, reverse, sum_by, All, sym, ap, ◌∙◌, arith}
use Rattle.std.proofs.lemmas.List.{reverse-reverse, length-map, length-reverse}
use Rattle.std.proofs.lemmas.List.Sums.{sum_by-le}
use Rattle.tasks.proofs.Handed.{map_reverse, map_map, sum_reverse, sum_map}
use Rattle.tasks.specs.Outcomes.{IsRow, held_in}
use Rattle.locked_store.specs.Receipt.{Receipt}
use Rattle.locked_store.specs.State.{State}
use Rattle.locked_store.specs.Known.{Known, own_of, total_count, total_refused, IsLeastFront}
use Rattle.locked_store.proofs.Fronts.{back_risen}
use Rattle.server.specs.HandlePorts.{SaidByCore}
use Rattle.server.specs.Outcomes.{receipts_of, tries_of, IsLeaseReceipt}
use Rattle.server.specs.Works.{Orders, Serving, AreIdle, IsOutcomeAt}
use Rattle.server.specs.Serve.{IsMostFront, Serves}
use Rattle.server.specs.declared.request.Request.{Request}
use Rattle.server.specs.declared.request.Outcome.{Outcome}

-- the handles of all servers, the last one first, are the handles that were handed in
pub given_back : (handles : List Known) (ws : List Serving) → map (λ w. w.handle) ws ≡ reverse handles → reverse (map (λ w. w.handle) ws) ≡ handles
given_back handles ws staff = ap reverse staff ∙ reverse-reverse handles

-- idle servers keep nothing
idle_none : (orders : Orders) (ws : List Serving) → AreIdle orders ws → sum_by (λ w. length w.kept_receipts) ws ≡ 0
idle_none orders ws idle = omega (arith, sum_by-le (λ (w : Serving). length w.kept_receipts) 0 ws (λ i d lt. omega (arith, ap (λ (rs : List Receipt). length rs) (idle i d lt).0)))

-- each server has all requests before it
pub planned : (orders : Orders) (ws : List Serving) (total : ℕ) → AreIdle orders ws → total ≡ length orders.requests → All (λ w. length w.orders.requests ≡ total) ws
planned orders ws total idle is i d lt = ap (λ (o : Orders). length o.requests) (idle i d lt).1 ∙ sym is

refusals : (handles : List Known) (ws : List Serving) → map (λ w. w.handle) ws ≡ reverse handles → total_refused handles ≡ sum_by (λ w. w.handle.refused) ws
refusals handles ws staff = sym (sum_reverse (λ (h : Known). h.refused) handles) ∙ ap (sum_by (λ (h : Known). h.refused)) (sym staff) ∙ sum_map (λ (h : Known). h.refused) (λ (w : Serving). w.handle) ws

shares : (handles : List Known) (ws : List Serving) → map (λ w. w.handle) ws ≡ reverse handles → total_count handles ≡ sum_by (λ w. w.handle.count) ws
shares handles ws staff = sym (sum_reverse (λ (h : Known). h.count) handles) ∙ ap (sum_by (λ (h : Known). h.count)) (sym staff) ∙ sum_map (λ (h : Known). h.count) (λ (w : Serving). w.handle) ws

numbers : (handles : List Known) (ws : List Serving) → handles ≡ reverse (map (λ w. w.handle) ws) → map own_of handles ≡ reverse (map (λ w. own_of w.handle) ws)
numbers handles ws is =
    ap (map own_of) is ∙ map_reverse own_of (map (λ (w : Serving). w.handle) ws) ∙ ap reverse (map_map own_of (λ (w : Serving). w.handle) ws)

-- which server it is: its handle, and the front with which the handle came
abbrev which : Serving → (ℕ × ℕ) × ℕ
which w = (own_of w.handle, w.first_front)

pub serves : (start : State) (requests : List Request) (tries front most : ℕ) (handles : List Known) (ws ps : List Serving) (outcomes : List (ℕ × Outcome)) (back : List Known) (receipts : List (List Receipt))
    → IsLeastFront handles front → IsMostFront handles most → map (λ w. w.handle) ws ≡ reverse handles → AreIdle (record { requests = requests; tries = tries; front = front; most = most }) ws → IsRow (length requests) outcomes
    → ((orders : Orders) → All (λ w. w.orders ≡ orders) ws → All (λ o. IsOutcomeAt start orders o.0 o.1) outcomes)
    → map which ps ≡ map which ws
    → ((orders : Orders) → All (λ w. w.orders ≡ orders) ws → All (λ w. w.orders ≡ orders) ps)
    → sum_by (λ w. w.handle.count) ps + sum_by (λ w. length w.kept_receipts) ws ≡ sum_by (λ w. w.handle.count) ws + sum_by (λ w. length w.kept_receipts) ps + held_in receipts_of outcomes
    → sum_by (λ w. w.handle.refused) ws + held_in tries_of outcomes ≤ sum_by (λ w. w.handle.refused) ps
    → back ≡ reverse (map (λ w. w.handle) ps) → All (λ w. w.first_front ≤ w.handle.front) ps → length receipts ≡ length ps → sum_by length receipts ≡ sum_by (λ w. length w.kept_receipts) ps
    → ((orders : Orders) → All (λ w. w.orders ≡ orders) ps → All (All (IsLeaseReceipt (SaidByCore start orders.front orders.most))) receipts)
    → Serves start requests tries handles outcomes back receipts
serves start requests tries front most handles ws ps outcomes back receipts least greatest staff idle row fits same plans counted tried back_is risen lists kept_receipts leases =
    let orders : Orders = record { requests = requests; tries = tries; front = front; most = most } in
    let on_plan : All (λ (w : Serving). w.orders ≡ orders) ws = λ i d lt. (idle i d lt).1 in
    let first : handles ≡ reverse (map (λ (w : Serving). w.handle) ws) = sym (given_back handles ws staff) in
    let ids : map (λ (w : Serving). own_of w.handle) ps ≡ map (λ (w : Serving). own_of w.handle) ws =
    sym (map_map (λ (p : (ℕ × ℕ) × ℕ). p.0) which ps) ∙ ap (map (λ (p : (ℕ × ℕ) × ℕ). p.0)) same ∙ map_map (λ (p : (ℕ × ℕ) × ℕ). p.0) which ws in
    let firsts : map (λ (w : Serving). w.first_front) ps ≡ map (λ (w : Serving). w.first_front) ws =
    sym (map_map (λ (p : (ℕ × ℕ) × ℕ). p.1) which ps) ∙ ap (map (λ (p : (ℕ × ℕ) × ℕ). p.1)) same ∙ map_map (λ (p : (ℕ × ℕ) × ℕ). p.1) which ws in
    let staff_back : map (λ (w : Serving). w.handle) ps ≡ reverse back = sym (ap reverse back_is ∙ reverse-reverse (map (λ (w : Serving). w.handle) ps)) in
    record {
      front = front;
      most = most;
      least = least;
      greatest = greatest;
      each = row;
      own = fits orders on_plan;
      same = numbers back ps back_is ∙ ap reverse ids ∙ sym (numbers handles ws first);
      risen = back_risen (λ (w : Serving). w.handle) (λ (w : Serving). w.first_front) handles back ws ps staff (λ i d lt. (idle i d lt).2) firsts risen back_is;
      counted = omega (arith, counted, idle_none orders ws idle, shares handles ws staff, shares back ps staff_back, kept_receipts);
      tried = omega (arith, tried, refusals handles ws staff, refusals back ps staff_back);
      lists = lists ∙ sym (length-map ps which) ∙ ap (λ (l : List ((ℕ × ℕ) × ℕ)). length l) same ∙ length-map ws which ∙ sym (length-map ws (λ (w : Serving). w.handle)) ∙ ap (λ (l : List Known). length l) staff ∙ length-reverse handles;
      leases = leases orders (plans orders on_plan);
    }
