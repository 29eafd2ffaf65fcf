-- Cited by the contracts of reconcile.
-- What reconcile answers.
use Rattle.std.specs.Prelude.{◌≡◌, ◌≢◌, ℕ, ◌+◌, ◌-◌, ◌<◌, ◌≤◌, ◌⊎◌, List, length, slice_get, Option, Some, None}
use Rattle.replay.specs.declared.entry.Entry.{Entry}
use Rattle.rollout.specs.Receipt.{Receipt}
use Rattle.locked_store.specs.declared.fault.ReceiptFault.{ReceiptFault}
use Rattle.locked_store.specs.declared.fault.ReceiptFault.TheVariants.{NoPlace, OtherEntry, Twice, CutOff, Memory}
use Rattle.locked_store.specs.Receipts.{Stands}

-- the receipt at i stands, and none before it has its place
abbrev pub IsFine : ℕ → List Entry → List Receipt → ℕ → Receipt → Type 0
IsFine before log rs i r = Stands before log r × ((j : ℕ) (q : Receipt) → j < i → slice_get rs j ≡ Some q → q.place ≢ r.place)

abbrev pub FineBelow : ℕ → List Entry → List Receipt → ℕ → Type 0
FineBelow before log rs n = (i : ℕ) (r : Receipt) → i < n → slice_get rs i ≡ Some r → IsFine before log rs i r

-- the first faulty receipt is at i
abbrev pub FirstAt : ℕ → List Entry → List Receipt → (ℕ → Receipt → Type 0) → Type 0
FirstAt before log rs fault = (i : ℕ) × (r : Receipt) × (slice_get rs i ≡ Some r) × FineBelow before log rs i × fault i r

-- what is wrong with a receipt, whatever the others are. Of a place before those of the log nothing is known any more
abbrev pub IsAmiss : ℕ → List Entry → Receipt → ReceiptFault → Type 0
IsAmiss before log r (NoPlace place) = (r.place ≡ place) × ((place ≡ 0) ⊎ (before + length log < place))
IsAmiss before log r (OtherEntry place) = (r.place ≡ place) × (before < place) × (place ≤ before + length log) × (slice_get log (place - (before + 1)) ≢ Some r.entry)
IsAmiss before log r (CutOff place) = (r.place ≡ place) × (0 < place) × (place ≤ before)
IsAmiss before log r (Twice place) = ⊥
IsAmiss before log r Memory = ⊥

abbrev pub HasPlace : ℕ → List Entry → Receipt → Option ReceiptFault → Type 0
HasPlace before log r None = Stands before log r
HasPlace before log r (Some fault) = IsAmiss before log r fault

-- all receipts are marked in one place, which the first one makes: out of memory comes only if that
-- one has no fault
abbrev pub Faulty : ℕ → List Entry → List Receipt → ReceiptFault → Type 0
Faulty before log rs (NoPlace place) = FirstAt before log rs (λ i r. IsAmiss before log r (NoPlace place))
Faulty before log rs (OtherEntry place) = FirstAt before log rs (λ i r. IsAmiss before log r (OtherEntry place))
Faulty before log rs (Twice place) = FirstAt before log rs (λ i r. (r.place ≡ place) × Stands before log r × ((j : ℕ) × (q : Receipt) × (j < i) × (slice_get rs j ≡ Some q) × (q.place ≡ place)))
Faulty before log rs (CutOff place) = FirstAt before log rs (λ i r. IsAmiss before log r (CutOff place))
Faulty before log rs Memory = FineBelow before log rs 1
