-- Cited by the contracts of reconcile, lemma_receipts_are_the_log.
-- Receipts against a log.
use Rattle.std.specs.Prelude.{◌≡◌, ◌≢◌, ℕ, ◌+◌, ◌-◌, ◌<◌, ◌≤◌, List, length, Some, slice_get}
use Rattle.replay.specs.declared.entry.Entry.{Entry}
use Rattle.rollout.specs.Receipt.{Receipt}
use Rattle.rollout.specs.State.{State}
use Rattle.locked_store.specs.Cores.{IsCore}

-- the entry of the receipt is at its place in the log, counted from 1, if so many entries came before those of the log
abbrev pub Stands : ℕ → List Entry → Receipt → Type 0
Stands before log r = (before < r.place) × (slice_get log (r.place - (before + 1)) ≡ Some r.entry)

abbrev pub EachStands : ℕ → List Entry → List Receipt → Type 0
EachStands before log rs = (i : ℕ) (r : Receipt) → slice_get rs i ≡ Some r → Stands before log r

-- no two of them have one place
abbrev pub EachOnce : List Receipt → Type 0
EachOnce rs = (i j : ℕ) (r q : Receipt) → j < i → slice_get rs i ≡ Some r → slice_get rs j ≡ Some q → q.place ≢ r.place

-- each receipt is in the log, and no place comes twice
pub record Agree (before : ℕ) (log : List Entry) (rs : List Receipt) : Type 0 where
  pub stands : EachStands before log rs
  pub once : EachOnce rs

-- ---- receipts that are as many as the entries

abbrev pub AreAfter : ℕ → List Receipt → Type 0
AreAfter since rs = (i : ℕ) (r : Receipt) → slice_get rs i ≡ Some r → since < r.place

-- the receipt at i is that of the entry at this place
abbrev pub IsReceiptAt : ℕ → List Entry → List Receipt → ℕ → ℕ → Type 0
IsReceiptAt before log rs place i = (r : Receipt) × (slice_get rs i ≡ Some r) × (r.place ≡ place) × Stands before log r

-- each entry after so many has its receipt, and no other
abbrev pub AreTheLog : ℕ → List Entry → ℕ → List Receipt → Type 0
AreTheLog before log since rs =
    (place : ℕ) → since < place → place ≤ before + length log → (i : ℕ) × IsReceiptAt before log rs place i × ((j : ℕ) → IsReceiptAt before log rs place j → j ≡ i)

-- receipts that agree with the log, come after so many entries, and are as many as the entries from there on are that part of the log
abbrev pub ReceiptsAreTheLog : Type 0
ReceiptsAreTheLog = (before : ℕ) (log : List Entry) (since : ℕ) (rs : List Receipt) → Agree before log rs → AreAfter since rs → before + length log ≡ since + length rs → AreTheLog before log since rs

-- ---- receipts that a call gives

-- the receipt's entry is in the log of a core behind the lock, after all that a handle of this front has seen
pub record IsLogged (start : State) (front : ℕ) (receipt : Receipt) : Type 0 where
  pub core : State
  pub is_core : IsCore start core
  pub stands : Stands core.opening.place core.log receipt
  pub new : front < receipt.place
