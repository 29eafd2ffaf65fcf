-- Cited by private functions alone: make_workers.
-- Workers and their handles.
use Rattle.std.specs.Prelude.{◌≡◌, ℕ, ◌≤◌, List, [], All}
use Rattle.locked_store.specs.Receipt.{Receipt}
use Rattle.locked_store.specs.State.{State}
use Rattle.locked_store.specs.Known.{Known}
use Rattle.reorganise_workers.specs.Ends.{HasSeen, IsPieceReceipt}
use Rattle.reorganise_workers.specs.inner.Jobs.{IsJob}
use Rattle.reorganise_workers.specs.declared.job.Job.{Job}

-- a worker, as contracts see it: its handle, the front with which the handle came, the receipts that it keeps, and what it is to do
pub record Filling : Type 0 where
  pub handle : Known
  pub first_front : ℕ
  pub kept_receipts : List Receipt
  pub job : Job

-- its handle has seen at least what the job says that all handles had seen, and what it had seen itself when it came; its front is one that a
-- handle came with, or a length that the log had; each receipt is of a piece of the job's element
pub record IsAtWork (start : State) (w : Filling) : Type 0 where
  pub job : IsJob w.job
  pub seen : w.job.front ≤ w.handle.front
  pub risen : w.first_front ≤ w.handle.front
  pub had : HasSeen start w.job.most w.handle.front
  pub pieces : All (IsPieceReceipt start w.job) w.kept_receipts

-- workers that have done nothing of this job yet
abbrev pub AreIdle : Job → List Filling → Type 0
AreIdle job ws = All (λ w. (w.kept_receipts ≡ []) × (w.job ≡ job) × (w.first_front ≡ w.handle.front)) ws
