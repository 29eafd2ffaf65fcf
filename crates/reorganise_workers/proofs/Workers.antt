-- A worker at its work.
use Rattle.std.proofs.Common.{ℕ, ◌≤◌, List, All, arith}
use Rattle.locked_store.specs.Receipt.{Receipt}
use Rattle.locked_store.specs.State.{State}
use Rattle.locked_store.specs.Known.{Known}
use Rattle.reorganise_workers.specs.Ends.{HasSeen, IsPieceReceipt}
use Rattle.reorganise_workers.specs.inner.Workers.{IsAtWork}
use Rattle.reorganise_workers.specs.declared.job.Job.{Job}

-- one piece more: the front does not fall and is one that a handle may have, and the receipts that were kept since are of pieces
pub still_at_work : (start : State) (job : Job) (before after : Known) (first : ℕ) (old new : List Receipt) → before.front ≤ after.front → HasSeen start job.most after.front
    → (All (IsPieceReceipt start job) old → All (IsPieceReceipt start job) new)
    → IsAtWork start (record { handle = before; first_front = first; kept_receipts = old; job = job })
    → IsAtWork start (record { handle = after; first_front = first; kept_receipts = new; job = job })
still_at_work start job before after first old new rises had pieces w =
    record { job = w.job; seen = omega (arith, w.seen, rises); risen = omega (arith, w.risen, rises); had = had; pieces = pieces w.pieces }
