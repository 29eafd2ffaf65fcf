use Rattle.std.proofs.Common.{◌≡◌, ◌+◌, ◌<◌, ◌≤◌, length, All}
use Rattle.locked_store.specs.Known.{own_of}
use Rattle.reorganise_workers.specs.Ends.{FailedSoOften, HasSeen, IsPieceReceipt}
use Rattle.reorganise_workers.proofs.worker.work_piece.Given as goal

abbrev pub invariant-loop-i : goal.invariant-loop-i
invariant-loop-i g l =
    (own_of l.me ≡ own_of l.fn.me)
    × (l.me.count + length l.fn.kept_receipts.items ≡ l.fn.me.count + length l.kept_receipts.items)
    × (l.fn.me.front ≤ l.me.front)
    × (All (IsPieceReceipt g.L.SharedLedger.start l.job) l.fn.kept_receipts.items → All (IsPieceReceipt g.L.SharedLedger.start l.job) l.kept_receipts.items)
    × (l.failed < l.job.tries)
    × FailedSoOften g.L.SharedLedger.start l.job l.piece l.failed
    × HasSeen g.L.SharedLedger.start l.job.most l.me.front
    × (l.fn.me.refused + l.failed ≤ l.me.refused)
