use Rattle.std.proofs.Common.{◌≡◌, length}
use Rattle.std.specs.Prelude.{vec_len}
use Rattle.locked_store.specs.Faults.{FineBelow}
use Rattle.locked_store.proofs.Marks.{Marked, Marks}
use Rattle.locked_store.proofs.receipts.check_receipts.Given as goal

abbrev pub invariant-loop-receipt : goal.invariant-loop-receipt
invariant-loop-receipt l =
    (vec_len l.seen ≡ length l.log) × FineBelow l.start l.log l.receipts l.receipt-index
    × Marked l.start l.receipts l.receipt-index l.seen.items (length l.log) × Marks l.start l.receipts l.receipt-index l.seen.items
