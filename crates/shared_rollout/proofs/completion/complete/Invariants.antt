use Rattle.shared_rollout.proofs.Acts.{Went}
use Rattle.shared_rollout.proofs.completion.complete.Given as goal

abbrev pub invariant-loop-i : goal.invariant-loop-i
invariant-loop-i g l =
    Went g.L.SharedLedger.start l.pieces l.limit l.tries l.fn.moment l.fn.me l.fn.receipts.items l.now l.me l.receipts.items
