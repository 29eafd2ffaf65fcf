use Rattle.std.proofs.Common.{arith}
use Rattle.std.proofs.lemmas.List.Elements.{All-same}
use Rattle.server.specs.Outcomes.{IsLeaseReceipt}
use Rattle.server.proofs.one_request.try_once.Goals as goal

pub returns-in-Err-clause-own : goal.returns-in-Err-clause-own
returns-in-Err-clause-own g c f m n requests at among held = c.in-Err.ensures.own f m n requests at

pub returns-in-Err-try_under-clause-own : goal.returns-in-Err-try_under-clause-own
returns-in-Err-try_under-clause-own g c f m n requests at among held =
    c.in-Err-try_under.ensures.own f m n requests (omega (arith, at.0, c.in-Ok.ensures.rises), c.in-Ok.ensures.stays m at.1) (c.in-Ok.ensures.granted f m requests at among held)

pub returns-in-Ok-true-clause-kept_receipts : goal.returns-in-Ok-true-clause-kept_receipts
returns-in-Ok-true-clause-kept_receipts g c f m at all = All-same (IsLeaseReceipt (g.P.Port.may f m)) _ _ c.in-Ok-true.ensures.kept_receipts (c.in-Ok.ensures.kept_receipts f m at all)

pub returns-in-Ok-false-clause-kept_receipts : goal.returns-in-Ok-false-clause-kept_receipts
returns-in-Ok-false-clause-kept_receipts g c f m at all = All-same (IsLeaseReceipt (g.P.Port.may f m)) _ _ c.in-Ok-false.ensures.kept_receipts (c.in-Ok.ensures.kept_receipts f m at all)

pub returns-in-Err-try_under-clause-kept_receipts : goal.returns-in-Err-try_under-clause-kept_receipts
returns-in-Err-try_under-clause-kept_receipts g c f m at all = All-same (IsLeaseReceipt (g.P.Port.may f m)) _ _ c.in-Err-try_under.ensures.kept_receipts (c.in-Ok.ensures.kept_receipts f m at all)
