use Rattle.std.proofs.Common.{inl, refl}
use Rattle.std.specs.Prelude.{Ok, Err}
use Rattle.server.proofs.Ends.{still_leases}
use Rattle.server.proofs.Says.{grant_back, grant_overdue}
use Rattle.server.proofs.one_request.held_or_new.Goals as goal

pub returns-in-Ok-clause-kept_receipts : goal.returns-in-Ok-clause-kept_receipts
returns-in-Ok-clause-kept_receipts g c f m at = still_leases (g.P.Port.may f m) (g.P.Port.kept_receipts c.args.port.now) (g.P.Port.kept_receipts c.lease.new.self) (Ok c.in-Ok.granted) (c.in-Ok.ensures.keeps f m at)

pub returns-in-Err-WentBack-clause-own : goal.returns-in-Err-WentBack-clause-own
returns-in-Err-WentBack-clause-own g c f m n requests at = grant_back (g.P.Port.may f m) c.args.request.now.moment c.in-Err-WentBack.field-0 _ c.in-Err-WentBack.field-0-is (c.in-Err-WentBack.ensures.says f m at)

pub returns-in-Err-World-MomentTooLarge-clause-own : goal.returns-in-Err-World-MomentTooLarge-clause-own
returns-in-Err-World-MomentTooLarge-clause-own g c f m n requests at =
    inl (
      refl,
      grant_overdue (g.P.Port.may f m) c.args.request.now.moment c.in-Err-World-MomentTooLarge.field-0 c.in-Err-World-MomentTooLarge.field-0-0 c.in-Err-World-MomentTooLarge.field-0-is c.in-Err-World-MomentTooLarge.field-0-0-is
          (c.in-Err-World-MomentTooLarge.ensures.says f m at),
    )

pub returns-in-Err-WentBack-clause-kept_receipts : goal.returns-in-Err-WentBack-clause-kept_receipts
returns-in-Err-WentBack-clause-kept_receipts g c f m at =
    still_leases (g.P.Port.may f m) (g.P.Port.kept_receipts c.args.port.now) (g.P.Port.kept_receipts c.lease.new.self) (Err c.in-Err-WentBack.field-0) (c.in-Err-WentBack.ensures.keeps f m at)

pub returns-in-Err-World-MomentTooLarge-clause-kept_receipts : goal.returns-in-Err-World-MomentTooLarge-clause-kept_receipts
returns-in-Err-World-MomentTooLarge-clause-kept_receipts g c f m at =
    still_leases (g.P.Port.may f m) (g.P.Port.kept_receipts c.args.port.now) (g.P.Port.kept_receipts c.lease.new.self) (Err c.in-Err-World-MomentTooLarge.field-0) (c.in-Err-World-MomentTooLarge.ensures.keeps f m at)

pub returns-in-Err-World-Memory-clause-kept_receipts : goal.returns-in-Err-World-Memory-clause-kept_receipts
returns-in-Err-World-Memory-clause-kept_receipts g c f m at =
    still_leases (g.P.Port.may f m) (g.P.Port.kept_receipts c.args.port.now) (g.P.Port.kept_receipts c.lease.new.self) (Err c.in-Err-World-Memory.field-0) (c.in-Err-World-Memory.ensures.keeps f m at)

pub returns-in-Ok-clause-granted : goal.returns-in-Ok-clause-granted
returns-in-Ok-clause-granted g c f m requests at among held = (c.args.request.now, among, c.in-Ok.ensures.says f m at)
