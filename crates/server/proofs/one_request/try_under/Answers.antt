use Rattle.std.proofs.Common.{rules, arith}
use Rattle.server.proofs.one_request.try_under.Goals as goal

pub returns-in_err-prepared-clause-own : goal.returns-in_err-prepared-clause-own
returns-in_err-prepared-clause-own g c f m n requests at granted = let h = c.in_err-prepared.ensures.own f m n requests at granted in search rules

pub returns-clause-failed : goal.returns-clause-failed
returns-clause-failed g c f m at = c.committed_by.ensures.failed f m (omega (arith, at.0, c.in_ok-prepared.ensures.rises), c.in_ok-prepared.ensures.stays m at.1)

pub returns-clause-own : goal.returns-clause-own
returns-clause-own g c f m n requests at granted = c.committed_by.ensures.own f m n requests (omega (arith, at.0, c.in_ok-prepared.ensures.rises), c.in_ok-prepared.ensures.stays m at.1)
