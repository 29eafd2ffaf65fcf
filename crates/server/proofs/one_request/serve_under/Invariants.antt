use Rattle.std.proofs.Common.{◌≡◌, ℕ, ◌+◌, ◌≤◌, List, length}
use Rattle.std.specs.List.{Contains}
use Rattle.server.specs.declared.request.Request.{Request}
use Rattle.server.specs.Outcomes.{FailedSoOften, IsHeld, IsInForce, Sees}
use Rattle.server.specs.inner.Tries.{StayLeases}
use Rattle.server.proofs.one_request.serve_under.Given as goal

abbrev pub invariant-loop-i : goal.invariant-loop-i
invariant-loop-i g l =
    record {
      retries : (g.P.Port.tally l.port).retries ≡ (g.P.Port.tally l.fn.port).retries + l._i;
      held : (f m : ℕ) (requests : List Request) → Sees g.P.Port.has_seen f m (g.P.Port.front l.fn.port) → Contains requests l.request → IsHeld (g.P.Port.may f m) requests l.fn.held → IsHeld (g.P.Port.may f m) requests l.at_hand;
      failed : (f m : ℕ) (requests : List Request) → Sees g.P.Port.has_seen f m (g.P.Port.front l.fn.port) → Contains requests l.request → IsHeld (g.P.Port.may f m) requests l.fn.held → FailedSoOften (g.P.Port.may f m) l.request.moment l.request.ops l._i;
      none : l._i ≡ 0 → IsInForce l.request.moment l.fn.held → IsInForce l.request.moment l.at_hand × (g.P.Port.kept_receipts l.port ≡ g.P.Port.kept_receipts l.fn.port);
      rises : g.P.Port.front l.fn.port ≤ g.P.Port.front l.port;
      stays : (m : ℕ) → g.P.Port.has_seen m (g.P.Port.front l.fn.port) → g.P.Port.has_seen m (g.P.Port.front l.port);
      counted : g.P.Port.count l.port + length (g.P.Port.kept_receipts l.fn.port) ≡ g.P.Port.count l.fn.port + length (g.P.Port.kept_receipts l.port);
      refusals : g.P.Port.refused l.fn.port + (g.P.Port.tally l.port).retries ≤ g.P.Port.refused l.port + (g.P.Port.tally l.fn.port).retries;
      own_handle : g.P.Port.id l.port ≡ g.P.Port.id l.fn.port;
      kept_receipts : (f m : ℕ) → Sees g.P.Port.has_seen f m (g.P.Port.front l.fn.port) → StayLeases (g.P.Port.may f m) (g.P.Port.kept_receipts l.fn.port) (g.P.Port.kept_receipts l.port);
    }
