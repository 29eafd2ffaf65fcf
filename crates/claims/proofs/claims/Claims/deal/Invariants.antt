use Rattle.std.proofs.Common.{◌≡◌, ◌+◌, ◌≤◌, [], false}
use Rattle.std.specs.Prelude.{vec_len, vec_capacity}
use Rattle.claims.specs.Seats.{all_drawn, any_done}
use Rattle.claims.proofs.claims.Claims.deal.Given as goal

abbrev pub invariant-loop-i : goal.invariant-loop-i
invariant-loop-i g l =
    (vec_len l.seats + 1 ≡ l._i) × (l.count ≤ vec_capacity l.seats) × (all_drawn l.seats.items ≡ []) × (any_done l.seats.items ≡ false)
    × (l.rest.table_id ≡ g.T.Drawing.table) × (l.rest.me.0.total ≡ g.T.Drawing.total) × (l.rest.me.0.drawn ≡ []) × (l.rest.me.1 ≡ []) × (l.rest.me.0.seats + l._i ≡ l.count + 1)
