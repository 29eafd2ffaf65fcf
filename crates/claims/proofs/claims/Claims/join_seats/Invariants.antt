use Rattle.std.proofs.Common.{◌≡◌, ◌+◌, ◌<◌, ◌≤◌, ◌⊎◌, [], ℕ, true}
use Rattle.std.specs.Prelude.{vec_len}
use Rattle.claims.specs.Draws.{times, late}
use Rattle.claims.specs.Seats.{all_drawn, any_done}
use Rattle.claims.proofs.claims.Claims.join_seats.Given as goal

abbrev pub invariant-loop-claimant : goal.invariant-loop-claimant
invariant-loop-claimant g l =
    (l.all.table_id ≡ g.T.Drawing.table) × (l.all.me.1 ≡ []) × (0 < l.all.me.0.seats) × (l.all.me.0.seats + vec_len l.seats ≡ vec_len l.fn.seats) × (l.all.me.0.total ≡ g.T.Drawing.total)
    × ((x : ℕ) → times x l.all.me.0.drawn + times x (all_drawn l.seats.items) ≡ times x (all_drawn l.fn.seats.items))
    × (any_done l.fn.seats.items ≡ true → (0 < late g.T.Drawing.total l.all.me.0.drawn) ⊎ (any_done l.seats.items ≡ true))
    × (late g.T.Drawing.total l.all.me.0.drawn + vec_len l.seats ≤ vec_len l.fn.seats)

abbrev pub decreases-loop-claimant : goal.decreases-loop-claimant
decreases-loop-claimant g l = goal.left-loop-claimant g l
