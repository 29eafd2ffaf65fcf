use Rattle.std.proofs.Common.{arith, ◌∙◌, sym}
use Rattle.claims.proofs.Moves.{joins}
use Rattle.claims.proofs.claims.Claims.join_seats.Goals as goal

pub join_seat-requires : goal.join_seat-requires
join_seat-requires g c = (
  c.loop-claimant.invariant.0 ∙ sym c.args.self.now.named,
  c.claimant.invariant.0 ∙ sym c.args.self.now.named,
  c.claimant.invariant.1,
  omega (arith, c.args.self.now.words),
  joins c.args.self.now.table.shared.key _ c.loop-claimant.all.me.0 _ c.claimant.inside.seat.me.0 c.loop-claimant.invariant.2,
)
