use Rattle.std.proofs.Common.{arith, ◌∙◌, sym}
use Rattle.claims.proofs.Moves.{splits}
use Rattle.claims.proofs.claims.Claims.deal.Goals as goal

pub split_seat-seat-requires : goal.split_seat-seat-requires
split_seat-seat-requires g c = (
  c.loop-i.invariant.4 ∙ sym c.args.self.now.named,
  omega (arith, c.args.self.now.words),
  splits c.args.self.now.table.shared.key _ c.loop-i.rest.me.0 (omega (arith, c.loop-i.invariant.8)) c.loop-i.invariant.6,
)
