use Rattle.std.proofs.Common.{arith, ◌∙◌, sym}
use Rattle.claims.proofs.Moves.{draws}
use Rattle.claims.proofs.claims.Claims.draw.Goals as goal

pub fetch_add-requires : goal.fetch_add-requires
fetch_add-requires g c = (
  c.requires.own ∙ sym c.args.self.now.named,
  omega (arith, c.args.self.now.words),
  draws c.args.self.now.table.shared.key _ c.args.seat.now.id c.args.seat.now.me c.requires.room,
)
