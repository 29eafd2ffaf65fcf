use Rattle.std.proofs.Common.{◌∷◌, [], arith, refl}
use Rattle.server.proofs.one_request.serve_one.Goals as goal

pub returns-clause-own : goal.returns-clause-own
returns-clause-own g c f m at = c.serve_under-outcome.ensures.own f m (c.args.request.now ∷ []) at (0, omega arith, refl) tt
