use Rattle.world.proofs.Invariant.{kept_of, replayed, agrees}
use Rattle.world.specs.State.{facts_of}
use Rattle.world.proofs.world.World.lemma_agrees.Goals as goal

pub returns : goal.returns
returns c = record {
  replayed = replayed c.self.inside c.args.self.now c.self.invariant c.self.view_is;
  agrees = agrees c.self.inside c.args.self.now c.self.invariant c.self.view_is (c.lemma_kept_agrees.ensures (facts_of c.args.self.now) (kept_of c.self.inside c.args.self.now c.self.invariant c.self.view_is));
  in_pieces = (kept_of c.self.inside c.args.self.now c.self.invariant c.self.view_is).in_pieces;
  valid = (kept_of c.self.inside c.args.self.now c.self.invariant c.self.view_is).valid;
  past = (kept_of c.self.inside c.args.self.now c.self.invariant c.self.view_is).since;
  sound = (kept_of c.self.inside c.args.self.now c.self.invariant c.self.view_is).sound;
  kept = kept_of c.self.inside c.args.self.now c.self.invariant c.self.view_is;
}
