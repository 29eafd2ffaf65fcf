use Rattle.replay.proofs.Follows.{headline as law}
use Rattle.replay.proofs.laws.headline.Goals as goal

pub returns : goal.returns
returns c = law
