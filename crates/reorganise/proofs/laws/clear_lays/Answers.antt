use Rattle.reorganise.proofs.Clears.{clear_lays as law}
use Rattle.reorganise.proofs.laws.clear_lays.Goals as goal

pub returns : goal.returns
returns c = law
