use Rattle.reorganise.proofs.Fills.{fill_lays as law}
use Rattle.reorganise.proofs.laws.fill_lays.Goals as goal

pub returns : goal.returns
returns c = law
