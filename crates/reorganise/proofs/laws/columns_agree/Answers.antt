use Rattle.reorganise.proofs.Columns.{columns_agree as law}
use Rattle.reorganise.proofs.laws.columns_agree.Goals as goal

pub returns : goal.returns
returns c = law
