use Rattle.reorganise.proofs.Bounds.{pieces_join, pieces_end}
use Rattle.reorganise.proofs.laws.pieces_share.Goals as goal

pub returns-clause-join : goal.returns-clause-join
returns-clause-join c = pieces_join

pub returns-clause-end : goal.returns-clause-end
returns-clause-end c = pieces_end
