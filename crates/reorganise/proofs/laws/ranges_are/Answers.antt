use Rattle.reorganise.proofs.Bounds.{fill_range, clear_range, clear_is_of_kind}
use Rattle.reorganise.proofs.laws.ranges_are.Goals as goal

pub returns-clause-fill : goal.returns-clause-fill
returns-clause-fill c = fill_range

pub returns-clause-clear : goal.returns-clause-clear
returns-clause-clear c = clear_range

pub returns-clause-kind : goal.returns-clause-kind
returns-clause-kind c = clear_is_of_kind
