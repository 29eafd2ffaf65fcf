use Rattle.reorganise.proofs.Bounds.{begins_at_bounds, bounds_stay, comes_to_bound, bounds_serve}
use Rattle.reorganise.proofs.laws.bounds_hold.Goals as goal

pub returns-clause-begin : goal.returns-clause-begin
returns-clause-begin c = begins_at_bounds

pub returns-clause-comes : goal.returns-clause-comes
returns-clause-comes c = comes_to_bound

pub returns-clause-serve : goal.returns-clause-serve
returns-clause-serve c = bounds_serve

pub returns-clause-stay : goal.returns-clause-stay
returns-clause-stay c = bounds_stay
