use Rattle.reorganise.proofs.Bounds.{begins_fresh, cursor_stands, cursor_moves, join_stays}
use Rattle.reorganise.proofs.laws.cursors_pass.Goals as goal

pub returns-clause-fresh : goal.returns-clause-fresh
returns-clause-fresh c = begins_fresh

pub returns-clause-stand : goal.returns-clause-stand
returns-clause-stand c = cursor_stands

pub returns-clause-moves : goal.returns-clause-moves
returns-clause-moves c = cursor_moves

pub returns-clause-joined : goal.returns-clause-joined
returns-clause-joined c = join_stays
