use Rattle.element_state.proofs.Visible.{visible_agree}
use Rattle.element_state.proofs.laws.visible_rows_agree.Goals as goal

pub returns : goal.returns
returns c = visible_agree
