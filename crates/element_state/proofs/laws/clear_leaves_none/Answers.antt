use Rattle.element_state.proofs.Filled as filled
use Rattle.element_state.proofs.laws.clear_leaves_none.Goals as goal

pub returns : goal.returns
returns g c = λ lawful range. filled.clear_leaves_none _ _ (g.met.E.Element.clears c.args.element.now lawful range)
