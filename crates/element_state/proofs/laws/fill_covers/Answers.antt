use Rattle.element_state.proofs.Filled as filled
use Rattle.element_state.proofs.laws.fill_covers.Goals as goal

pub returns : goal.returns
returns g c = λ lawful. filled.fill_covers _ (g.met.E.Element.laws c.args.element.now lawful)
