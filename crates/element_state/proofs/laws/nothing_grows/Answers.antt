use Rattle.element_state.proofs.laws.nothing_grows.Goals as goal

pub returns : goal.returns
returns g c = λ lawful. (g.met.E.Element.laws c.args.element.now lawful).no_growth
