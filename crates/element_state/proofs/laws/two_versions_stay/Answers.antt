use Rattle.element_state.proofs.laws.two_versions_stay.Goals as goal

pub returns : goal.returns
returns g c = λ lawful. (g.met.E.Element.laws c.args.element.now lawful).two_versions
