use Rattle.std.proofs.Common.{Option, refl, sym, ◌∙◌}
use Rattle.handles.specs.declared.engine.Engine.{Engine}
use Rattle.handles.specs.declared.engine.Engine.TheVariants as engine
use Rattle.handles.proofs.Steps.{changes_held}
use Rattle.operator_calls.specs.Advances.{Advances}
use Rattle.operator_calls.proofs.advances.advance.Goals as goal

pub returns : goal.returns
returns c =
    changes_held (λ (old new : Option Engine). Advances old c.args.moment c.args.pieces c.args.limit c.advance_in-outcome.result new) c.args.world.now.place.value
    c.put-2.new.self.place.value c.in-Some.engine.value (engine.World c.in-World.bounded) (engine.World c.advance_in-outcome.new.bounded) c.in-Some.ensures.engine
    (sym c.deref_mut.ensures.value ∙ c.in-World.is) c.put-2.ensures (c.advance_in-outcome.new.bounded, c.advance_in-outcome.ensures, refl)
