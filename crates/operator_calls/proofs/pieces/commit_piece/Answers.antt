use Rattle.std.proofs.Common.{Option, refl, sym, ◌∙◌}
use Rattle.handles.specs.declared.engine.Engine.{Engine}
use Rattle.handles.specs.declared.engine.Engine.TheVariants as engine
use Rattle.handles.proofs.Steps.{changes_held}
use Rattle.operator_calls.specs.Pieces.{CommitsPiece}
use Rattle.operator_calls.proofs.pieces.commit_piece.Goals as goal

pub returns : goal.returns
returns c =
    changes_held
    (λ (old new : Option Engine). CommitsPiece old c.args.moment c.args.prepared.now.place.value c.commit_to-outcome.result new c.commit_to-outcome.new.prepared.place.value)
    c.args.world.now.place.value c.put-2.new.self.place.value c.in-Some.engine.value (engine.World c.in-World.bounded) (engine.World c.commit_to-outcome.new.bounded)
    c.in-Some.ensures.engine (sym c.deref_mut.ensures.value ∙ c.in-World.is) c.put-2.ensures (c.commit_to-outcome.new.bounded, c.commit_to-outcome.ensures, refl)
