use Rattle.std.proofs.Common.{ℤ, Option, arith, sym, ◌∙◌}
use Rattle.std.proofs.lemmas.Int.{to_z-of_z}
use Rattle.handles.specs.Checkpoints.{Takes}
use Rattle.handles.specs.declared.engine.Engine.{Engine}
use Rattle.handles.specs.declared.engine.Engine.TheVariants as engine
use Rattle.handles.proofs.Steps.{holds_nothing, into_closed}
use Rattle.handles.proofs.handle.Handle.checkpoint.Goals as goal

pub returns-clause-takes : goal.returns-clause-takes
returns-clause-takes c =
    into_closed (λ (world closed : Option Engine) (s : ℤ). Takes world closed s c.keep_checkpoint-status.new.self.place.value) c.args.self.now.place.value
    c.args.checkpoint.now.place.value c.in-Some.engine.value (engine.World c.in-World.bounded) _ c.keep_checkpoint-status.result
    (holds_nothing c.args.checkpoint.now.place.value c.args.checkpoint.now.is_open c.args.checkpoint.now.says c.if-checkpoint.false) c.in-Some.ensures.engine
    (sym c.deref.ensures ∙ c.in-World.is) (grind (arith, to_z-of_z)) c.keep_checkpoint-status.ensures
