use Rattle.std.proofs.Common.{ℤ, Result, arith}
use Rattle.std.proofs.lemmas.Int.{to_z-of_z}
use Rattle.checkpoint.specs.Checkpoint.{Checkpoint}
use Rattle.typed_calls.specs.Checkpoints.{TakesOf}
use Rattle.handles.specs.declared.engine.Engine.TheVariants as engine
use Rattle.handles.proofs.Steps.{kept}
use Rattle.handles.proofs.handle.Handle.keep_checkpoint.Goals as goal

pub returns-in-Ok : goal.returns-in-Ok
returns-in-Ok c =
    kept (λ (a : Result Checkpoint ℤ). TakesOf c.args.world.now a) engine.Checkpoint c.in-Ok.checkpoint _ c.fill.result c.fill.new.self.place.value
    (grind (arith, to_z-of_z)) c.in-Ok.ensures c.fill.ensures
