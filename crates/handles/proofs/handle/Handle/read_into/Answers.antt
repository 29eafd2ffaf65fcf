use Rattle.std.proofs.Common.{ℤ, Result, arith}
use Rattle.std.proofs.lemmas.Int.{to_z-of_z}
use Rattle.typed_calls.specs.Reads.{ReadsFor}
use Rattle.typed_calls.specs.declared.reads.Reads.{Reads}
use Rattle.handles.specs.declared.engine.Engine.TheVariants as engine
use Rattle.handles.proofs.Steps.{kept}
use Rattle.handles.proofs.handle.Handle.read_into.Goals as goal

pub returns-in-Ok : goal.returns-in-Ok
returns-in-Ok c =
    kept (λ (a : Result Reads ℤ). ReadsFor c.args.world.now c.args.held.now c.args.operations.now a) engine.Reads c.in-Ok.reads _ c.fill.result
    c.fill.new.self.place.value (grind (arith, to_z-of_z)) c.in-Ok.ensures c.fill.ensures
