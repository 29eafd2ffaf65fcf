use Rattle.std.proofs.Common.{ℤ, Result, arith}
use Rattle.std.proofs.lemmas.Int.{to_z-of_z}
use Rattle.typed_calls.specs.Snapshot.{Taken}
use Rattle.typed_calls.specs.Snapshots.{SnapshotsIn}
use Rattle.handles.specs.declared.engine.Engine.TheVariants as engine
use Rattle.handles.proofs.Steps.{kept}
use Rattle.handles.proofs.handle.Handle.keep_snapshot.Goals as goal

pub returns-in-Ok : goal.returns-in-Ok
returns-in-Ok c =
    kept (λ (a : Result Taken ℤ). SnapshotsIn c.args.bounded.now c.args.moment c.args.held.now.lease a) engine.Snapshot c.in-Ok.snapshot _ c.fill.result
    c.fill.new.self.place.value (grind (arith, to_z-of_z)) c.in-Ok.ensures c.fill.ensures
