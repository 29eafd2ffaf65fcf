use Rattle.std.proofs.Common.{ℤ, Option, arith, sym, ◌∙◌}
use Rattle.std.proofs.lemmas.Int.{to_z-of_z}
use Rattle.handles.specs.Snapshots.{SnapshotsUnder}
use Rattle.handles.specs.declared.engine.Engine.{Engine}
use Rattle.handles.specs.declared.engine.Engine.TheVariants as engine
use Rattle.handles.proofs.Steps.{at_held}
use Rattle.handles.proofs.handle.Handle.snapshot_under.Goals as goal

pub returns-clause-snapshots : goal.returns-clause-snapshots
returns-clause-snapshots c =
    at_held (λ (lease : Option Engine) (s : ℤ). SnapshotsUnder c.args.bounded.now c.args.moment lease s c.keep_snapshot-status.new.self.place.value)
    c.args.self.now.place.value c.in-Some.engine.value (engine.Lease c.in-Lease.held) _ c.keep_snapshot-status.result c.in-Some.ensures.engine
    (sym c.deref.ensures ∙ c.in-Lease.is) (grind (arith, to_z-of_z)) c.keep_snapshot-status.ensures
