use Rattle.std.proofs.Common.{ℤ, Option, arith, sym, ◌∙◌}
use Rattle.std.proofs.lemmas.Int.{to_z-of_z}
use Rattle.handles.specs.Txns.{ReadsUnder}
use Rattle.handles.specs.declared.engine.Engine.{Engine}
use Rattle.handles.specs.declared.engine.Engine.TheVariants as engine
use Rattle.handles.proofs.Steps.{at_held}
use Rattle.handles.proofs.handle.Handle.read_under.Goals as goal

pub returns-clause-reads : goal.returns-clause-reads
returns-clause-reads c =
    at_held (λ (lease : Option Engine) (s : ℤ). ReadsUnder c.args.world.now lease c.args.operations.now s c.read_into-status.new.self.place.value)
    c.args.self.now.place.value c.in-Some.engine.value (engine.Lease c.in-Lease.held) _ c.read_into-status.result c.in-Some.ensures.engine
    (sym c.deref.ensures ∙ c.in-Lease.is) (grind (arith, to_z-of_z)) c.read_into-status.ensures
