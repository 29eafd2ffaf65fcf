use Rattle.std.proofs.Common.{Option, refl, sym, subst, ◌∙◌}
use Rattle.handles.specs.Leases.{Leases, LeasesInto}
use Rattle.handles.specs.declared.engine.Engine.{Engine}
use Rattle.handles.specs.declared.engine.Engine.TheVariants as engine
use Rattle.handles.proofs.Steps.{changes_held, holds_nothing}
use Rattle.handles.proofs.handle.Handle.lease.Goals as goal

pub returns : goal.returns
returns c =
    subst
    (λ (closed : Option Engine). Leases c.args.self.now.place.value c.args.moment closed c.lease_into-outcome.result c.put-2.new.self.place.value c.lease_into-outcome.new.lease.place.value)
    (sym (holds_nothing c.args.lease.now.place.value c.args.lease.now.is_open c.args.lease.now.says c.if-lease.false))
    (changes_held
    (λ (old new : Option Engine). LeasesInto old c.args.moment c.lease_into-outcome.result new c.lease_into-outcome.new.lease.place.value)
    c.args.self.now.place.value c.put-2.new.self.place.value c.in-Some.engine.value (engine.World c.in-World.bounded) (engine.World c.lease_into-outcome.new.bounded)
    c.in-Some.ensures.engine (sym c.deref_mut.ensures.value ∙ c.in-World.is) c.put-2.ensures (c.lease_into-outcome.new.bounded, c.lease_into-outcome.ensures, refl))
