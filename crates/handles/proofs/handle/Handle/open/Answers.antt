use Rattle.std.proofs.Common.{ℤ, Option, arith, inl, sym, subst}
use Rattle.std.proofs.lemmas.Int.{to_z-of_z}
use Rattle.handles.specs.Leases.{Opens}
use Rattle.handles.specs.declared.engine.Engine.{Engine}
use Rattle.handles.proofs.Steps.{as_given, holds_nothing}
use Rattle.handles.proofs.handle.Handle.open.Goals as goal

pub returns-in-Ok : goal.returns-in-Ok
returns-in-Ok c =
    as_given (λ (s : ℤ). Opens c.args.self.now.place.value c.args.opening.now c.args.furthest s c.fill.new.self.place.value) _ c.fill.result (grind (arith, to_z-of_z))
    (subst (λ (o : Option Engine). Opens o c.args.opening.now c.args.furthest c.fill.result c.fill.new.self.place.value)
    (sym (holds_nothing c.args.self.now.place.value c.args.self.now.is_open c.args.self.now.says c.if-self.false))
    (inl (c.in-Ok.bounded, c.in-Ok.ensures, c.fill.ensures)))
