use Rattle.std.proofs.Common.{ℤ, Option, arith, inl, inr, refl, sym, subst}
use Rattle.std.proofs.lemmas.Int.{to_z-of_z}
use Rattle.handles.specs.Checkpoints.{OpensHere}
use Rattle.handles.specs.declared.engine.Engine.{Engine}
use Rattle.handles.proofs.Steps.{as_given, holds_nothing}
use Rattle.handles.proofs.handle.Handle.open_at.Goals as goal

pub returns-in-Ok : goal.returns-in-Ok
returns-in-Ok c =
    as_given (λ (s : ℤ). OpensHere c.args.self.now.place.value c.args.bytes.now c.args.furthest s c.fill.new.self.place.value) _ c.fill.result (grind (arith, to_z-of_z))
    (subst (λ (o : Option Engine). OpensHere o c.args.bytes.now c.args.furthest c.fill.result c.fill.new.self.place.value)
    (sym (holds_nothing c.args.self.now.place.value c.args.self.now.is_open c.args.self.now.says c.if-self.false))
    (inl (c.in-Ok.bounded, c.in-Ok.ensures.opens, c.in-Ok.ensures.saved, c.fill.ensures)))

pub returns-in-Err : goal.returns-in-Err
returns-in-Err c =
    as_given (λ (s : ℤ). OpensHere c.args.self.now.place.value c.args.bytes.now c.args.furthest s c.args.self.now.place.value) _ c.in-Err.status (grind (arith, to_z-of_z))
    (subst (λ (o : Option Engine). OpensHere o c.args.bytes.now c.args.furthest c.in-Err.status o)
    (sym (holds_nothing c.args.self.now.place.value c.args.self.now.is_open c.args.self.now.says c.if-self.false))
    (inr (c.in-Err.ensures.opens, c.in-Err.ensures.saved, refl)))
