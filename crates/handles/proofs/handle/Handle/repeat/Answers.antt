use Rattle.std.proofs.Common.{ℤ, Option, arith, refl, sym, ◌∙◌}
use Rattle.std.proofs.lemmas.Int.{to_z-of_z}
use Rattle.handles.specs.Entries.{Repeats}
use Rattle.handles.specs.declared.engine.Engine.{Engine}
use Rattle.handles.specs.declared.engine.Engine.TheVariants as engine
use Rattle.handles.proofs.Steps.{as_given, changes_held}
use Rattle.handles.proofs.handle.Handle.repeat.Goals as goal

pub returns : goal.returns
returns c =
    as_given (λ (s : ℤ). Repeats c.args.self.now.place.value c.args.entry.now s c.put-2.new.self.place.value) _ c.repeat_bytes-status.result (grind (arith, to_z-of_z))
    (changes_held (λ (old new : Option Engine). Repeats old c.args.entry.now c.repeat_bytes-status.result new) c.args.self.now.place.value c.put-2.new.self.place.value
    c.in-Some.engine.value (engine.World c.in-World.bounded) (engine.World c.repeat_bytes-status.new.bounded) c.in-Some.ensures.engine
    (sym c.deref_mut.ensures.value ∙ c.in-World.is) c.put-2.ensures (c.repeat_bytes-status.new.bounded, c.repeat_bytes-status.ensures, refl))
