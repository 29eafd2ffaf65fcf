use Rattle.std.proofs.Common.{ℤ, Option, arith, refl, sym, ◌∙◌}
use Rattle.std.proofs.lemmas.Int.{to_z-of_z}
use Rattle.handles.specs.Txns.{ReadsOver}
use Rattle.handles.specs.declared.engine.Engine.{Engine}
use Rattle.handles.specs.declared.engine.Engine.TheVariants as engine
use Rattle.handles.proofs.Steps.{as_given, changes_held}
use Rattle.handles.proofs.handle.Handle.read_over.Goals as goal

pub returns : goal.returns
returns c =
    as_given (λ (s : ℤ). ReadsOver c.args.world.now c.args.self.now.place.value c.args.operations.now s c.put-2.new.self.place.value) _ c.read_more-status.result
    (grind (arith, to_z-of_z))
    (changes_held (λ (old new : Option Engine). ReadsOver c.args.world.now old c.args.operations.now c.read_more-status.result new) c.args.self.now.place.value
    c.put-2.new.self.place.value c.in-Some.engine.value (engine.Reads c.in-Reads.reads) (engine.Reads c.read_more-status.new.reads) c.in-Some.ensures.engine
    (sym c.deref_mut.ensures.value ∙ c.in-Reads.is) c.put-2.ensures (c.read_more-status.new.reads, c.read_more-status.ensures, refl))
