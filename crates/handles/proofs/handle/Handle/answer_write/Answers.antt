use Rattle.std.proofs.Common.{Option, refl, sym, ◌∙◌}
use Rattle.handles.specs.Writes.{WritesBy}
use Rattle.handles.specs.declared.engine.Engine.{Engine}
use Rattle.handles.specs.declared.engine.Engine.TheVariants as engine
use Rattle.handles.proofs.Steps.{changes_held}
use Rattle.handles.proofs.handle.Handle.answer_write.Goals as goal

pub returns-clause-writes : goal.returns-clause-writes
returns-clause-writes c =
    changes_held
    (λ (old new : Option Engine). WritesBy old c.args.moment c.args.lease.now.place.value c.args.operations.now c.write_under-answer.result new)
    c.args.self.now.place.value c.put-2.new.self.place.value c.in-Some.engine.value (engine.World c.in-World.bounded) (engine.World c.write_under-answer.new.bounded)
    c.in-Some.ensures.engine (sym c.deref_mut.ensures.value ∙ c.in-World.is) c.put-2.ensures (c.write_under-answer.new.bounded, c.write_under-answer.ensures.writes, refl)
