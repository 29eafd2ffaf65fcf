use Rattle.std.proofs.Common.{Option, refl, sym, ◌∙◌}
use Rattle.handles.specs.Commits.{CommitsBy}
use Rattle.handles.specs.declared.engine.Engine.{Engine}
use Rattle.handles.specs.declared.engine.Engine.TheVariants as engine
use Rattle.handles.proofs.Steps.{changes_held}
use Rattle.handles.proofs.handle.Handle.answer_commit.Goals as goal

pub returns : goal.returns
returns c =
    changes_held
    (λ (old new : Option Engine). CommitsBy old c.args.moment c.args.txn.now.place.value c.commit_to-answer.result new c.commit_to-answer.new.self.place.value)
    c.args.self.now.place.value c.put-2.new.self.place.value c.in-Some.engine.value (engine.World c.in-World.bounded) (engine.World c.commit_to-answer.new.bounded)
    c.in-Some.ensures.engine (sym c.deref_mut.ensures.value ∙ c.in-World.is) c.put-2.ensures (c.commit_to-answer.new.bounded, c.commit_to-answer.ensures, refl)
