use Rattle.std.proofs.Common.{◌≡◌}
use Rattle.std.specs.Prelude.{IfOk}
use Rattle.rollout.specs.State.{facts_of, recent}
use Rattle.locked_store.specs.Answers.{no_place}
use Rattle.locked_store.proofs.Through.{answers_so}
use Rattle.locked_store.proofs.shared.Shared.schema.Goals as goal

pub returns : goal.returns
returns g c =
    answers_so g.L.SharedLedger.start c.args.me.now c.schema.result c.through.result c.schema.new.me (λ s r d. IfOk r (λ x. x ≡ recent (facts_of s) c.args.version) × (d ≡ s)) no_place _ _ c.through.ensures c.schema.ensures
